use Rattle.std.proofs.Common.{◌≡◌, ◌+◌, ◌-◌, ◌*◌, ◌++◌, List, ℕ, length, take, drop, ◌∙◌, ap, arith}
use borrow.Rule.Slice.PartMut.{put_mid}
use Rattle.redo_log.proofs.Imports.{with_items_is}
use Rattle.redo_log.proofs.Laying.{laid_behind, length-put}
use Rattle.redo_log.proofs.lay.lay_image.Goals.{After-put_image}
use Rattle.redo_log.proofs.lay.lay_image.Goals as goal

-- the buffer as the image leaves it
module _ (c : After-put_image) where
  abbrev at : ℕ
  at = 4 + 4096 * c.args.count

  abbrev put : List ℕ
  put = put_mid at (at + 4096 - at) c.deref_mut.result.now c.put_image.new.place

  long : length put ≡ c.lengthen.new.buffer.len
  long =
      length-put at (at + 4096 - at) c.deref_mut.result.now c.put_image.new.place (omega (arith, c.put_image.auto.place))
      (omega (arith, c.deref_mut.ensures.len, ap length c.deref_mut.ensures.value, c.lengthen.ensures.len)) ∙ c.deref_mut.ensures.len

pub returns-clause-laid : goal.returns-clause-laid
returns-clause-laid c =
    let c' = (goal.at.returns-clause-laid c).After-put_image in
    let piece = c.put_image.new.place in
    let part : at c' + 4096 - at c' ≡ 4096 = omega arith in
    laid_behind c.args.count c.args.buffer.now.items c.lengthen.new.buffer.items piece _ c.lengthen.ensures.kept c.requires.reaches
    (omega (arith, c.lengthen.ensures.len)) (omega (arith, c.put_image.auto.place))
    (with_items_is c.lengthen.new.buffer (put c') (long c') ∙ ap (λ (n : ℕ). put_mid (at c') n c.deref_mut.result.now piece) part
    ∙ ap (λ (l : List ℕ). put_mid (at c') 4096 l piece) c.deref_mut.ensures.value)
    ∙ ap (λ (l : List ℕ). take (4096 * c.args.count) (drop 4 c.args.buffer.now.items) ++ l) c.put_image.ensures
