use Rattle.std.proofs.Common.{◌≡◌, ◌∙◌, ◌*◌, ℕ, List, length, take, drop, Fits, w8, ◌+◌, ap, sym, subst, refl, arith, length-take-le}
use Rattle.redo_log.proofs.Imports.{w32, from_le_bytes, drop-drop, get_or-drop}
use Rattle.redo_log.proofs.Parsing.{group_fits, group_images, group_noted, take_small}
use Rattle.redo_log.proofs.reading.note_group.Goals.{After-from_le_bytes-count, then-count-eq0-via-then-count-eq0, then-count-eq0-via-else-count-eq0+then-bodies-count}
use Rattle.redo_log.proofs.reading.note_group.Goals as goal

-- the number that the group begins with, and the images after it
module _ (c : After-from_le_bytes-count) where
  abbrev after : List ℕ
  after = drop c.args.at c.args.log.now

  head : c.in_ok-number.number.now ≡ take 4 after
  head = c.in_ok-number.ensures.cases.0 ∙ ap (take 4) c.tail.ensures.value

  bodies : c.in_ok-number.bodies.now ≡ drop 4 after
  bodies = c.in_ok-number.ensures.cases.1 ∙ ap (drop 4) c.tail.ensures.value

  number : c.from_le_bytes-count.result ≡ from_le_bytes w32 (take 4 after)
  number = c.from_le_bytes-count.ensures ∙ ap (from_le_bytes w32) head

pub returns-then-count-eq0-clause-wrong : goal.returns-then-count-eq0-clause-wrong
returns-then-count-eq0-clause-wrong c = λ none group rest good more e.
    let c' = (goal.at.returns-then-count-eq0-clause-wrong c).After-from_le_bytes-count in
    let f = group_fits c.args.format.now _ rest group _ good e (number c') more in
    elim c.then-count-eq0.branch [
      | then-count-eq0-via-then-count-eq0 w ↦ absurd (omega (arith, f.0, w.if-count-eq0.true))
      | then-count-eq0-via-else-count-eq0+then-bodies-count w ↦ absurd (omega (arith, f.1, w.if-bodies-count.true, ap length (bodies c')))
    ]

pub returns-then-not-note_images-clause-wrong : goal.returns-then-not-note_images-clause-wrong
returns-then-not-note_images-clause-wrong c = λ none group rest good more e.
    let c' = (goal.at.returns-then-not-note_images-clause-wrong c).After-from_le_bytes-count in
    let count = c.from_le_bytes-count.result in
    c.if-not-note_images.ensures.wrong group good.images
    (ap (take (4096 * count)) (sym (drop-drop 4 c.args.at c.args.log.now)) ∙ group_images c.args.format.now _ rest group count good e (number c'))

pub returns-clause-noted : goal.returns-clause-noted
returns-clause-noted c =
    let c' = (goal.at.returns-clause-noted c).After-from_le_bytes-count in
    let here = after c' in
    let long : length (take 4 here) ≡ 4 = length-take-le 4 here (omega (arith, c.in_ok-number.ensures.cases.2, ap length c.tail.ensures.value)) in
    group_noted c.args.format.now c.args.log.now c.in_ok-number.bodies.now (take 4 here) c.args.at c.from_le_bytes-count.result _ _ refl (bodies c')
    long (take_small 4 here (λ i. subst (Fits w8) (sym (get_or-drop c.args.at c.args.log.now i 0)) (c.type_inv.log (c.args.at + i)))) (number c')
    (omega arith) (omega arith) (omega arith) c.if-not-note_images.ensures.noted
