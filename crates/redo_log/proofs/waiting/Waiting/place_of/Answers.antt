use Rattle.std.proofs.Common.{◌∙◌, arith}
use Rattle.std.proofs.lemmas.List.{get_or_read}
use Rattle.redo_log.proofs.BlockLists.{is_among-none}
use Rattle.redo_log.proofs.waiting.Waiting.place_of.Goals.{else-place-len-via-then-place-len+else-index-block, else-place-len-via-else-place-len}
use Rattle.redo_log.proofs.waiting.Waiting.place_of.Goals as goal

pub returns-else-place-len-clause-none : goal.returns-else-place-len-clause-none
returns-else-place-len-clause-none c =
    let s = c.args.self.now in
    let place = c.index.result.now in
    is_among-none s.places.items s.blocks.items c.args.block place s.placed (get_or_read s.places.items c.args.block place c.requires c.index.ensures 0) (λ lt is. elim c.else-place-len.branch [
      | else-place-len-via-then-place-len+else-index-block w ↦ w.if-index-block.false (get_or_read s.blocks.items place _ lt w.index-then-place-len.ensures 0 ∙ is)
      | else-place-len-via-else-place-len w ↦ absurd (omega (arith, lt, w.if-place-len.false))
    ])
