use Rattle.std.proofs.Common.{◌++◌, take}
use Rattle.ledger_lines.proofs.Imports.{Appends-trans}
use Rattle.ledger_lines.proofs.Putting.{moves_front}
use Rattle.ledger_lines.proofs.put.put.Goals as goal

pub loop-preserved : goal.loop-preserved
loop-preserved g c =
    let (done, split, appended) = c.loop.invariant in
    let rest = c.loop.rest.now in
    let n = c.in_ok-taken.taken in
    (done ++ take n rest, moves_front _ done rest n split, Appends-trans _ _ _ _ _ appended c.in_ok-taken.ensures.taken)
