use Rattle.std.proofs.Common.{subst}
use Rattle.command_line.proofs.Imports.{take, slice_index, Appends, Appends-trans, calls_text, worker_text}
use Rattle.command_line.proofs.Workers.{next_worker}
use Rattle.command_line.proofs.receipts.print_calls.Goals as goal

pub loop-worker-preserved : goal.loop-worker-preserved
loop-worker-preserved g c =
    let calls = c.args.calls.now in
    let i = c.loop-worker.worker-counter in
    let a = g.W.Write.contents c.args.out.now in
    let b = g.W.Write.contents c.loop-worker.out in
    let d = g.W.Write.contents c.writeln.new.self in
    let printed : Appends b d (worker_text i (slice_index calls i)) = c.in_ok-writeln.ensures.bytes in
    subst (Appends a d) (next_worker calls i c.loop-worker-test.true)
    (Appends-trans a b d (calls_text 0 (take i calls)) (worker_text i (slice_index calls i)) c.loop-worker.invariant printed)
