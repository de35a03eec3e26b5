use Rattle.std.proofs.Common.{◌<◌, arith}
use Rattle.crossbeam_queue.specs.Passes.{view}
use Rattle.worker_seats.proofs.Queueing.{pops_of, learns_of}
use Rattle.sessions.proofs.worker.work.Goals as goal

pub pop_as-requires-clause-rule : goal.pop_as-requires-clause-rule
pop_as-requires-clause-rule g c =
    let part : 0 < (view c.loop.own).parts = omega (arith, c.loop.invariant.3, c.requires.part) in
    (pops_of (λ t. t.job) _ _ part, learns_of (λ t. t.job) _ _)
