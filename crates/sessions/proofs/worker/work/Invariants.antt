use Rattle.std.proofs.Common.{◌≡◌, ◌++◌, ℕ, List, None}
use Rattle.crossbeam_queue.specs.Passes.{view, IsPassOf}
use Rattle.sessions.proofs.Imports.{jobs_in, known_by}
use Rattle.sessions.proofs.worker.work.Given as goal

abbrev pub invariant-loop : goal.invariant-loop
invariant-loop g l =
    (l.mine.worker ≡ l.fn.seat.worker) × ((known_by l.mine.pass).job ≡ None)
    × IsPassOf l.run.queue.now l.own × ((view l.own).parts ≡ (view l.fn.pass).parts) × ((view l.own).pushed ≡ (view l.fn.pass).pushed)
    × ((more : List (ℕ × ℕ)) × ((known_by l.mine.pass).notes ≡ (known_by l.fn.seat.pass).notes ++ more) × ((view l.own).popped ≡ (view l.fn.pass).popped ++ jobs_in more))
    × (g.H.Telling.told l.hand ≡ jobs_in (known_by l.mine.pass).notes)
