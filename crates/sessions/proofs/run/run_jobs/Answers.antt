use Rattle.std.proofs.Common.{length, rules}
use mathlib.Core.Logic.{∥∥₁_elim}
use Rattle.std.proofs.Math.Nat.{ℕ_set}
use Rattle.sessions.proofs.Imports.{∥∥₁_map, IsFinished}
use Rattle.sessions.proofs.run.run_jobs.Goals as goal

pub returns-in-Ok-clause-later : goal.returns-in-Ok-clause-later
returns-in-Ok-clause-later g c =
    let f : IsFinished g.S.PageStore g.T.DeadRows c.args.jobs.now c.args.workers c.args.world c.in-Ok.finished = search rules in
    ∥∥₁_map f.comes (λ k. k.later)

pub returns-in-Ok-clause-start : goal.returns-in-Ok-clause-start
returns-in-Ok-clause-start g c =
    let f : IsFinished g.S.PageStore g.T.DeadRows c.args.jobs.now c.args.workers c.args.world c.in-Ok.finished = search rules in
    ∥∥₁_elim f.comes (ℕ_set c.in-Ok.finished.start (g.S.PageStore.state c.args.world.store).acts) (λ k. k.start_is)

pub returns-in-Ok-clause-sessions : goal.returns-in-Ok-clause-sessions
returns-in-Ok-clause-sessions g c =
    let f : IsFinished g.S.PageStore g.T.DeadRows c.args.jobs.now c.args.workers c.args.world c.in-Ok.finished = search rules in
    ∥∥₁_elim f.comes (ℕ_set (length c.in-Ok.finished.world.calls.slots.items) (length c.args.world.calls.slots.items)) (λ k. k.sessions_are)

pub returns-in-Ok-clause-sets : goal.returns-in-Ok-clause-sets
returns-in-Ok-clause-sets g c =
    let f : IsFinished g.S.PageStore g.T.DeadRows c.args.jobs.now c.args.workers c.args.world c.in-Ok.finished = search rules in
    ∥∥₁_map f.comes (λ k. k.sets_are)
