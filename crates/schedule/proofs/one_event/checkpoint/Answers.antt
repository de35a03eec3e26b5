use Rattle.std.proofs.Common.{refl, sym, ◌∙◌}
use Rattle.schedule.proofs.Imports.{Checkpointed, Refused, Checkpoints}
use Rattle.schedule.proofs.Making.{kept_makes, not_kept_makes}
use Rattle.schedule.proofs.one_event.checkpoint.Goals as goal

pub returns-in-Ok-clause-makes : goal.returns-in-Ok-clause-makes
returns-in-Ok-clause-makes g c slots sets =
    let laws = g.met.S.PageStore.laws in
    kept_makes g.S.PageStore laws c.args.store.now c.checkpoint.new.self (c.checkpoint.ensures.steps _ (laws.follows_same _)) slots sets Checkpoints
    (Checkpointed c.in-Ok.count) c.checkpoint.ensures.state
    (record { none = c.in-Ok.ensures.clean; room = c.in-Ok.ensures.room }) c.in-Ok.count refl c.in-Ok.ensures.number c.in-Ok.ensures.durable
    (λ stopped. (let e = sym c.in-Ok.is ∙ c.checkpoint.ensures.stopped stopped in cc))

pub returns-in-Err-clause-makes : goal.returns-in-Err-clause-makes
returns-in-Err-clause-makes g c slots sets =
    let laws = g.met.S.PageStore.laws in
    not_kept_makes g.S.PageStore laws c.args.store.now c.checkpoint.new.self (c.checkpoint.ensures.steps _ (laws.follows_same _)) slots sets
    Checkpoints (Refused c.in-Err.fault) c.checkpoint.ensures.state
    (record { kept = c.in-Err.ensures.failed; rest = c.in-Err.ensures.rest; room = c.in-Err.ensures.kept }) c.in-Err.fault refl
    (λ stopped. (let e = sym c.in-Err.is ∙ c.checkpoint.ensures.stopped stopped in cc)) c.in-Err.ensures.cause
