use Rattle.std.proofs.Common.{refl, sym, ◌∙◌}
use Rattle.schedule.proofs.Imports.{Forced, Refused, Forces}
use Rattle.schedule.proofs.Making.{kept_makes, not_kept_makes}
use Rattle.schedule.proofs.one_event.force.Goals as goal

pub returns-in-Ok-clause-makes : goal.returns-in-Ok-clause-makes
returns-in-Ok-clause-makes g c slots sets =
    let laws = g.met.S.PageStore.laws in
    kept_makes g.S.PageStore laws c.args.store.now c.force.new.self (c.force.ensures.steps _ (laws.follows_same _)) slots sets Forces (Forced c.in-Ok.count) c.force.ensures.state
    (record { waiting = c.force.ensures.order; room = c.force.ensures.room }) c.in-Ok.count refl c.in-Ok.ensures.number c.in-Ok.ensures.durable
    (λ stopped. (let e = sym c.in-Ok.is ∙ c.force.ensures.stopped stopped in cc))

pub returns-in-Err-clause-makes : goal.returns-in-Err-clause-makes
returns-in-Err-clause-makes g c slots sets =
    let laws = g.met.S.PageStore.laws in
    not_kept_makes g.S.PageStore laws c.args.store.now c.force.new.self (c.force.ensures.steps _ (laws.follows_same _)) slots sets Forces (Refused c.in-Err.fault) c.force.ensures.state
    (record { stopped = c.in-Err.ensures.failed; waiting = c.force.ensures.order; room = c.force.ensures.room }) c.in-Err.fault refl
    (λ stopped. (let e = sym c.in-Err.is ∙ c.force.ensures.stopped stopped in cc)) c.in-Err.ensures.cause
