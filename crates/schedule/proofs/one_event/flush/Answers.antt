use Rattle.std.proofs.Common.{refl, sym, ◌∙◌}
use Rattle.schedule.proofs.Imports.{Refused, Flushes}
use Rattle.schedule.proofs.Making.{flush_makes, not_kept_makes}
use Rattle.schedule.proofs.one_event.flush.Goals as goal

pub returns-in-Ok-clause-makes : goal.returns-in-Ok-clause-makes
returns-in-Ok-clause-makes g c slots sets =
    let laws = g.met.S.PageStore.laws in
    flush_makes g.S.PageStore laws c.args.store.now c.flush.new.self (c.flush.ensures.steps _ (laws.follows_same _)) slots sets c.flush.ensures.state c.in-Ok.block
    (record { first = c.in-Ok.ensures.block; others = c.in-Ok.ensures.written; room = c.flush.ensures.room })
    (λ stopped. (let e = sym c.in-Ok.is ∙ c.flush.ensures.stopped stopped in cc))

pub returns-in-Err-clause-makes : goal.returns-in-Err-clause-makes
returns-in-Err-clause-makes g c slots sets =
    let laws = g.met.S.PageStore.laws in
    not_kept_makes g.S.PageStore laws c.args.store.now c.flush.new.self (c.flush.ensures.steps _ (laws.follows_same _)) slots sets Flushes (Refused c.in-Err.fault) c.flush.ensures.state
    (record { waiting = c.in-Err.ensures.order; room = c.flush.ensures.room }) c.in-Err.fault refl
    (λ stopped. (let e = sym c.in-Err.is ∙ c.flush.ensures.stopped stopped in cc)) c.in-Err.ensures.cause
