use Rattle.std.proofs.Common.{Option, subst, ◌∙◌}
use Rattle.session_calls.proofs.Imports.{SlotFits, Op}
use Rattle.session_calls.proofs.Going.{event_of_end}
use Rattle.session_calls.proofs.Slots.{shown}
use Rattle.session_calls.proofs.moves.end.Goals as goal

pub returns-clause-goes : goal.returns-clause-goes
returns-clause-goes g c sets start history number call fits =
    let is = shown c.slot.inside.is_running c.slot.inside.op c.args.slot.now c.slot.view_is c.if-not-slot.false ∙ c.in-Some.is in
    event_of_end (g.S.PageStore.state c.args.store.now) (g.S.PageStore.state c.let_go.new.store) start history number call c.in-Some.op
    (subst (λ (slot : Option Op). SlotFits (g.S.PageStore.state c.args.store.now) sets start history number call slot) is fits)
    c.let_go.ensures.state
