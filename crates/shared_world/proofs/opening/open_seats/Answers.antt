use Rattle.std.proofs.Common.{◌++◌, ◌∷◌, [], ◌+◌, None, length, sym, ap, ◌∙◌}
use Rattle.shared_world.proofs.Imports.{SessionView, registry_with}
use Rattle.shared_world.proofs.Ending.{none_more, none_long, seats_more, seats_as}
use Rattle.shared_world.proofs.opening.open_seats.Goals as goal

pub open-seat-requires-clause-session : goal.open-seat-requires-clause-session
open-seat-requires-clause-session g c = sym (ap (λ (v : SessionView). length v.pending) c.loop-session.invariant.0 ∙ none_long c.loop-session.session)

pub loop-session-preserved : goal.loop-session-preserved
loop-session-preserved g c =
    let i = c.loop-session.invariant in
    let n = c.loop-session.session in
    let opened = c.open-seat.ensures in
    let push = c.push_reserved.ensures in (
      opened.registry ∙ ap (λ (v : SessionView). registry_with [] (v.pending ++ None ∷ [])) i.0 ∙ ap (registry_with []) (none_more n),
      push.len ∙ ap (λ x. x + 1) i.1,
      push.capacity ∙ i.2,
      (λ sets. seats_as sets (n + 1) _ _ push.items (seats_more sets c.loop-session.seats.items n c.open-seat.result (sym i.1 ∙ c.loop-session.seats.ok.0) opened.session opened.call (i.3 sets))),
    )
