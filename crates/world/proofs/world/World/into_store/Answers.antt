use Rattle.std.proofs.Common.{◌≡◌, true, sym, ap, ◌∙◌}
use Rattle.page_action.specs.States.{Backing}
use Rattle.world.proofs.Ending.{has_none}
use Rattle.world.proofs.world.World.into_store.Goals as goal

pub returns-clause-idle : goal.returns-clause-idle
returns-clause-idle g c honest start history calls fits session =
    let now = c.end_calls.ensures.fits (ap (λ (b : Backing). b.honest) c.end_calls.ensures.backing ∙ honest) start history calls fits in
    now.2.invariant.idle session (has_none c.end_calls.new.self.calls.slots.items session (c.end_calls.ensures.over session))
