-- What is left to do for what a session runs has a bound at each moment.
use Rattle.std.proofs.Common.{◌≡◌, ◌<◌, Option, Some, None, slice_get, refl, arith}
use Rattle.session_calls.proofs.Bounds.{calls_bounded}
use Rattle.schedule.proofs.Imports.{unwrap_or, Ghosts, work_in, Op, SlotMatches}
use Rattle.schedule.specs.Bounds.{WorkIsBounded}
use Rattle.schedule.proofs.Fitting.{running_of}

pub work_bounded : {S : Type 0} (g : Ghosts S) → WorkIsBounded g
work_bounded {S} g start now fits few session = by (slice_get now.slots session) (running_of fits session)
  where
    in_slot : (slot : Option Op) → SlotMatches g start now session slot → work_in (g.state now.store) slot < 4398046511104
    in_slot None free = omega arith
    in_slot (Some op) runs = calls_bounded (g.state now.store) op fits.invariant.order few runs.runs.fits

    by : (found : Option (Option Op)) → ((slot : Option Op) → found ≡ Some slot → SlotMatches g start now session slot)
        → work_in (g.state now.store) (unwrap_or found None) < 4398046511104
    by None matches = omega arith
    by (Some slot) matches = in_slot slot (matches slot refl)
