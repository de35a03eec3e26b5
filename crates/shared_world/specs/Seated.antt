-- The seats of the workers' sessions, which lie under the lock too.
use Rattle.std.specs.Prelude.{◌≡◌, ◌<◌, ℕ, Option, Some, List, slice_get}
use Rattle.session_calls.specs.TheoremCalls.{DeadSets}
use Rattle.session_seats.specs.Seats.{view_of}
use Rattle.session_seats.specs.declared.group.SessionGroup.{Ghosts as GroupGhosts}
use Rattle.session_seats.specs.declared.seat.SessionSeat.{SessionSeat}
use Rattle.shared_world.specs.Notes.{pending_call_of}
use Rattle.shared_world.specs.declared.record.Pending.{Pending}

-- a seat is there
abbrev pub HoldsSeat : {J : Type 0} {group : GroupGhosts J} → Option (Option (SessionSeat J group)) → Type 0
HoldsSeat (Some (Some seat)) = Unit {0}
HoldsSeat place = ⊥

-- ... that of this session, which runs the call of this job or none
abbrev pub IsSeatAt : {J : Type 0} {group : GroupGhosts J} → DeadSets → ℕ → Option (Option Pending) → Option (Option (SessionSeat J group)) → Type 0
IsSeatAt sets session (Some running) (Some (Some seat)) = (seat.session ≡ session) × ((view_of seat.pass).call ≡ pending_call_of sets running)
IsSeatAt sets session running place = ⊥

-- so is that of each worker's session
abbrev pub AreSeated : {J : Type 0} {group : GroupGhosts J} → DeadSets → ℕ → List (Option Pending) → List (Option (SessionSeat J group)) → Type 0
AreSeated sets workers pending seats = (session : ℕ) → session < workers → IsSeatAt sets session (slice_get pending session) (slice_get seats session)
