-- What passes outlive the lock with. The registry's lies under the lock. It knows the log of all calls that
-- are over, and which call each session runs. A seat knows the call that its own session runs, and those of
-- the log that are its session's.
use Rattle.std.specs.Prelude.{◌≡◌, ◌==◌, ◌<◌, ℕ, suc, List, [], ◌∷◌, ◌++◌, length, Option, Some, None, slice_set, slice_get, Bool, true, false, if◌then◌else◌}
use mathlib.Core.Option.{some}
use lib.ListN.{get_elem?}
use Rattle.atomic_table.specs.Seated.{TableId}
use Rattle.atomic_table.specs.Table.{Step, Me}
use Rattle.atomic_table.specs.declared.shared.Seat.{Seat as CellSeat}
use Rattle.index_model.specs.Row.{Row}
use Rattle.session_seats.specs.Calls.{begun_by, given_by, completed_by}
use Rattle.session_seats.specs.declared.call.CompletedCall.{CompletedCall}
use Rattle.session_seats.specs.declared.call.Notice.{Notice}
use Rattle.session_seats.specs.declared.call.PendingCall.{PendingCall}
use Rattle.session_seats.specs.declared.seating.SessionView.{SessionView}

-- the name of no cell
abbrev pub no_cell : TableId
no_cell = record { words = 0; slots = 0; views_name = 0; atom = 0; block = 0; offset = 0; slot_names = [] }

-- the calls of a session in this log with their places, of which the first is that
abbrev pub calls_from : ℕ → ℕ → List CompletedCall → List (ℕ × CompletedCall)
calls_from place session [] = []
calls_from place session (call ∷ log) =
    if call.session == session
    then (place, call) ∷ calls_from (suc place) session log
    else calls_from (suc place) session log

-- ... in a whole log
abbrev pub calls_by : ℕ → List CompletedCall → List (ℕ × CompletedCall)
calls_by session log = calls_from 0 session log

-- what a pass of the cell knows
abbrev pub view_of : CellSeat Notice SessionView → SessionView
view_of pass = pass.me.0

-- the view of a registry, which sits for no session
abbrev pub registry_with : List CompletedCall → List (Option PendingCall) → SessionView
registry_with log pending = record { keeps = true; log = log; pending = pending; sits = false; session = 0; call = None; calls = [] }

-- the view of a seat: for this session, which runs this call or none, and has had these
abbrev pub sitting : Bool → ℕ → Option PendingCall → List (ℕ × CompletedCall) → SessionView
sitting sits session call calls = record { keeps = false; log = []; pending = []; sits = sits; session = session; call = call; calls = calls }

-- the view of a pass that knows nothing
abbrev pub no_view : SessionView
no_view = sitting false 0 None []

-- the registry's view with that of a seat beside it
abbrev pub seated : SessionView → SessionView → SessionView
seated registry seat = record seat { keeps = registry.keeps; log = registry.log; pending = registry.pending }

-- the registry's part of such a view, and the seat's
abbrev pub registry_part : SessionView → SessionView
registry_part v = record no_view { keeps = v.keeps; log = v.log; pending = v.pending }

abbrev pub seat_part : SessionView → SessionView
seat_part v = sitting v.sits v.session v.call v.calls

-- the registry's view with one session more, which runs nothing, and the view of that session's seat
abbrev pub registry_opening : SessionView → SessionView
registry_opening v = record (registry_part v) { pending = v.pending ++ None ∷ [] }

abbrev pub seat_opening : SessionView → SessionView
seat_opening v = sitting true (length v.pending) None (calls_by (length v.pending) v.log)

-- the view after the session's call is this
abbrev pub when_changed : SessionView → Option PendingCall → SessionView
when_changed v call = record v { pending = slice_set v.pending v.session call; call = call }

-- ... after it has begun, to remove these rows, or given an entry
abbrev pub when_begun : List Row → SessionView → Notice → SessionView
when_begun rows v notice = when_changed v (Some (begun_by rows notice (length v.log)))

abbrev pub when_given : SessionView → Notice → SessionView
when_given v notice = when_changed v (given_by notice v.call)

-- ... and after it has ended. It has a place in the log
abbrev pub when_ended : SessionView → Notice → SessionView
when_ended v notice = record v {
  log = v.log ++ completed_by v.session notice v.call ∷ [];
  pending = slice_set v.pending v.session None;
  call = None;
  calls = v.calls ++ (length v.log, completed_by v.session notice v.call) ∷ [];
}

-- a registry is the pass of this number, and knows this log and which call each session runs
pub record RegistryAgrees (desk : ℕ) (log : List CompletedCall) (pending : List (Option PendingCall)) (pass : ℕ) (v : SessionView) : Type 0 where
  pub desk_is : pass ≡ desk
  pub log_is : v.log ≡ log
  pub pending_is : v.pending ≡ pending

-- a seat knows which call its session runs, and those of the log that are its own
pub record SeatAgrees (log : List CompletedCall) (pending : List (Option PendingCall)) (v : SessionView) : Type 0 where
  pub call_is : slice_get pending v.session ≡ Some v.call
  pub calls_are : v.calls ≡ calls_by v.session log

-- what a pass knows fits, as far as it keeps or sits
pub record ViewAgrees (desk : ℕ) (log : List CompletedCall) (pending : List (Option PendingCall)) (pass : ℕ) (v : SessionView) : Type 0 where
  pub registry : v.keeps ≡ true → RegistryAgrees desk log pending pass v
  pub seat : v.sits ≡ true → SeatAgrees log pending v

-- no two passes sit for one session
abbrev pub SitForOne : List SessionView → Type 0
SitForOne views =
    (i j : ℕ) (u v : SessionView) → get_elem? views i ≡ some u → get_elem? views j ≡ some v
    → u.sits ≡ true → v.sits ≡ true → u.session ≡ v.session → i ≡ j

-- The rule of the seats: there is one registry at most, and one log and one list of pending calls that all
-- views fit.
pub record ViewsAgree (views : List SessionView) : Type 0 where
  pub desk : ℕ
  pub log : List CompletedCall
  pub pending : List (Option PendingCall)
  pub each : (pass : ℕ) (v : SessionView) → get_elem? views pass ≡ some v → ViewAgrees desk log pending pass v
  pub apart : SitForOne views

-- a step with a notice has made of a view what the notice makes of it
abbrev pub HasHeard : (SessionView → Notice → SessionView) → Step Notice → Me Notice SessionView → ℕ → Me Notice SessionView → Type 0
HasHeard after s v found w = (notice : Notice) → s.said ≡ some notice → w ≡ (after v.0 notice, v.1)

-- the call begins, to remove these rows; it gives an entry; it ends
abbrev pub HasBegunCall : List Row → Step Notice → Me Notice SessionView → ℕ → Me Notice SessionView → Type 0
HasBegunCall rows s v found w = HasHeard (when_begun rows) s v found w

abbrev pub HasGivenEntry : Step Notice → Me Notice SessionView → ℕ → Me Notice SessionView → Type 0
HasGivenEntry s v found w = HasHeard when_given s v found w

abbrev pub HasEndedCall : Step Notice → Me Notice SessionView → ℕ → Me Notice SessionView → Type 0
HasEndedCall s v found w = HasHeard when_ended s v found w

-- a look at the cell tells a registry that the seat beside it fits
pub record HasLooked (s : Step Notice) (v : Me Notice SessionView) (found : ℕ) (w : Me Notice SessionView) : Type 0 where
  pub same : w ≡ v
  pub fits : (v.0).sits ≡ true → SeatAgrees (v.0).log (v.0).pending v.0

-- the cell of these seats, which has a word
pub record IsSessionCell (seats : TableId) (cell : TableId) : Type 0 where
  pub of : cell ≡ seats
  pub word : 0 < cell.words
