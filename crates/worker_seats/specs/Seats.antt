-- What passes outlive the lock with. The registry's lies under the lock, and knows the log of all notes and
-- what each session runs; a worker's seat knows what its own session runs, and its own notes. A note is of a
-- call that is over: its worker and its job.
use Rattle.std.specs.Prelude.{◌≡◌, ◌==◌, ◌<◌, ℕ, suc, List, [], ◌∷◌, ◌++◌, length, Option, Some, None, slice_get, slice_set, Bool, true, false, if◌then◌else◌}
use mathlib.Core.Option.{some}
use lib.ListN.{get_elem?}
use Rattle.atomic_table.specs.Seated.{TableId}
use Rattle.atomic_table.specs.Table.{Step, Me}
use Rattle.atomic_table.specs.declared.shared.Seat.{Seat as CellSeat}
use Rattle.worker_seats.specs.declared.seating.SeatView.{SeatView}

-- the name of no cell
abbrev pub no_table : TableId
no_table = record { words = 0; slots = 0; views_name = 0; atom = 0; block = 0; offset = 0; slot_names = [] }

-- the places and jobs of a worker's notes in this log, whose first place is that
abbrev pub notes_from : ℕ → ℕ → List (ℕ × ℕ) → List (ℕ × ℕ)
notes_from place worker [] = []
notes_from place worker (note ∷ log) =
    if note.0 == worker
    then (place, note.1) ∷ notes_from (suc place) worker log
    else notes_from (suc place) worker log

-- ... in a whole log
abbrev pub notes_by : ℕ → List (ℕ × ℕ) → List (ℕ × ℕ)
notes_by worker log = notes_from 0 worker log

-- what a pass of the cell knows
abbrev pub known_by : CellSeat (Unit {0}) SeatView → SeatView
known_by pass = pass.me.0

-- the view of a registry, which sits for no session
abbrev pub registry_of : List (ℕ × ℕ) → List (Option ℕ) → SeatView
registry_of log running = record { keeps = true; log = log; running = running; sits = false; worker = 0; job = None; notes = [] }

-- the view of a seat: for this session, which runs this job or none, with these notes
abbrev pub seat_view : Bool → ℕ → Option ℕ → List (ℕ × ℕ) → SeatView
seat_view sits worker job notes = record { keeps = false; log = []; running = []; sits = sits; worker = worker; job = job; notes = notes }

-- the view of a pass that knows nothing
abbrev pub nobody : SeatView
nobody = seat_view false 0 None []

-- the registry's view with that of a seat beside it
abbrev pub beside : SeatView → SeatView → SeatView
beside registry seat = record seat { keeps = registry.keeps; log = registry.log; running = registry.running }

-- the registry's part of such a view, and the seat's
abbrev pub registry_in : SeatView → SeatView
registry_in v = record nobody { keeps = v.keeps; log = v.log; running = v.running }

abbrev pub seat_in : SeatView → SeatView
seat_in v = seat_view v.sits v.worker v.job v.notes

-- the registry's view with one session more, which runs nothing, and the view of that session's seat
abbrev pub registry_of_one_more : SeatView → SeatView
registry_of_one_more v = record (registry_in v) { running = v.running ++ None ∷ [] }

abbrev pub seat_of_one_more : SeatView → SeatView
seat_of_one_more v = seat_view true (length v.running) None (notes_by (length v.running) v.log)

-- the view after the session's call for this job has begun
abbrev pub after_start : SeatView → ℕ → SeatView
after_start v job = record v { running = slice_set v.running v.worker (Some job); job = Some job }

-- ... and after it has ended, with its note
abbrev pub after_note : SeatView → ℕ → SeatView
after_note v job = record v {
  log = v.log ++ (v.worker, job) ∷ [];
  running = slice_set v.running v.worker None;
  job = None;
  notes = v.notes ++ (length v.log, job) ∷ [];
}

-- a registry is the pass of this number, and knows this log and what each session runs
pub record RegistryFits (desk : ℕ) (log : List (ℕ × ℕ)) (running : List (Option ℕ)) (pass : ℕ) (v : SeatView) : Type 0 where
  pub desk_is : pass ≡ desk
  pub log_is : v.log ≡ log
  pub running_is : v.running ≡ running

-- a seat knows what its session runs, and its notes
pub record SeatFits (log : List (ℕ × ℕ)) (running : List (Option ℕ)) (v : SeatView) : Type 0 where
  pub job_is : slice_get running v.worker ≡ Some v.job
  pub notes_is : v.notes ≡ notes_by v.worker log

-- what a pass knows fits, as far as it keeps or sits
pub record ViewFits (desk : ℕ) (log : List (ℕ × ℕ)) (running : List (Option ℕ)) (pass : ℕ) (v : SeatView) : Type 0 where
  pub registry : v.keeps ≡ true → RegistryFits desk log running pass v
  pub seat : v.sits ≡ true → SeatFits log running v

-- no two passes sit for one session
abbrev pub SitApart : List SeatView → Type 0
SitApart views =
    (i j : ℕ) (u v : SeatView) → get_elem? views i ≡ some u → get_elem? views j ≡ some v
    → u.sits ≡ true → v.sits ≡ true → u.worker ≡ v.worker → i ≡ j

-- The rule of the seats: there is one registry at most, and one log and one list of what each
-- session runs that all views fit.
pub record SeatsFit (views : List SeatView) : Type 0 where
  pub desk : ℕ
  pub log : List (ℕ × ℕ)
  pub running : List (Option ℕ)
  pub each : (pass : ℕ) (v : SeatView) → get_elem? views pass ≡ some v → ViewFits desk log running pass v
  pub apart : SitApart views

-- an exchange of the cell's word begins the call of the job that is the word now
abbrev pub SeatHasStarted : Step (Unit {0}) → Me (Unit {0}) SeatView → ℕ → Me (Unit {0}) SeatView → Type 0
SeatHasStarted s v found w = w ≡ (after_start v.0 s.first, v.1)

-- ... ends it, with its note
abbrev pub HasNoted : Step (Unit {0}) → Me (Unit {0}) SeatView → ℕ → Me (Unit {0}) SeatView → Type 0
HasNoted s v found w = w ≡ (after_note v.0 s.first, v.1)

-- a look at the cell tells a registry that the seat beside it fits
pub record HasChecked (s : Step (Unit {0})) (v : Me (Unit {0}) SeatView) (found : ℕ) (w : Me (Unit {0}) SeatView) : Type 0 where
  pub same : w ≡ v
  pub fits : (v.0).sits ≡ true → SeatFits (v.0).log (v.0).running v.0

-- the cell of these seats, which has a word
pub record IsCellOf (seats : TableId) (cell : TableId) : Type 0 where
  pub of : cell ≡ seats
  pub word : 0 < cell.words
