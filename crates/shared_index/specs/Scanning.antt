-- A session's scan, from its beginning to its end.
use Rattle.std.specs.Prelude.{◌≡◌, ◌<◌, ℕ, suc, Bool, false, Option, Some, None, Result, Ok, Err, List, [], ◌∷◌, ◌++◌, length}
use Rattle.std.specs.Option.{ForSome}
use Rattle.index_model.specs.declared.entry.Entry.{Entry}
use Rattle.index_model.specs.declared.fault.Fault.{Fault}
use Rattle.index_model.specs.declared.fault.Fault.TheVariants.{BadLimits, Blocked}
use Rattle.index_model.specs.declared.range.Range.{Range}
use Rattle.session_calls.specs.declared.answer.Answer.{Answer}
use Rattle.session_seats.specs.Seats.{view_of}
use Rattle.session_seats.specs.declared.call.CompletedCall.{CompletedCall}
use Rattle.session_seats.specs.declared.group.SessionGroup.{Ghosts}
use Rattle.session_seats.specs.declared.job.Job.TheVariants.{Scan}
use Rattle.session_seats.specs.declared.seat.SessionSeat.{SessionSeat}
use Rattle.session_seats.specs.declared.seating.SessionView.{SessionView}
use Rattle.shared_world.specs.Jobs.{room_of}
use Rattle.shared_world.specs.Leaving.{RunsItsCall, call_in}
use Rattle.shared_index.specs.Results.{told_of_beginning, told_of_scan}
use Rattle.shared_index.specs.Sessions.{HasTold, RunsJob}

-- the room that a session's scan asks for: it gives fewer entries
abbrev pub scan_room : ℕ
scan_room = 4294967295

-- a session runs a scan, which has given so many entries
pub record RunsScan (count : ℕ) (v : SessionView) : Type 0 where
  pub runs : RunsItsCall v
  pub room_is : room_of (call_in v).asked ≡ scan_room
  pub count_is : length (call_in v).given ≡ count
  pub few : count < scan_room

-- ... if its seat is there
abbrev pub SeatScans : {J : Type 0} {h : Ghosts J} → ℕ → Option (SessionSeat J h) → Type 0
SeatScans count seat = ForSome seat (λ s. RunsScan count (view_of s.pass))

-- the scan has given these more, and is open
pub record ScanGoesOn (more : List Entry) (old new : SessionView) : Type 0 where
  pub call_is : new.call ≡ Some (record (call_in old) { given = (call_in old).given ++ more })
  pub calls_are : new.calls ≡ old.calls

-- The scan has given these more, and is over with this answer. The session has had one call more, at a place
-- of the one log: it was asked what the scan was, and has given all that this gave.
pub record ScanIsOver (answer : Answer) (more : List Entry) (old new : SessionView) : Type 0 where
  pub place : ℕ
  pub call : CompletedCall
  pub calls_are : new.calls ≡ old.calls ++ (place, call) ∷ []
  pub asked_is : call.asked ≡ (call_in old).asked
  pub given_is : call.given ≡ (call_in old).given ++ more
  pub answer_is : call.answer ≡ answer
  pub rests : new.call ≡ None

-- ... the one or the other
abbrev pub ScanLeaves : Option Answer → List Entry → SessionView → SessionView → Type 0
ScanLeaves None more old new = ScanGoesOn more old new
ScanLeaves (Some answer) more old new = ScanIsOver answer more old new

-- what it has given stands behind what stood there
pub record HasTakenMore (over : Option Answer) (before after : List Entry) (old new : SessionView) : Type 0 where
  pub more : List Entry
  pub after_is : after ≡ before ++ more
  pub leaves : ScanLeaves over more old new

-- a scan has given as many entries as it may
abbrev pub HasGivenMost : SessionView → Type 0
HasGivenMost v = suc (length (call_in v).given) ≡ scan_room

-- what is told of a scan that is open still: that there is no room, that it is blocked by a page, or that it
-- may give no more
abbrev pub TellsOpen : SessionView → Result Bool Fault → Type 0
TellsOpen v (Ok over) = over ≡ false
TellsOpen v (Err (Blocked page)) = Unit {0}
TellsOpen v (Err BadLimits) = HasGivenMost v
TellsOpen v (Err fault) = ⊥

-- ... of one that is over, what it has answered
abbrev pub BatchTells : Option Answer → SessionView → Result Bool Fault → Type 0
BatchTells None v told = TellsOpen v told
BatchTells (Some answer) v told = told ≡ told_of_scan answer

-- a batch of the session's scan
pub record HasGivenBatch (told : Result Bool Fault) (before after : List Entry) (old new : SessionView) : Type 0 where
  pub over : Option Answer
  pub taken : HasTakenMore over before after old new
  pub told_is : BatchTells over new told

-- a scan of this range is open, and has given nothing
pub record HasBegunScan (range : Range) (old new : SessionView) : Type 0 where
  pub runs : RunsJob (Scan range scan_room) new
  pub none : (call_in new).given ≡ []
  pub calls_are : new.calls ≡ old.calls

-- ... or was refused: the session has had that call
pub record IsScanRefused (range : Range) (told : Result Unit Fault) (old new : SessionView) : Type 0 where
  pub had : HasTold (Scan range scan_room) told_of_beginning told old.calls new.calls
  pub rests : new.call ≡ None

abbrev pub StartsScan : Range → Result Unit Fault → SessionView → SessionView → Type 0
StartsScan range (Ok done) old new = HasBegunScan range old new
StartsScan range (Err fault) old new = IsScanRefused range (Err fault) old new
