-- What a job asks for.
use Rattle.std.specs.Prelude.{◌≡◌, ◌<◌, ◌≤◌, ℕ, Option, Some, None, List, length}
use Rattle.index_model.specs.declared.entry.Entry.{Entry}
use Rattle.session_calls.specs.declared.request.Request.{Request}
use Rattle.session_calls.specs.declared.request.Request.TheVariants.{Insert as ToInsert, Scan as ToScan, Bulk as ToBulk, Cleanup as ToCleanup}
use Rattle.schedule.specs.TheoremKinds.{Upkeep, Forces, Checkpoints, Kind, kind_of}
use Rattle.schedule.specs.declared.event.Event.{Event}
use Rattle.schedule.specs.declared.event.Event.TheVariants.{Insert as BeginInsert, Scan as BeginScan, Bulk as BeginBulk, Cleanup as BeginCleanup, Force, Checkpoint as MakeCheckpoint}
use Rattle.session_seats.specs.declared.job.Job.{Job}
use Rattle.session_seats.specs.declared.job.Job.TheVariants.{Insert, Scan, Bulk, Cleanup, Commit, Checkpoint}

-- what it asks of a call, if it asks for one
abbrev pub request_of : Job → Option Request
request_of (Insert entry) = Some (ToInsert entry)
request_of (Scan range room) = Some (ToScan range)
request_of (Bulk set) = Some (ToBulk set)
request_of Cleanup = Some ToCleanup
request_of Commit = None
request_of Checkpoint = None

-- what it asks of the store, if it asks for that
abbrev pub upkeep_of : Job → Option Upkeep
upkeep_of Commit = Some Forces
upkeep_of Checkpoint = Some Checkpoints
upkeep_of job = None

-- the event that begins it in this session, or does it whole
abbrev pub event_of : ℕ → Job → Event
event_of session (Insert entry) = BeginInsert session entry
event_of session (Scan range room) = BeginScan session range
event_of session (Bulk set) = BeginBulk session set
event_of session Cleanup = BeginCleanup session
event_of session Commit = Force
event_of session Checkpoint = MakeCheckpoint

-- ... and its kind
abbrev pub begins : ℕ → Job → Kind
begins session job = kind_of (event_of session job)

-- how many entries it may give
abbrev pub room_of : Job → ℕ
room_of (Scan range room) = room
room_of job = 0

-- a room holds as many as the job may give
abbrev pub IsRoomOf : Job → ℕ → Type 0
IsRoomOf job capacity = capacity ≡ room_of job

-- a scan gives so many entries at most
abbrev pub IsWithinRoom : Job → List Entry → Type 0
IsWithinRoom (Scan range room) given = length given ≤ room
IsWithinRoom job given = Unit {0}

-- a scan's room holds one entry more
abbrev pub IsBelowRoom : Job → List Entry → Type 0
IsBelowRoom (Scan range room) given = length given < room
IsBelowRoom job given = Unit {0}

-- a scan's room is full
abbrev pub ScanIsFull : Job → List Entry → Type 0
ScanIsFull (Scan range room) given = length given ≡ room
ScanIsFull job given = ⊥
