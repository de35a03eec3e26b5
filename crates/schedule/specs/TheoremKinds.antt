-- The theorem's words: the kinds of events.
use Rattle.std.specs.Prelude.{ℕ}
use Rattle.session_calls.specs.declared.request.Request.{Request}
use Rattle.session_calls.specs.declared.request.Request.TheVariants.{Insert as ToInsert, Scan as ToScan, Bulk as ToBulk, Cleanup as ToCleanup}
use Rattle.schedule.specs.declared.event.Event.{Event}
use Rattle.schedule.specs.declared.event.Event.TheVariants.{Insert, Scan, Bulk, Cleanup, Step, Next, End, Force, Flush, Checkpoint}

-- what may be done with a running call: a step, asking for the next entry, giving it up
pub data Move : Type 0 where
  Steps : Move
  Takes : Move
  GivesUp : Move

-- what may be done for the store: its acts made durable, a changed page written to its place, or a checkpoint
pub data Upkeep : Type 0 where
  Forces : Upkeep
  Flushes : Upkeep
  Checkpoints : Upkeep

-- an event begins a session's call, moves its running call, or is of the store
pub data Kind : Type 0 where
  BeginsCall : ℕ → Request → Kind
  MovesCall : ℕ → Move → Kind
  MaintainsStore : Upkeep → Kind

-- the kind of an event
abbrev pub kind_of : Event → Kind
kind_of (Insert session e) = BeginsCall session (ToInsert e)
kind_of (Scan session range) = BeginsCall session (ToScan range)
kind_of (Bulk session set) = BeginsCall session (ToBulk set)
kind_of (Cleanup session) = BeginsCall session ToCleanup
kind_of (Step session) = MovesCall session Steps
kind_of (Next session) = MovesCall session Takes
kind_of (End session) = MovesCall session GivesUp
kind_of Force = MaintainsStore Forces
kind_of Flush = MaintainsStore Flushes
kind_of Checkpoint = MaintainsStore Checkpoints
