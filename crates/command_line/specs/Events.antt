-- The lines that are events.
use Rattle.std.specs.Prelude.{ℕ, Option, Some, None}
use Rattle.schedule.specs.declared.event.Event.{Event}
use Rattle.schedule.specs.declared.event.Event.TheVariants.{Insert as InsertEvent, Scan as ScanEvent, Bulk as BulkEvent, Cleanup as CleanupEvent, Step as StepEvent, Next as NextEvent, End as EndEvent, Force as ForceEvent, Flush as FlushEvent, Checkpoint as CheckpointEvent}
use Rattle.command_line.specs.declared.line.Line.{Line}
use Rattle.command_line.specs.declared.line.Line.TheVariants.{Nothing, Insert, Scan, Bulk, Cleanup, Step, Run, Next, End, Put, List as ListOf, Force, Flush, Checkpoint, Fail, Stop, Crash as CrashOf, Dump}

-- the event that a line is, if it is one; a bulk delete's set has this place among the sets
abbrev pub line_event : ℕ → Line → Option Event
line_event set Nothing = None
line_event set (Insert session entry) = Some (InsertEvent session entry)
line_event set (Scan session range) = Some (ScanEvent session range)
line_event set (Bulk session rows) = Some (BulkEvent session set)
line_event set (Cleanup session) = Some (CleanupEvent session)
line_event set (Step session) = Some (StepEvent session)
line_event set (Run session) = None
line_event set (Next session) = Some (NextEvent session)
line_event set (End session) = Some (EndEvent session)
line_event set (Put session entry) = None
line_event set (ListOf session range) = None
line_event set Force = Some ForceEvent
line_event set Flush = Some FlushEvent
line_event set Checkpoint = Some CheckpointEvent
line_event set (Fail number) = None
line_event set (Stop number) = None
line_event set (CrashOf crash) = None
line_event set Dump = None
