-- What a device in memory stands for.
use Rattle.std.specs.Prelude.{ℕ, List}
use Rattle.device.specs.Disk.{Trace, first}
use Rattle.device.specs.Record.{done, synced_over, torn_after_sync}
use Rattle.device.specs.declared.memory.CrashImage.{CrashImage}
use Rattle.device.specs.declared.memory.CrashImage.TheVariants.{Drop, Keep, Tear}
use Rattle.device.specs.declared.memory.MemDevice.{MemDevice}
use Rattle.device.specs.declared.plan.Plan.{Plan}

-- its moments, by its calls
abbrev pub trace_of : MemDevice → Trace
trace_of m = done (first m.past.value.start) m.past.value.calls

-- how many of its calls have failed
abbrev pub failures_of : MemDevice → ℕ
failures_of m = m.failures.value

-- which of its calls are made to fail
abbrev pub plan_of : MemDevice → Plan
plan_of m = m.plan

-- how many of its calls it has counted
abbrev pub calls_of : MemDevice → ℕ
calls_of m = m.made

-- what it leaves: the bytes at the last sync, all bytes as written, or those at the last sync with
-- each later write torn
abbrev pub left_by : CrashImage → MemDevice → List ℕ
left_by Drop m = synced_over m.past.value.start m.past.value.calls
left_by Keep m = (trace_of m).now.seen
left_by Tear m = torn_after_sync m.past.value.start m.past.value.calls
