-- What a session's call tells its caller, by its last answer. A call that was given up tells a page, by
-- which it was blocked.
use Rattle.std.specs.Prelude.{ℕ, Bool, true, Result, Ok, Err}
use Rattle.index_model.specs.declared.fault.Fault.{Fault}
use Rattle.index_model.specs.declared.fault.Fault.TheVariants.{Blocked, PageDamaged}
use Rattle.index_model.specs.declared.stats.VacuumStats.{VacuumStats}
use Rattle.session_calls.specs.declared.answer.Answer.{Answer}
use Rattle.session_calls.specs.declared.answer.Answer.TheVariants.{Added, Done, Ended, Finished, Forced, Checkpointed, Refused}
use Rattle.whole_calls.specs.declared.inserted.Inserted.{Inserted}

-- of an insert: that its entry is added, or a refusal; if it was given up, that it was blocked (no insert
-- has another answer)
abbrev pub told_of_insert : ℕ → Answer → Result Inserted Fault
told_of_insert page (Added action unfinished) = Ok (record { action = action; unfinished = unfinished })
told_of_insert page (Refused fault) = Err fault
told_of_insert page Ended = Err (Blocked page)
told_of_insert page answer = Err (PageDamaged 0)

-- of a bulk delete or a cleanup: its statistics, or a refusal; if it was given up, that it was blocked
abbrev pub told_of_vacuum : ℕ → Answer → Result VacuumStats Fault
told_of_vacuum page (Finished stats) = Ok stats
told_of_vacuum page (Refused fault) = Err fault
told_of_vacuum page Ended = Err (Blocked page)
told_of_vacuum page answer = Err (PageDamaged 0)

-- of a commit or a checkpoint: how many actions are durable, or a refusal
abbrev pub told_of_upkeep : Answer → Result ℕ Fault
told_of_upkeep (Forced count) = Ok count
told_of_upkeep (Checkpointed count) = Ok count
told_of_upkeep (Refused fault) = Err fault
told_of_upkeep answer = Err (PageDamaged 0)

-- of a scan that was refused as it was to begin
abbrev pub told_of_beginning : Answer → Result Unit Fault
told_of_beginning (Refused fault) = Err fault
told_of_beginning answer = Err (PageDamaged 0)

-- of a scan, by its last answer: that it has given all, or a refusal
abbrev pub told_of_scan : Answer → Result Bool Fault
told_of_scan Done = Ok true
told_of_scan (Refused fault) = Err fault
told_of_scan answer = Err (PageDamaged 0)
