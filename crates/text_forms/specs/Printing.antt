-- The lines that answers and refusals are printed as.
use Rattle.std.specs.Prelude.{ℕ, Option, Some, None, List, [], ◌∷◌, ◌++◌, codes, Result, OnOk}
use Rattle.std.specs.Fmt.{decimal}
use Rattle.std.specs.Io.KnownBytes.{Appends}
use Rattle.index_model.specs.Faults.{number_of}
use Rattle.index_model.specs.declared.entry.Entry.{Entry}
use Rattle.index_model.specs.declared.fault.Fault.{Fault}
use Rattle.index_model.specs.declared.stats.VacuumStats.{VacuumStats}
use Rattle.text_forms.specs.Spelling.{entry_text, named_text}
use Rattle.session_calls.specs.declared.answer.Answer.{Answer}
use Rattle.session_calls.specs.declared.answer.Answer.TheVariants.{Begun, Going, Added, Ready, Done, Finished, Gave, Ended, Forced, Flushed, Checkpointed, Refused}

-- unless it fails, a writer's bytes go on with this line
abbrev pub PrintsLine : {E : Type 0} → Option (List ℕ) → Option (List ℕ) → Result (Unit {0}) E → List ℕ → Type 0
PrintsLine old new result line = OnOk result (Appends old new (line ++ 10 ∷ []))

-- a number after a word
abbrev pub numbered : List ℕ → ℕ → List ℕ
numbered word number = word ++ decimal number

abbrev pub refused_text : Fault → List ℕ
refused_text fault = numbered (codes "refused ") (number_of fault) ++ named_text fault

abbrev pub unfinished_text : Option Fault → List ℕ
unfinished_text None = []
unfinished_text (Some fault) = numbered (codes " unfinished ") (number_of fault)

abbrev pub stats_text : VacuumStats → List ℕ
stats_text stats =
    numbered (codes "finished pages=") stats.num_pages ++ (numbered (codes " tuples=") stats.num_index_tuples
    ++ (numbered (codes " removed=") stats.tuples_removed ++ (numbered (codes " new=") stats.pages_newly_deleted
    ++ (numbered (codes " deleted=") stats.pages_deleted ++ numbered (codes " free=") stats.pages_free))))

abbrev pub given_text : Option Entry → List ℕ
given_text None = codes "none"
given_text (Some entry) = codes "entry " ++ entry_text entry

abbrev pub flushed_text : Option ℕ → List ℕ
flushed_text None = codes "clean"
flushed_text (Some block) = numbered (codes "flushed ") block

abbrev pub answer_text : Answer → List ℕ
answer_text Begun = codes "begun"
answer_text Going = codes "going"
answer_text (Added action unfinished) = numbered (codes "added ") action ++ unfinished_text unfinished
answer_text (Ready count) = numbered (codes "ready ") count
answer_text Done = codes "done"
answer_text (Finished stats) = stats_text stats
answer_text (Gave entry) = given_text entry
answer_text Ended = codes "ended"
answer_text (Forced action) = numbered (codes "forced ") action
answer_text (Flushed block) = flushed_text block
answer_text (Checkpointed action) = numbered (codes "checkpointed ") action
answer_text (Refused fault) = refused_text fault
