-- The lines that a run of jobs is printed as.
use Rattle.std.specs.Prelude.{ℕ, suc, Option, Some, None, List, [], ◌∷◌, ◌++◌, codes, length, flat_map, slice_get}
use Rattle.index_model.specs.declared.entry.Entry.{Entry}
use Rattle.text_forms.specs.Dumping.{entry_line}
use Rattle.text_forms.specs.Printing.{numbered, answer_text}
use Rattle.session_calls.specs.declared.answer.Answer.{Answer}
use Rattle.session_calls.specs.declared.answer.Answer.TheVariants.{Done, Ended, Forced}
use Rattle.shared_world.specs.declared.record.Record.{Record}
use Rattle.sessions.specs.declared.outcome.Receipt.{Receipt}

-- how many entries a scan gave and how it ended, and these entries
abbrev pub scanned_text : List ℕ → List Entry → List ℕ
scanned_text end given = numbered (codes "scanned ") (length given) ++ (32 ∷ (end ++ 10 ∷ [])) ++ flat_map entry_line given

-- the answer that a job ended with
abbrev pub outcome_text : Answer → List Entry → List ℕ
outcome_text Done given = scanned_text (codes "finished") given
outcome_text Ended given = scanned_text (codes "cut") given
outcome_text (Forced action) given = numbered (codes "committed ") action ++ 10 ∷ []
outcome_text answer given = answer_text answer ++ 10 ∷ []

-- the lines of a job that is done
abbrev pub record_text : Record → List ℕ
record_text r = numbered (codes "job ") r.job ++ (numbered (codes " worker ") r.worker ++ (numbered (codes " from ") r.from
    ++ (numbered (codes " to ") r.to ++ 32 ∷ []))) ++ outcome_text r.answer r.given.items

-- ... of the one at this place
abbrev pub found_text : Option Record → List ℕ
found_text None = []
found_text (Some r) = record_text r

-- the lines of a receipt's job
abbrev pub receipt_text : List Record → Receipt → List ℕ
receipt_text history r = found_text (slice_get history r.place)

-- each job's lines, in the order of their numbers
abbrev pub records_text : List Record → List Receipt → List ℕ
records_text history receipts = flat_map (receipt_text history) receipts

-- how many calls a worker recorded
abbrev pub worker_text : ℕ → ℕ → List ℕ
worker_text worker count = numbered (codes "worker ") worker ++ (numbered (codes " calls ") count ++ 10 ∷ [])

-- ... and each after it, this number being that of the first
abbrev pub calls_text : ℕ → List ℕ → List ℕ
calls_text worker [] = []
calls_text worker (count ∷ counts) = worker_text worker count ++ calls_text (suc worker) counts

-- all that is printed of a run
abbrev pub run_text : List Record → List Receipt → List ℕ → List ℕ
run_text history receipts calls = records_text history receipts ++ calls_text 0 calls ++ numbered (codes "history ") (length history) ++ 10 ∷ []
