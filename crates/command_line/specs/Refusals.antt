-- What is said of lines that say nothing.
use Rattle.std.specs.Prelude.{ℕ, List, ◌++◌, codes}
use Rattle.std.specs.Fmt.{decimal}

-- what is said of a line of a script, counted from 1, that is no event
abbrev pub no_event_text : ℕ → List ℕ
no_event_text line = codes "btidx: line " ++ (decimal line ++ codes ": not an event")

-- ... of a line of a job file that is no job
abbrev pub no_job_text : ℕ → List ℕ
no_job_text line = codes "btidx: line " ++ (decimal line ++ codes ": not a job")
