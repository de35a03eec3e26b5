-- The lines of a job file, as they are spelled.
use Rattle.std.specs.Prelude.{◌≡◌, ◌≤◌, ◌+◌, ℕ, Bool, if◌then◌else◌, List, [], ◌∷◌, ◌++◌, codes, flat_map, length, map, ⊤}
use Rattle.std.specs.Fmt.{decimal}
use Rattle.std.specs.Str.{bytes_eq}
use Rattle.text_forms.specs.Spelling.{is_one_of, row_text, words_of}
use Rattle.text_forms.specs.Values.{IsEntryOfBytes, IsRangeOfBytes, AreRows, entry_words, range_words}
use Rattle.command_line.specs.declared.dead.DeadList.{DeadList}
use Rattle.command_line.specs.declared.job_line.JobLine.{JobLine}
use Rattle.command_line.specs.declared.job_line.JobLine.TheVariants.{Insert, Scan, Bulk, Cleanup, Commit, Checkpoint}
use Rattle.session_seats.specs.declared.job.Job.{Job}
use Rattle.session_seats.specs.declared.job.Job.TheVariants.{Insert as InsertJob, Scan as ScanJob, Bulk as BulkJob, Cleanup as CleanupJob, Commit as CommitJob, Checkpoint as CheckpointJob}

-- the words of a line
abbrev pub job_words : JobLine → List (List ℕ)
job_words (Insert entry) = codes "insert" ∷ entry_words entry
job_words (Scan range room) = codes "scan" ∷ (range_words range ++ decimal room ∷ [])
job_words (Bulk rows) = codes "bulk" ∷ rows
job_words Cleanup = codes "cleanup" ∷ []
job_words Commit = codes "commit" ∷ []
job_words Checkpoint = codes "checkpoint" ∷ []

-- a scan gives 1 to 1,048,576 entries at most
abbrev pub IsRoom : ℕ → Type 0
IsRoom room = (1 ≤ room) × (room ≤ 1048576)

-- the values of a line are in their ranges: keys of at most 64 bytes, rows that there are, a scan's room
abbrev pub HasJobValues : JobLine → Type 0
HasJobValues (Insert entry) = IsEntryOfBytes entry
HasJobValues (Scan range room) = IsRangeOfBytes range × IsRoom room
HasJobValues (Bulk rows) = AreRows rows
HasJobValues Cleanup = ⊤
HasJobValues Commit = ⊤
HasJobValues Checkpoint = ⊤

-- the names of the jobs of one word
abbrev pub is_job_alone : List ℕ → Bool
is_job_alone name = is_one_of name (codes "cleanup" ∷ codes "commit" ∷ codes "checkpoint" ∷ [])

-- the job that a line is; a bulk delete's set has this place among the sets
abbrev pub line_job : ℕ → JobLine → Job
line_job set (Insert entry) = InsertJob entry
line_job set (Scan range room) = ScanJob range room
line_job set (Bulk rows) = BulkJob set
line_job set Cleanup = CleanupJob
line_job set Commit = CommitJob
line_job set Checkpoint = CheckpointJob

-- the sets up to a job, with its own
abbrev pub sets_with : ℕ → Job → ℕ
sets_with set (BulkJob at) = set + 1
sets_with set job = set

-- a line spells this job
pub record SpellsJob (set : ℕ) (text : List ℕ) (job : Job) : Type 0 where
  pub line : JobLine
  pub words : words_of text ≡ job_words line
  pub values : HasJobValues line
  pub is : job ≡ line_job set line

-- ... spells none, wherever it stands
abbrev pub SpellsNoJob : List ℕ → Type 0
SpellsNoJob text = (set : ℕ) (job : Job) → SpellsJob set text job → ⊥

-- lines spell jobs, each its own; so many bulk deletes are before them
abbrev pub SpellJobs : ℕ → List (List ℕ) → List Job → Type 0
SpellJobs set [] [] = ⊤
SpellJobs set [] (job ∷ jobs) = ⊥
SpellJobs set (line ∷ lines) [] = ⊥
SpellJobs set (line ∷ lines) (job ∷ jobs) = SpellsJob set line job × SpellJobs (sets_with set job) lines jobs

-- how many sets there are up to the end of these jobs
abbrev pub sets_after : ℕ → List Job → ℕ
sets_after set [] = set
sets_after set (job ∷ jobs) = sets_after (sets_with set job) jobs

-- the line of this number, counted from 1, spells no job, and those before it spell jobs
pub record IsFirstNoJob (number : ℕ) (lines : List (List ℕ)) : Type 0 where
  pub before : List (List ℕ)
  pub line : List ℕ
  pub after : List (List ℕ)
  pub jobs : List Job
  pub parts : lines ≡ before ++ line ∷ after
  pub place : number ≡ length before + 1
  pub spelled : SpellJobs 0 before jobs
  pub none : SpellsNoJob line

-- the words of the rows that a line of these words names, if it is a bulk delete
abbrev pub bulk_words : List (List ℕ) → List (List (List ℕ))
bulk_words [] = []
bulk_words (name ∷ rows) = if bytes_eq name (codes "bulk") then rows ∷ [] else []

-- ... of each bulk delete of these lines, in their order
abbrev pub all_bulk_words : List (List ℕ) → List (List (List ℕ))
all_bulk_words lines = flat_map (λ line. bulk_words (words_of line)) lines

-- the words of the rows of a set
abbrev pub set_words : DeadList → List (List ℕ)
set_words set = map row_text set.rows.items
