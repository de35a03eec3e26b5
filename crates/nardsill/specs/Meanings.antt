-- How an answer tells what a call came to.
use Rattle.std.specs.Prelude.{◌≡◌, ℕ, true, false, Option, Some, None, Result, Ok, Err, length, take, unwrap_or}
use Rattle.index_model.specs.Faults.{number_of, block_of, row_of}
use Rattle.index_model.specs.Row.{Row}
use Rattle.index_model.specs.declared.entry.Entry.{Entry}
use Rattle.index_model.specs.declared.fault.Fault.{Fault}
use Rattle.index_model.specs.declared.stats.VacuumStats.{VacuumStats}
use Rattle.access_method.specs.declared.token.ScanToken.{ScanToken}
use Rattle.nardsill.specs.declared.answer.CallAnswer.{CallAnswer}
use Rattle.nardsill.specs.declared.answer.Given.{Given}
use Rattle.redo_log.specs.declared.gate.Advance.{Advance}
use Rattle.redo_log.specs.declared.gate.Advance.TheVariants.{Nothing, Written, Opened}
use Rattle.whole_calls.specs.declared.inserted.Inserted.{Inserted}

-- the page that a fault names, or 0
abbrev pub page_of : Fault → ℕ
page_of fault = unwrap_or (block_of fault) 0

-- the row that a fault names, or zeros
abbrev pub row_named : Fault → Row
row_named fault = unwrap_or (row_of fault) (record { block = 0; offset = 0 })

-- the call was refused with this fault
pub record AnswersFault (fault : Fault) (answer : CallAnswer) : Type 0 where
  pub status : answer.status ≡ number_of fault
  pub page : answer.page ≡ page_of fault
  pub block : answer.block ≡ (row_named fault).block
  pub offset : answer.offset ≡ (row_named fault).offset
  pub quiet : answer.is_durable ≡ false

-- what a call came to is told: 0 and what it tells, or the refusal
abbrev pub Tells : {A : Type 0} → (A → CallAnswer → Type 0) → Result A Fault → CallAnswer → Type 0
Tells TellsIt (Ok it) answer = (answer.status ≡ 0) × TellsIt it answer
Tells TellsIt (Err fault) answer = AnswersFault fault answer

-- the number of the fault that left an insert unfinished, or 0
abbrev pub unfinished_number : Option Fault → ℕ
unfinished_number None = 0
unfinished_number (Some fault) = number_of fault

pub record AnswersInserted (inserted : Inserted) (answer : CallAnswer) : Type 0 where
  pub action : answer.number ≡ inserted.action
  pub unfinished : answer.other ≡ unfinished_number inserted.unfinished

pub record AnswersToken (token : ScanToken) (answer : CallAnswer) : Type 0 where
  pub number : answer.number ≡ token.number
  pub session : answer.session ≡ token.session

pub record SpellsStats (stats : VacuumStats) (answer : CallAnswer) : Type 0 where
  pub removed : answer.number ≡ stats.tuples_removed
  pub entries : answer.other ≡ stats.num_index_tuples
  pub pages : answer.num_pages ≡ stats.num_pages
  pub newly_deleted : answer.pages_newly_deleted ≡ stats.pages_newly_deleted
  pub deleted : answer.pages_deleted ≡ stats.pages_deleted
  pub free : answer.pages_free ≡ stats.pages_free

-- a part has ended, with these statistics, or goes on
abbrev pub AnswersPart : Option VacuumStats → CallAnswer → Type 0
AnswersPart None answer = answer.session ≡ 0
AnswersPart (Some stats) answer = (answer.session ≡ 1) × SpellsStats stats answer

-- nothing waits for a commit; or its first sync is the next one, or its last one
abbrev pub AnswersPartOfCommit : Advance → CallAnswer → Type 0
AnswersPartOfCommit Nothing answer = answer.number ≡ 0
AnswersPartOfCommit Written answer = answer.number ≡ 1
AnswersPartOfCommit Opened answer = answer.number ≡ 2

-- so many actions are durable
pub record AnswersDurable (actions : ℕ) (answer : CallAnswer) : Type 0 where
  pub number : answer.number ≡ actions
  pub is_durable : answer.is_durable ≡ true

-- what is given spells this entry
pub record IsEntryGiven (entry : Entry) (given : Given) : Type 0 where
  pub status : given.status ≡ 0
  pub is_given : given.is_given ≡ true
  pub len : given.len ≡ length entry.key
  pub key : take given.len given.key ≡ entry.key
  pub block : given.block ≡ entry.row.block
  pub offset : given.offset ≡ entry.row.offset

-- no entry is given, for this fault
pub record GivesNone (fault : Fault) (given : Given) : Type 0 where
  pub status : given.status ≡ number_of fault
  pub page : given.page ≡ page_of fault
  pub none : given.is_given ≡ false

-- what is given spells an entry, or says that none is left, or the fault
abbrev pub SpellsGiven : Result (Option Entry) Fault → Given → Type 0
SpellsGiven (Ok (Some entry)) given = IsEntryGiven entry given
SpellsGiven (Ok None) given = (given.status ≡ 0) × (given.is_given ≡ false)
SpellsGiven (Err fault) given = GivesNone fault given
