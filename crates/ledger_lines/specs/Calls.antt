-- The calls of an index that a ledger's lines make, each with what it answered.
use Rattle.std.specs.Prelude.{◌≡◌, ◌≢◌, ◌⊎◌, ℕ, Bool, Option, Some, None, Result, Ok, Err, List, [], ◌∷◌, ◌++◌, length, flat_map, map}
use Rattle.std.specs.Io.KnownBytes.{Appends}
use Rattle.access_method.specs.Indexes.{AnswersScan, InsertsOrKeeps, IsCleanedUp, IsBulkDeletedOrLess, ForEachIndexHistory, IndexIsRun, IndexMakes, NotOpenedFor, slots_with}
use Rattle.access_method.specs.Counted.{upkeep_outcome}
use Rattle.access_method.specs.declared.index.Index.{Index}
use Rattle.access_method.specs.declared.token.ScanToken.{ScanToken}
use Rattle.index_model.specs.Row.{Row}
use Rattle.index_model.specs.declared.entry.Entry.{Entry}
use Rattle.index_model.specs.declared.fault.Fault.{Fault}
use Rattle.index_model.specs.declared.fault.Fault.TheVariants.{NoMemory}
use Rattle.index_model.specs.declared.range.Range.{Range}
use Rattle.index_model.specs.declared.stats.VacuumStats.{VacuumStats}
use Rattle.page_action.specs.declared.page_store.PageStore.{Ghosts}
use Rattle.schedule.specs.Sessions.{op_of}
use Rattle.schedule.specs.TheoremKinds.{Forces, Checkpoints}
use Rattle.session_calls.specs.Ops.{op_before}
use Rattle.session_calls.specs.declared.answer.Answer.{Answer}
use Rattle.session_calls.specs.declared.answer.Answer.TheVariants.{Begun}
use Rattle.session_calls.specs.declared.request.Request.TheVariants.{Scan as ToScan}
use Rattle.text_forms.specs.Printing.{given_text}
use Rattle.text_forms.specs.Spelling.{row_text}
use Rattle.whole_calls.specs.Giving.{given_outcome}
use Rattle.whole_calls.specs.Made.{IsMadeOf, ComesTo, InsertComesTo}
use Rattle.whole_calls.specs.Vacuuming.{vacuum_outcome}
use Rattle.whole_calls.specs.Meanings.{HasBegun, IsSameHistory}
use Rattle.whole_calls.specs.declared.inserted.Inserted.{Inserted}
use Rattle.ledger_lines.specs.declared.dead.Dead.{Dead}
use Rattle.ledger_lines.specs.declared.line.LedgerLine.{LedgerLine}
use Rattle.ledger_lines.specs.declared.line.LedgerLine.TheVariants.{Insert, Delete, List as ListOf, Vacuum, Checkpoint, Commit}
use Rattle.ledger_lines.specs.declared.reply.Reply.{Reply}
use Rattle.ledger_lines.specs.declared.reply.Reply.TheVariants.{Added, Deleted, Listed, CleanedUp, Checkpointed, Committed, Refused}

-- an insert of this entry answered so: whatever the pages are, by the answers of its events; and what that
-- says of the contents
pub record IsInsert {S : Type 0} (g : Ghosts S) (entry : Entry) (result : Result Inserted Fault) (old new : Index S) : Type 0 where
  pub made : IndexMakes g 63 (InsertComesTo result) old new
  pub inserts : ForEachIndexHistory g old new (λ start history calls. InsertsOrKeeps g entry result old.store new.store)

-- ... a bulk delete of these rows
pub record IsDelete {S : Type 0} (g : Ghosts S) (dead : Row → Bool) (result : Result VacuumStats Fault) (old new : Index S) : Type 0 where
  pub made : IsMadeOf g 63 5 (ComesTo (vacuum_outcome result)) (slots_with dead old) (slots_with dead new)
  pub deletes : ForEachIndexHistory g old new (λ start history calls. IsBulkDeletedOrLess g dead result old.store new.store)

-- ... a cleanup
pub record IsCleanup {S : Type 0} (g : Ghosts S) (result : Result VacuumStats Fault) (old new : Index S) : Type 0 where
  pub made : IndexMakes g 63 (ComesTo (vacuum_outcome result)) old new
  pub cleans : ForEachIndexHistory g old new (λ start history calls. IsCleanedUp g result old.store new.store)

-- what an insert is replied with is what it answered
abbrev pub InsertReplies : {S : Type 0} → Ghosts S → Entry → Index S → Index S → Reply → Type 0
InsertReplies g entry old new (Added inserted) = IsInsert g entry (Ok inserted) old new
InsertReplies g entry old new (Refused fault) = IsInsert g entry (Err fault) old new
InsertReplies g entry old new reply = ⊥

-- a bulk delete of the rows that these words name answered so
pub record DeletesNamed {S : Type 0} (g : Ghosts S) (is_in : Dead → Row → Bool) (words : List (List ℕ)) (result : Result VacuumStats Fault) (old new : Index S) : Type 0 where
  pub dead : Dead
  pub named : words ≡ map row_text dead.rows.items
  pub is : IsDelete g (is_in dead) result old new

pub record DeletesSoMany {S : Type 0} (g : Ghosts S) (is_in : Dead → Row → Bool) (words : List (List ℕ)) (removed : ℕ) (old new : Index S) : Type 0 where
  pub stats : VacuumStats
  pub removed_is : removed ≡ stats.tuples_removed
  pub deletes : DeletesNamed g is_in words (Ok stats) old new

-- what a delete is replied with is what it answered; or there was no memory for its rows, and nothing was
-- done
abbrev pub DeleteReplies : {S : Type 0} → Ghosts S → (Dead → Row → Bool) → List (List ℕ) → Index S → Index S → Reply → Type 0
DeleteReplies g is_in words old new (Deleted removed) = DeletesSoMany g is_in words removed old new
DeleteReplies g is_in words old new (Refused fault) = DeletesNamed g is_in words (Err fault) old new ⊎ ((fault ≡ NoMemory) × (new ≡ old))
DeleteReplies g is_in words old new reply = ⊥

-- what a cleanup is replied with is what it answered
abbrev pub VacuumReplies : {S : Type 0} → Ghosts S → Index S → Index S → Reply → Type 0
VacuumReplies g old new (CleanedUp stats) = IsCleanup g (Ok stats) old new
VacuumReplies g old new (Refused fault) = IsCleanup g (Err fault) old new
VacuumReplies g old new reply = ⊥

-- all actions were made durable, by such a call, and so many there are
pub record IsCommitted {S : Type 0} (g : Ghosts S) (came : Option Answer) (actions : ℕ) (old new : Index S) : Type 0 where
  pub runs : IndexIsRun g 0 IsSameHistory came old new
  pub number : actions ≡ (g.state old.store).acts

abbrev pub CommitReplies : {S : Type 0} → Ghosts S → Index S → Index S → Reply → Type 0
CommitReplies g old new (Committed actions) = IsCommitted g (upkeep_outcome Forces (Ok actions)) actions old new
CommitReplies g old new (Refused fault) = IndexIsRun g 0 IsSameHistory (upkeep_outcome Forces (Err fault)) old new
CommitReplies g old new reply = ⊥

abbrev pub CheckpointReplies : {S : Type 0} → Ghosts S → Index S → Index S → Reply → Type 0
CheckpointReplies g old new (Checkpointed actions) = IsCommitted g (upkeep_outcome Checkpoints (Ok actions)) actions old new
CheckpointReplies g old new (Refused fault) = IndexIsRun g 0 IsSameHistory (upkeep_outcome Checkpoints (Err fault)) old new
CheckpointReplies g old new reply = ⊥

-- an open scan was asked for its next entry, and answered so
pub record IsGive {S : Type 0} (g : Ghosts S) (token : ScanToken) (result : Result (Option Entry) Fault) (old new : Index S) : Type 0 where
  pub made : op_of old.calls token.session ≢ None → IndexMakes g token.session (ComesTo (given_outcome result)) old new
  pub over : op_of old.calls token.session ≡ None → (result ≡ Ok None) × (new ≡ old)
  pub answers : ForEachIndexHistory g old new (AnswersScan token.session result)

-- it gave these entries, one after the other
abbrev pub GivesEach : {S : Type 0} → Ghosts S → ScanToken → List Entry → Index S → Index S → Type 0
GivesEach g token [] old new = new ≡ old
GivesEach {S} g token (entry ∷ given) old new = (mid : Index S) × IsGive g token (Ok (Some entry)) old mid × GivesEach g token given mid new

-- the line of an entry that a list gives
abbrev pub listed_line : Entry → List ℕ
listed_line entry = given_text (Some entry) ++ 10 ∷ []

-- so many entries were given, and then it answered so; or so many were asked for that it was given up
abbrev pub EndsScan : {S : Type 0} → Ghosts S → ScanToken → ℕ → Result ℕ Fault → Index S → Index S → Type 0
EndsScan g token count (Ok number) last new = (number ≡ count) × IsGive g token (Ok None) last new
EndsScan g token count (Err fault) last new = IsGive g token (Err fault) last new ⊎ (count ≡ 18446744073709551615)

-- what was printed is what an open scan gave, a line for each entry
pub record PrintsScan {S : Type 0} (g : Ghosts S) (token : ScanToken) (result : Result ℕ Fault) (opened new : Index S) (before after : Option (List ℕ)) : Type 0 where
  pub given : List Entry
  pub last : Index S
  pub gives : GivesEach g token given opened last
  pub printed : Appends before after (flat_map listed_line given)
  pub ends : EndsScan g token (length given) result last new

-- a scan of this range was opened, which runs then
pub record OpensScan {S : Type 0} (g : Ghosts S) (range : Range) (token : ScanToken) (old opened : Index S) : Type 0 where
  pub runs : IndexIsRun g token.session (HasBegun token.session (ToScan range)) (Some Begun) old opened
  pub begins : op_of opened.calls token.session ≡ Some (op_before token.session (ToScan range))

-- ... and what was printed is what it gave
pub record PrintsGiven {S : Type 0} (g : Ghosts S) (range : Range) (result : Result ℕ Fault) (old : Index S) (before after : Option (List ℕ)) : Type 0 where
  pub token : ScanToken
  pub opened : Index S
  pub closed : Index S
  pub begun : OpensScan g range token old opened
  pub prints : PrintsScan g token result opened closed before after

-- what a list is replied with is how many entries were printed, or what refused it; or no scan could be
-- opened, and nothing was printed
abbrev pub ListReplies : {S : Type 0} → Ghosts S → Range → Index S → Option (List ℕ) → Option (List ℕ) → Reply → Type 0
ListReplies g range old before after (Listed count) = PrintsGiven g range (Ok count) old before after
ListReplies g range old before after (Refused fault) = PrintsGiven g range (Err fault) old before after ⊎ (NotOpenedFor g old fault × (after ≡ before))
ListReplies g range old before after reply = ⊥

-- what each line is replied with is what its calls answered
abbrev pub Replies : {S : Type 0} → Ghosts S → (Dead → Row → Bool) → LedgerLine → Index S → Index S → Option (List ℕ) → Option (List ℕ) → Reply → Type 0
Replies g is_in (Insert entry) old new before after reply = InsertReplies g entry old new reply
Replies g is_in (Delete rows) old new before after reply = DeleteReplies g is_in rows old new reply
Replies g is_in (ListOf range) old new before after reply = ListReplies g range old before after reply
Replies g is_in Vacuum old new before after reply = VacuumReplies g old new reply
Replies g is_in Checkpoint old new before after reply = CheckpointReplies g old new reply
Replies g is_in Commit old new before after reply = CommitReplies g old new reply
