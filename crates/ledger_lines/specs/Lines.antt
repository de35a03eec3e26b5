-- The lines of a ledger, as they are spelled.
use Rattle.std.specs.Prelude.{◌≡◌, ◌⊎◌, ℕ, Bool, List, [], ◌∷◌, codes, ⊤}
use Rattle.index_model.specs.declared.fault.Fault.{Fault}
use Rattle.text_forms.specs.Spelling.{is_one_of}
use Rattle.text_forms.specs.Values.{IsEntryOfBytes, IsRangeOfBytes, AreNoEntry, AreNoRange, AreRows, AreNoRows, entry_words, range_words}
use Rattle.ledger_lines.specs.declared.line.LedgerLine.{LedgerLine}
use Rattle.ledger_lines.specs.declared.line.LedgerLine.TheVariants.{Insert, Delete, List as ListOf, Vacuum, Checkpoint, Commit}

-- the words of a line
abbrev pub ledger_words : LedgerLine → List (List ℕ)
ledger_words (Insert entry) = codes "insert" ∷ entry_words entry
ledger_words (Delete rows) = codes "delete" ∷ rows
ledger_words (ListOf range) = codes "list" ∷ range_words range
ledger_words Vacuum = codes "vacuum" ∷ []
ledger_words Checkpoint = codes "checkpoint" ∷ []
ledger_words Commit = codes "commit" ∷ []

-- the values of a line are in their ranges: keys of at most 64 bytes, rows that there are
abbrev pub HasLedgerValues : LedgerLine → Type 0
HasLedgerValues (Insert entry) = IsEntryOfBytes entry
HasLedgerValues (Delete rows) = AreRows rows
HasLedgerValues (ListOf range) = IsRangeOfBytes range
HasLedgerValues Vacuum = ⊤
HasLedgerValues Checkpoint = ⊤
HasLedgerValues Commit = ⊤

-- the names of the lines of one word
abbrev pub is_alone : List ℕ → Bool
is_alone name = is_one_of name (codes "vacuum" ∷ codes "checkpoint" ∷ codes "commit" ∷ [])

-- what a line of this name with these words after it is refused with: it has its form, but a key or a row
-- that there isn't
abbrev pub LedgerValuesFail : Fault → List ℕ → List (List ℕ) → Type 0
LedgerValuesFail fault name words = ((name ≡ codes "insert") × AreNoEntry fault words [])
    ⊎ (((name ≡ codes "list") × AreNoRange fault words []) ⊎ ((name ≡ codes "delete") × AreNoRows fault words))

-- what a line of these words is refused with
pub record LedgerLineFails (fault : Fault) (words : List (List ℕ)) : Type 0 where
  pub name : List ℕ
  pub values : List (List ℕ)
  pub is : LedgerValuesFail fault name values
  pub spelled : words ≡ name ∷ values
