-- What is told if a stream fails inside an answer.
use Rattle.std.specs.Prelude.{◌≡◌, ℕ, Option, List, ◌++◌, flat_map}
use Rattle.std.specs.Io.KnownBytes.{Appends}
use Rattle.access_method.specs.declared.index.Index.{Index}
use Rattle.access_method.specs.declared.token.ScanToken.{ScanToken}
use Rattle.index_model.specs.declared.entry.Entry.{Entry}
use Rattle.index_model.specs.declared.range.Range.{Range}
use Rattle.page_action.specs.declared.page_store.PageStore.{Ghosts}
use Rattle.text_forms.specs.Values.{IsRangeOfBytes}
use Rattle.ledger_lines.specs.Calls.{GivesEach, OpensScan, listed_line}
use Rattle.ledger_lines.specs.Lines.{ledger_words}
use Rattle.ledger_lines.specs.declared.line.LedgerLine.TheVariants.{List as ListOf}

-- a writer's bytes go on with the first of these, be they none, some or all
pub record AppendsFirst (before after : Option (List ℕ)) (bytes : List ℕ) : Type 0 where
  pub first : List ℕ
  pub rest : List ℕ
  pub are : bytes ≡ first ++ rest
  pub printed : Appends before after first

-- an open scan gave entries, of whose lines the first bytes were printed
pub record BreaksScan {S : Type 0} (g : Ghosts S) (token : ScanToken) (opened new : Index S) (before after : Option (List ℕ)) : Type 0 where
  pub given : List Entry
  pub gives : GivesEach g token given opened new
  pub printed : AppendsFirst before after (flat_map listed_line given)

-- a scan of this range was opened, and broken off so
pub record BreaksList {S : Type 0} (g : Ghosts S) (range : Range) (old new : Index S) (before after : Option (List ℕ)) : Type 0 where
  pub token : ScanToken
  pub opened : Index S
  pub begun : OpensScan g range token old opened
  pub breaks : BreaksScan g token opened new before after

-- words that spell a list were answered so
pub record IsBrokenOff {S : Type 0} (g : Ghosts S) (words : List (List ℕ)) (old new : Index S) (before after : Option (List ℕ)) : Type 0 where
  pub range : Range
  pub valid : IsRangeOfBytes range
  pub spelled : words ≡ ledger_words (ListOf range)
  pub breaks : BreaksList g range old new before after
