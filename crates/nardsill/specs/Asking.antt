-- What a call of C's spells.
use Rattle.std.specs.Prelude.{◌≡◌, ◌⊎◌, ℕ, ◌≤◌, ◌<◌, ◌%◌, ◌==◌, nat_le, Bool, true, false, not, Option, Some, None, List, take}
use Rattle.index_model.specs.Row.{Row, IsRow}
use Rattle.index_model.specs.declared.entry.Entry.{Entry}
use Rattle.index_model.specs.declared.fault.Fault.{Fault}
use Rattle.index_model.specs.declared.fault.Fault.TheVariants.{KeyTooLong, BadRow}
use Rattle.index_model.specs.declared.limits.Limits.{Limits}
use Rattle.index_model.specs.declared.range.Range.{Range}
use Rattle.access_method.specs.declared.token.ScanToken.{ScanToken}
use Rattle.nardsill.specs.declared.ask.Ask.{Ask}
use Rattle.nardsill.specs.declared.ask.MakeAsk.{MakeAsk}
use Rattle.nardsill.specs.declared.ask.Token.{Token}

-- the row that a call spells, if there is such a row
abbrev pub row_asked : Ask → Row
row_asked ask = record { block = ask.block; offset = ask.offset }

-- the token that it names
abbrev pub token_asked : Ask → ScanToken
token_asked ask = record { number = ask.number; session = ask.session }

-- ... and which one that is asked for an entry
abbrev pub token_of : Token → ScanToken
token_of token = record { number = token.number; session = token.session }

-- the limits that a making spells: its index is unique unless that is 0
abbrev pub limits_asked : MakeAsk → Limits
limits_asked ask = record {
  items = ask.items;
  pages = ask.pages;
  log_bytes = ask.log_bytes;
  unique = not (ask.unique == 0);
}

-- a call spells this entry
pub record SpellsEntry (ask : Ask) (entry : Entry) : Type 0 where
  pub fits : ask.len ≤ 64
  pub key : entry.key ≡ take ask.len ask.key
  pub row : entry.row ≡ row_asked ask
  pub valid : IsRow entry.row

-- it spells none, and that is its fault: the key is too long, or else there is no such row
abbrev pub SpellsNoEntry : Ask → Fault → Type 0
SpellsNoEntry ask fault = ((fault ≡ KeyTooLong) × (64 < ask.len)) ⊎ ((fault ≡ BadRow) × (ask.len ≤ 64) × (IsRow (row_asked ask) → ⊥))

-- the range begins at a key, and ends below one
abbrev pub has_from : Ask → Bool
has_from ask = ask.ends % 2 == 1

abbrev pub has_below : Ask → Bool
has_below ask = nat_le 2 ask.ends

-- an end of a range, which is there or open
abbrev pub end_asked : Bool → ℕ → List ℕ → Option (List ℕ)
end_asked true len cells = Some (take len cells)
end_asked false len cells = None

-- a call spells this range
pub record SpellsRange (ask : Ask) (range : Range) : Type 0 where
  pub from : range.from ≡ end_asked (has_from ask) ask.len ask.key
  pub below : range.below ≡ end_asked (has_below ask) ask.below_len ask.below
  pub from_fits : has_from ask ≡ true → ask.len ≤ 64
  pub below_fits : has_below ask ≡ true → ask.below_len ≤ 64

-- it spells none, since an end is too long
abbrev pub SpellsNoRange : Ask → Fault → Type 0
SpellsNoRange ask fault = (fault ≡ KeyTooLong) × (((has_from ask ≡ true) × (64 < ask.len)) ⊎ ((has_below ask ≡ true) × (64 < ask.below_len)))
