-- How lines and what stands in them are spelled.
use Rattle.std.specs.Prelude.{◌≡◌, ℕ, Bool, ◌==◌, if◌then◌else◌, Option, Some, None, List, [], ◌∷◌, ◌++◌, length, Result, MatchResult, ◌<◌, ◌≤◌, ◌^◌, ◌%◌, true, false, ◌&&◌, ◌||◌, nat_le, codes}
use Rattle.std.specs.List.{list_all}
use Rattle.std.specs.Fmt.{decimal}
use Rattle.std.specs.Str.{bytes_eq}
use Rattle.hex.specs.Hex.{encode_lower, IsBytes}
use Rattle.index_model.specs.Faults.{block_of, row_of}
use Rattle.index_model.specs.Row.{Row, IsRow}
use Rattle.index_model.specs.declared.fault.Fault.{Fault}
use Rattle.index_model.specs.declared.fault.Fault.TheVariants.{BadRow}
use Rattle.index_model.specs.declared.entry.Entry.{Entry}
use Rattle.index_model.specs.declared.bound.Bound.{Bound}

-- a byte put before the first word
abbrev pub with_first : ℕ → List (List ℕ) → List (List ℕ)
with_first byte [] = (byte ∷ []) ∷ []
with_first byte (word ∷ words) = (byte ∷ word) ∷ words

-- a line's words, which single spaces part: always one more than there are spaces
abbrev pub words_of : List ℕ → List (List ℕ)
words_of [] = [] ∷ []
words_of (byte ∷ line) = if byte == 32 then [] ∷ words_of line else with_first byte (words_of line)

-- a word is one of these
abbrev pub is_one_of : List ℕ → List (List ℕ) → Bool
is_one_of word [] = false
is_one_of word (other ∷ others) = bytes_eq word other || is_one_of word others

-- a text's lines, each without the newline that ends it; after the last newline none begins where nothing is
abbrev pub lines_of : List ℕ → List (List ℕ)
lines_of [] = []
lines_of (byte ∷ text) = if byte == 10 then [] ∷ lines_of text else with_first byte (lines_of text)

-- lower-case hex, `-` for no byte
abbrev pub key_text : List ℕ → List ℕ
key_text [] = 45 ∷ []
key_text (byte ∷ bytes) = encode_lower (byte ∷ bytes)

-- `(block,offset)`
abbrev pub row_text : Row → List ℕ
row_text row = 40 ∷ (decimal row.block ++ (44 ∷ (decimal row.offset ++ 41 ∷ [])))

-- a key and a row, parted by a space
abbrev pub entry_text : Entry → List ℕ
entry_text entry = key_text entry.key ++ (32 ∷ row_text entry.row)

-- a key of at most 64 bytes
pub record IsKey (key : List ℕ) : Type 0 where
  pub bytes : IsBytes key
  pub short : length key ≤ 64

-- the block is a number of 32 bits, and the offset one of 16
pub record IsNarrow (row : Row) : Type 0 where
  pub block : row.block < 2 ^ 32
  pub offset : row.offset < 2 ^ 16

-- what the row that a text spells is answered with: the row, or that there is no such row
abbrev pub ReadsRow : Row → Result Row Fault → Type 0
ReadsRow row read = MatchResult read (λ valid. (valid ≡ row) × IsRow valid) (λ fault. (fault ≡ BadRow) × (¬ IsRow row))

-- `0` to `9` and `a` to `f`
abbrev pub is_key_digit : ℕ → Bool
is_key_digit byte = (nat_le 48 byte && nat_le byte 57) || (nat_le 97 byte && nat_le byte 102)

-- the text of more bytes than a key has
pub record IsLongKeyText (text : List ℕ) : Type 0 where
  pub long : 128 < length text
  pub even : length text % 2 ≡ 0
  pub digits : list_all is_key_digit text ≡ true

-- the rows of a bound: one, or the place before all
abbrev pub place_text : Option Row → List ℕ
place_text None = codes "before"
place_text (Some row) = row_text row

-- a key and its rows, parted by a space
abbrev pub bound_text : Bound → List ℕ
bound_text bound = key_text bound.key ++ (32 ∷ place_text bound.row)

-- the number of a block, or `-`
abbrev pub link_text : Option ℕ → List ℕ
link_text None = 45 ∷ []
link_text (Some block) = decimal block

-- what a fault names, each with a space in front: the block of a page
abbrev pub block_after : Option ℕ → List ℕ
block_after None = []
block_after (Some block) = 32 ∷ decimal block

-- ... a row
abbrev pub row_after : Option Row → List ℕ
row_after None = []
row_after (Some row) = 32 ∷ row_text row

-- ... or nothing
abbrev pub named_text : Fault → List ℕ
named_text fault = block_after (block_of fault) ++ row_after (row_of fault)
