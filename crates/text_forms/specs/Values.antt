-- How entries, ranges and rows are spelled, word by word, and which words there are for none.
use Rattle.std.specs.Prelude.{◌≡◌, ◌⊎◌, ℕ, Option, Some, None, List, [], ◌∷◌, ⊤}
use Rattle.index_model.specs.Row.{Row, IsRow}
use Rattle.index_model.specs.declared.entry.Entry.{Entry}
use Rattle.index_model.specs.declared.fault.Fault.{Fault}
use Rattle.index_model.specs.declared.fault.Fault.TheVariants.{KeyTooLong, BadRow}
use Rattle.index_model.specs.declared.range.Range.{Range}
use Rattle.text_forms.specs.Spelling.{IsKey, IsLongKeyText, IsNarrow, key_text, row_text}

-- a key, or `*` for an open end
abbrev pub end_text : Option (List ℕ) → List ℕ
end_text None = 42 ∷ []
end_text (Some key) = key_text key

abbrev pub entry_words : Entry → List (List ℕ)
entry_words entry = key_text entry.key ∷ row_text entry.row ∷ []

abbrev pub range_words : Range → List (List ℕ)
range_words range = end_text range.from ∷ end_text range.below ∷ []

-- an entry whose key and row there are
pub record IsEntryOfBytes (entry : Entry) : Type 0 where
  pub key : IsKey entry.key
  pub row : IsRow entry.row

abbrev pub IsRangeEnd : Option (List ℕ) → Type 0
IsRangeEnd None = ⊤
IsRangeEnd (Some key) = IsKey key

-- ... a range
pub record IsRangeOfBytes (range : Range) : Type 0 where
  pub from : IsRangeEnd range.from
  pub below : IsRangeEnd range.below

-- the word of a key
pub record IsKeyWord (word : List ℕ) : Type 0 where
  pub key : List ℕ
  pub is : IsKey key
  pub spelled : word ≡ key_text key

-- ... of an end of a range
pub record IsEndWord (word : List ℕ) : Type 0 where
  pub key : Option (List ℕ)
  pub is : IsRangeEnd key
  pub spelled : word ≡ end_text key

-- ... of a row
pub record IsRowWord (word : List ℕ) : Type 0 where
  pub row : Row
  pub is : IsRow row
  pub spelled : word ≡ row_text row

-- a word of the form of a row, be there such a row or not
pub record HasRowForm (word : List ℕ) : Type 0 where
  pub row : Row
  pub narrow : IsNarrow row
  pub spelled : word ≡ row_text row

-- ... and there isn't
pub record IsNoRowWord (word : List ℕ) : Type 0 where
  pub row : Row
  pub narrow : IsNarrow row
  pub spelled : word ≡ row_text row
  pub is_none : ¬ IsRow row

-- a word of the form of an end of a range, be there such a key or not
abbrev pub HasEndForm : List ℕ → Type 0
HasEndForm word = IsEndWord word ⊎ IsLongKeyText word

-- each of these words is that of a row
abbrev pub AreRows : List (List ℕ) → Type 0
AreRows [] = ⊤
AreRows (word ∷ words) = IsRowWord word × AreRows words

-- ... has the form of one
abbrev pub HaveRowForms : List (List ℕ) → Type 0
HaveRowForms [] = ⊤
HaveRowForms (word ∷ words) = HasRowForm word × HaveRowForms words

-- what two words of the forms of a key and a row are refused with: first that there is no such key, then that
-- there is no such row
abbrev pub IsNoEntry : Fault → List ℕ → List ℕ → Type 0
IsNoEntry KeyTooLong key row = IsLongKeyText key × HasRowForm row
IsNoEntry BadRow key row = IsKeyWord key × IsNoRowWord row
IsNoEntry fault key row = ⊥

-- the first two words are refused so, and these are after them
pub record AreNoEntry (fault : Fault) (words rest : List (List ℕ)) : Type 0 where
  pub key : List ℕ
  pub row : List ℕ
  pub is : IsNoEntry fault key row
  pub spelled : words ≡ key ∷ row ∷ rest

-- what two words of the forms of ends of a range are refused with: that there is no such key
abbrev pub IsNoRange : Fault → List ℕ → List ℕ → Type 0
IsNoRange KeyTooLong from below = HasEndForm from × HasEndForm below × (IsLongKeyText from ⊎ IsLongKeyText below)
IsNoRange fault from below = ⊥

-- the first two words are refused so, and these are after them
pub record AreNoRange (fault : Fault) (words rest : List (List ℕ)) : Type 0 where
  pub from : List ℕ
  pub below : List ℕ
  pub is : IsNoRange fault from below
  pub spelled : words ≡ from ∷ below ∷ rest

-- what words of the form of rows are refused with: that there is no such row for one of them
abbrev pub AreNoRows : Fault → List (List ℕ) → Type 0
AreNoRows BadRow words = HaveRowForms words × (AreRows words → ⊥)
AreNoRows fault words = ⊥
