-- What words that are refused say.
use Rattle.std.proofs.Common.{◌≡◌, inl, inr, ℕ, List, [], ◌∷◌, length, get_or, Option, Some, None, Result, Ok, Err, IfOk, IsOk, refl, sym, ap, subst, ◌∙◌, arith, rules}
use Rattle.index_model.specs.Row.{Row}
use Rattle.index_model.specs.declared.entry.Entry.{Entry}
use Rattle.index_model.specs.declared.range.Range.{Range}
use Rattle.index_model.specs.declared.fault.Fault.{Fault}
use Rattle.index_model.specs.declared.fault.Fault.TheVariants.{KeyTooLong, BadRow}
use Rattle.text_forms.specs.Spelling.{IsKey, IsLongKeyText, IsNarrow, ReadsRow, key_text, row_text}
use Rattle.text_forms.specs.Values.{HasEndForm, IsRangeEnd, IsNoEntry, IsNoRange, end_text}
use Rattle.text_forms.proofs.Keys.{length-encode_lower}

same_fault : {T : Type 0} (read : Result T Fault) (f fault : Fault) → read ≡ Err f → read ≡ Err fault → f ≡ fault
same_fault read f fault is told = cc

not_ok : {T : Type 0} (read : Result T Fault) (fault : Fault) → read ≡ Err fault → IsOk read → ⊥
not_ok (Ok x) fault told ok = absurd cc
not_ok (Err f) fault told ok = absurd (search rules)

-- two words that are no entry's
pub no_entry : (k : Result (List ℕ) Fault) (r : Result Row Fault) (read : Result Entry Fault) (key_word row_word : List ℕ) (fault : Fault)
    → ((key : List ℕ) → k ≡ Ok key → key_word ≡ key_text key) → ((key : List ℕ) → k ≡ Ok key → IsKey key) → ((f : Fault) → k ≡ Err f → (f ≡ KeyTooLong) × IsLongKeyText key_word)
    → ((row : Row) × (row_word ≡ row_text row) × IsNarrow row × ReadsRow row r)
    → ((f : Fault) → k ≡ Err f → read ≡ Err f) → ((f : Fault) → IsOk k → r ≡ Err f → read ≡ Err f) → (IsOk k → IsOk r → IsOk read)
    → read ≡ Err fault → IsNoEntry fault key_word row_word
no_entry (Err f) r read key_word row_word fault found valid long row first then both told =
    let l = long f refl in
    let same : KeyTooLong ≡ fault = sym l.0 ∙ same_fault read f fault (first f refl) told in
    subst (λ (x : Fault). IsNoEntry x key_word row_word) same (l.1, record { row = row.0; narrow = row.2; spelled = row.1 })
no_entry (Ok key) (Err f) read key_word row_word fault found valid long row first then both told =
    let same : BadRow ≡ fault = sym row.3.0 ∙ same_fault read f fault (then f (search rules) refl) told in
    subst (λ (x : Fault). IsNoEntry x key_word row_word) same
    (record { key = key; is = valid key refl; spelled = found key refl }, record { row = row.0; narrow = row.2; spelled = row.1; is_none = row.3.1 })
no_entry (Ok key) (Ok valid_row) read key_word row_word fault found valid long row first then both told = absurd (not_ok read fault told (both (search rules) (search rules)))

end_form : (e : Result (Option (List ℕ)) Fault) (word : List ℕ) → IfOk e (λ key. word ≡ end_text key) → IfOk e IsRangeEnd
    → ((f : Fault) → e ≡ Err f → (f ≡ KeyTooLong) × IsLongKeyText word) → HasEndForm word
end_form (Ok key) word found valid long = inl (record { key = key; is = valid; spelled = found })
end_form (Err f) word found valid long = inr (long f refl).1

-- ... no range's
pub no_range : (a b : Result (Option (List ℕ)) Fault) (read : Result Range Fault) (from below : List ℕ) (fault : Fault)
    → IfOk a (λ key. from ≡ end_text key) → IfOk a IsRangeEnd → ((f : Fault) → a ≡ Err f → (f ≡ KeyTooLong) × IsLongKeyText from)
    → IfOk b (λ key. below ≡ end_text key) → IfOk b IsRangeEnd → ((f : Fault) → b ≡ Err f → (f ≡ KeyTooLong) × IsLongKeyText below)
    → ((f : Fault) → a ≡ Err f → read ≡ Err f) → ((f : Fault) → IsOk a → b ≡ Err f → read ≡ Err f) → (IsOk a → IsOk b → IsOk read)
    → read ≡ Err fault → IsNoRange fault from below
no_range a b read from below fault a_found a_valid a_long b_found b_valid b_long first then both told = by a b a_long b_long first then both
  where
    forms : HasEndForm from × HasEndForm below
    forms = (end_form a from a_found a_valid a_long, end_form b below b_found b_valid b_long)

    by : (a b : Result (Option (List ℕ)) Fault) → ((f : Fault) → a ≡ Err f → (f ≡ KeyTooLong) × IsLongKeyText from) → ((f : Fault) → b ≡ Err f → (f ≡ KeyTooLong) × IsLongKeyText below)
        → ((f : Fault) → a ≡ Err f → read ≡ Err f) → ((f : Fault) → IsOk a → b ≡ Err f → read ≡ Err f) → (IsOk a → IsOk b → IsOk read) → IsNoRange fault from below
    by (Err f) b a_long b_long first then both =
        let l = a_long f refl in
        let same : KeyTooLong ≡ fault = sym l.0 ∙ same_fault read f fault (first f refl) told in
        subst (λ (x : Fault). IsNoRange x from below) same (forms.0, forms.1, inl l.1)
    by (Ok key) (Err f) a_long b_long first then both =
        let l = b_long f refl in
        let same : KeyTooLong ≡ fault = sym l.0 ∙ same_fault read f fault (then f (search rules) refl) told in
        subst (λ (x : Fault). IsNoRange x from below) same (forms.0, forms.1, inr l.1)
    by (Ok key) (Ok other) a_long b_long first then both = absurd (not_ok read fault told (both (search rules) (search rules)))

-- a star is the text of no key
star_key : (key : List ℕ) → 42 ∷ [] ≡ key_text key → ⊥
star_key [] same =
    let bytes : 42 ≡ 45 = ap (λ (word : List ℕ). get_or word 0 0) same in
    omega (arith, bytes)
star_key (byte ∷ key) same = omega (arith, ap length same, length-encode_lower (byte ∷ key))

-- ... but of an open end
pub star_end : (key : Option (List ℕ)) (text : List ℕ) → text ≡ 42 ∷ [] → text ≡ end_text key → None ≡ key
star_end None text star spelled = refl
star_end (Some key) text star spelled = absurd (star_key key (sym star ∙ spelled))
