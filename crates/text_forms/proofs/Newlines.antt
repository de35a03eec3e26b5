-- The lines of a text, by the place of its first newline.
use Rattle.std.proofs.Common.{◌≡◌, ℕ, suc, ◌+◌, ◌<◌, ◌≤◌, Bool, true, false, not, ◌==◌, cond, nat_lt, List, [], ◌∷◌, length, take, drop, Some, None, refl, ap, arith, add-one}
use Rattle.std.proofs.lemmas.Bool.{ltb-false, ltb-true}
use Rattle.std.proofs.lemmas.Option.{cond_some}
use Rattle.std.specs.List.{position, position_or_len}
use Rattle.text_forms.proofs.Parts.{chosen_none}
use Rattle.text_forms.specs.Spelling.{lines_of, with_first}

abbrev is_newline : ℕ → Bool
is_newline byte = byte == 10

-- where the first newline is, or the length
abbrev newline : List ℕ → ℕ
newline text = position_or_len is_newline text

lines_of-newline : (text : List ℕ) → newline text < length text → lines_of text ≡ take (newline text) text ∷ lines_of (drop (suc (newline text)) text)
lines_of-newline [] below = absurd (omega arith)
lines_of-newline (byte ∷ text) below =
    let place : Bool → ℕ = λ test. cond (not test) (1 + newline text) 0 in
    (elim (byte == 10) as (λ test. place test < length (byte ∷ text)
    → cond test ([] ∷ lines_of text) (with_first byte (lines_of text)) ≡ take (place test) (byte ∷ text) ∷ lines_of (drop (suc (place test)) (byte ∷ text))) [
      | true ↦ λ _. refl
      | false ↦ λ inside.
          let up : 1 + newline text ≡ suc (newline text) = omega arith in
          rw up (ap (with_first byte) (lines_of-newline text (omega (arith, inside))))
    ]) below

-- a byte before a text that is one line, or none
lines_of-one : (byte : ℕ) (text : List ℕ) → length text ≤ newline text → with_first byte (lines_of text) ≡ (byte ∷ text) ∷ []
lines_of-one byte [] past = refl
lines_of-one byte (next ∷ text) past =
    let place : Bool → ℕ = λ test. cond (not test) (1 + newline text) 0 in
    (elim (next == 10) as (λ test. length (next ∷ text) ≤ place test
    → with_first byte (cond test ([] ∷ lines_of text) (with_first next (lines_of text))) ≡ (byte ∷ next ∷ text) ∷ []) [
      | true ↦ λ none. absurd (omega (arith, none))
      | false ↦ λ none. ap (with_first byte) (lines_of-one next text (omega (arith, none)))
    ]) past

lines_of-past : (text : List ℕ) → (text ≡ [] → ⊥) → length text ≤ newline text → lines_of text ≡ text ∷ []
lines_of-past [] some past = absurd (some refl)
lines_of-past (byte ∷ text) some past =
    let place : Bool → ℕ = λ test. cond (not test) (1 + newline text) 0 in
    (elim (byte == 10) as (λ test. length (byte ∷ text) ≤ place test
    → cond test ([] ∷ lines_of text) (with_first byte (lines_of text)) ≡ (byte ∷ text) ∷ []) [
      | true ↦ λ none. absurd (omega (arith, none))
      | false ↦ λ none. lines_of-one byte text (omega (arith, none))
    ]) past

-- a text without a newline is one line
pub lines_of-whole : (text : List ℕ) → (text ≡ [] → ⊥) → position (λ byte. byte == 10) text ≡ None → lines_of text ≡ text ∷ []
lines_of-whole text some none = lines_of-past text some (ltb-false (newline text) (length text) (chosen_none (nat_lt (newline text) (length text)) (newline text) none))

-- what is before the first newline is the first line
pub lines_of-parted : (text : List ℕ) (at : ℕ) → position (λ byte. byte == 10) text ≡ Some at → lines_of text ≡ take at text ∷ lines_of (drop (at + 1) text)
lines_of-parted text at found =
    let place = cond_some (nat_lt (newline text) (length text)) (newline text) at found in
    rw (add-one at, ← place.1) (lines_of-newline text (ltb-true _ _ place.0))

-- after the end there is no line
pub lines_of-end : (text : List ℕ) → lines_of (drop (length text) text) ≡ []
lines_of-end [] = refl
lines_of-end (byte ∷ text) = lines_of-end text
