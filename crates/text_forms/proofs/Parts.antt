-- The words of a line, by the place of its first space.
use Rattle.std.proofs.Common.{◌≡◌, ℕ, suc, ◌+◌, ◌-◌, ◌<◌, ◌≤◌, Bool, true, false, not, ◌==◌, cond, nat_lt, List, [], ◌∷◌, length, take, drop, take_all, length-drop, Some, None, refl, ap, arith, add-one}
use Rattle.std.proofs.lemmas.Bool.{ltb-false, ltb-true}
use Rattle.std.proofs.lemmas.Option.{cond_some}
use Rattle.std.specs.List.{position, position_or_len}
use Rattle.text_forms.specs.Spelling.{words_of, with_first}

abbrev is_space : ℕ → Bool
is_space byte = byte == 32

-- where the first space is, or the length
abbrev space : List ℕ → ℕ
space line = position_or_len is_space line

words_of-space : (line : List ℕ) → space line < length line → words_of line ≡ take (space line) line ∷ words_of (drop (suc (space line)) line)
words_of-space [] below = absurd (omega arith)
words_of-space (byte ∷ line) below =
    let place : Bool → ℕ = λ test. cond (not test) (1 + space line) 0 in
    (elim (byte == 32) as (λ test. place test < length (byte ∷ line)
    → cond test ([] ∷ words_of line) (with_first byte (words_of line)) ≡ take (place test) (byte ∷ line) ∷ words_of (drop (suc (place test)) (byte ∷ line))) [
      | true ↦ λ _. refl
      | false ↦ λ inside.
          let up : 1 + space line ≡ suc (space line) = omega arith in
          rw up (ap (with_first byte) (words_of-space line (omega (arith, inside))))
    ]) below

words_of-one : (line : List ℕ) → length line ≤ space line → words_of line ≡ line ∷ []
words_of-one [] past = refl
words_of-one (byte ∷ line) past =
    let place : Bool → ℕ = λ test. cond (not test) (1 + space line) 0 in
    (elim (byte == 32) as (λ test. length (byte ∷ line) ≤ place test
    → cond test ([] ∷ words_of line) (with_first byte (words_of line)) ≡ (byte ∷ line) ∷ []) [
      | true ↦ λ none. absurd (omega (arith, none))
      | false ↦ λ none. ap (with_first byte) (words_of-one line (omega (arith, none)))
    ]) past

pub chosen_none : {X : Type 0} (test : Bool) (x : X) → cond test (Some x) None ≡ None → test ≡ false
chosen_none true x none = absurd cc
chosen_none false x none = refl

-- a line without a space is one word
pub words_of-whole : (line : List ℕ) → position (λ byte. byte == 32) line ≡ None → words_of line ≡ line ∷ []
words_of-whole line none = words_of-one line (ltb-false (space line) (length line) (chosen_none (nat_lt (space line) (length line)) (space line) none))

-- what is before the first space is the first word
pub words_of-parted : (line : List ℕ) (at : ℕ) → position (λ byte. byte == 32) line ≡ Some at → words_of line ≡ take at line ∷ words_of (drop (at + 1) line)
words_of-parted line at found =
    let place = cond_some (nat_lt (space line) (length line)) (space line) at found in
    rw (add-one at, ← place.1) (words_of-space line (ltb-true _ _ place.0))

-- a rest cut at its own length
pub take_rest : (line : List ℕ) (from : ℕ) → take (length line - from) (drop from line) ≡ drop from line
take_rest line from = take_all (length line - from) (drop from line) (simp length-drop (omega arith))

with_first-some : (byte : ℕ) (words : List (List ℕ)) → with_first byte words ≡ [] → ⊥
with_first-some byte [] none = cc
with_first-some byte (word ∷ words) none = cc

-- each line has a word
pub words_of-some : (line : List ℕ) → words_of line ≡ [] → ⊥
words_of-some [] none = cc
words_of-some (byte ∷ line) none =
    (elim (byte == 32) as (λ test. cond test ([] ∷ words_of line) (with_first byte (words_of line)) ≡ [] → ⊥) [
      | true ↦ λ e. cc
      | false ↦ λ e. with_first-some byte (words_of line) e
    ]) none
