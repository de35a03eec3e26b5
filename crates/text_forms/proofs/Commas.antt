-- A comma after digits.
use Rattle.std.proofs.Common.{◌≡◌, ℕ, ◌+◌, ◌<◌, Bool, false, ◌==◌, List, [], ◌∷◌, ◌++◌, length, get_or, take, drop, length-append, take-append-drop, drop-cons, Some, None, refl, sym, ◌∙◌, arith, add-one}
use Rattle.std.proofs.lemmas.Bool.{ne_eqb, eqb-true, lt-ltb}
use Rattle.std.proofs.lemmas.List.{take_at, drop_at, drop-drop}
use Rattle.std.proofs.lemmas.List.Quantifiers.{position-Some}
use Rattle.std.proofs.lemmas.Str.Parse.{digit_from_value}
use Rattle.std.specs.List.{position, position_or_len}
use Rattle.std.specs.Str.Parse.{AllDigits}

abbrev is_comma : ℕ → Bool
is_comma byte = byte == 44

place_after_digits : (front back : List ℕ) → AllDigits 10 front → position_or_len is_comma (front ++ (44 ∷ back)) ≡ length front
place_after_digits [] back digits = refl
place_after_digits (digit ∷ front) back digits =
    let range = digit_from_value digit digits.0 in
    let other : (digit == 44) ≡ false = ne_eqb digit 44 (λ same. omega (arith, range.0, same)) in
    let rest : position_or_len is_comma (front ++ (44 ∷ back)) ≡ length front = place_after_digits front back digits.1 in
    rw (other, rest) (omega arith)

-- the first comma stands after the digits
pub comma_after_digits : (front back : List ℕ) → AllDigits 10 front → position (λ byte. byte == 44) (front ++ (44 ∷ back)) ≡ Some (length front)
comma_after_digits front back digits =
    let long : length front < length (front ++ (44 ∷ back)) = simp length-append (omega arith) in
    rw (place_after_digits front back digits, lt-ltb _ _ long) refl

-- a text is what stands before and after a comma
pub parted_at : (text : List ℕ) (at : ℕ) → position (λ byte. byte == 44) text ≡ Some at → text ≡ take at text ++ (44 ∷ drop (at + 1) text)
parted_at text at found =
    let there = position-Some is_comma text at 0 found in
    let below : at < length text = there.0 in
    let comma : get_or text at 0 ≡ 44 = eqb-true (get_or text at 0) 44 there.1 in
    sym (rw (add-one, ← comma, ← drop-cons text at 0) (take-append-drop at text))

-- and of digits before a comma, those
pub parts_of_digits : (text front back : List ℕ) (at : ℕ) → position (λ byte. byte == 44) text ≡ Some at → AllDigits 10 front → text ≡ front ++ (44 ∷ back)
    → (take at text ≡ front) × (drop (at + 1) text ≡ back)
parts_of_digits text front back at found digits spelled =
    let place : Some at ≡ Some (length front) = sym found ∙ rw spelled (comma_after_digits front back digits) in
    let same : at ≡ length front = cc in
    let cut : drop (length front) (front ++ (44 ∷ back)) ≡ 44 ∷ back = drop_at front (44 ∷ back) (length front) refl in
    let after_comma : drop 1 (drop (length front) (front ++ (44 ∷ back))) ≡ back = rw cut refl in
    rw (same, spelled) (take_at front (44 ∷ back) (length front) refl, rw (sym (drop-drop 1 (length front) (front ++ (44 ∷ back)))) after_comma)

-- a text without a comma has no digits before one
pub no_digits : (text front back : List ℕ) → position (λ byte. byte == 44) text ≡ None → AllDigits 10 front → text ≡ front ++ (44 ∷ back) → ⊥
no_digits text front back none digits spelled =
    let found : None ≡ Some (length front) = sym none ∙ rw spelled (comma_after_digits front back digits) in
    cc
