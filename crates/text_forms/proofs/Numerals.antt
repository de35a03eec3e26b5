-- Numbers and their decimal text.
use Rattle.std.proofs.Common.{◌≡◌, ◌≢◌, ℕ, ◌<◌, ◌≤◌, ◌^◌, List, length, get_or, Result, Ok, Err, Some, refl, sym, arith, inl, inr}
use Rattle.std.specs.Fmt.{decimal}
use Rattle.std.specs.Str.{IsUtf8}
use Rattle.std.specs.Str.Parse.{ParsesUnsigned, AllDigits}
use Rattle.std.proofs.lemmas.Bool.{cases_eq}
use Rattle.std.proofs.lemmas.Fmt.{decimal_is_IsNumeral, decimal_digit, first_decimal, IsAscii-decimal, parse-decimal, decimal-digits_value}
use Rattle.std.proofs.lemmas.Str.{IsUtf8-from_ascii}
use Rattle.std.proofs.lemmas.Str.Parse.{parse_plain, digit_at, numerals_by_value, tells_digits}

-- a numeral begins with a digit
pub first_of_decimal : (n : ℕ) → n < 2 ^ 64 → 48 ≤ get_or (decimal n) 0 0
first_of_decimal n small =
    let numeral = decimal_is_IsNumeral n small in
    (digit_at (decimal n) 0 numeral.0.1 numeral.0.0).0

-- and with no zero before another digit
pub zeros_of_decimal : (n : ℕ) → n < 2 ^ 64 → get_or (decimal n) 0 0 ≡ 48 → length (decimal n) ≡ 1
zeros_of_decimal n small zero =
    elim (cases_eq n 0) [
      | inl none ↦ rw (none, decimal_digit 0 (omega arith)) refl
      | inr some ↦ absurd (omega (arith, first_decimal n (omega (arith, some)) small))
    ]

pub IsUtf8-decimal : (n : ℕ) → n < 2 ^ 64 → IsUtf8 (decimal n)
IsUtf8-decimal n small = IsUtf8-from_ascii (decimal n) (IsAscii-decimal n small)

-- what a plain text is read as, it spells
pub decimal-parsed : (text : List ℕ) (n : ℕ) → ParsesUnsigned {E = ℕ} 64 10 text (Ok n)
    → get_or text 0 0 ≢ 43 → (get_or text 0 0 ≡ 48 → length text ≡ 1) → text ≡ decimal n
decimal-parsed text n parsed plain zeros =
    let own = numerals_by_value (AllDigits 10) tells_digits in
    let answer : Result ℕ ℕ = Ok n in
    let read = parse_plain own 64 text answer parsed plain in
    rw (read.1) (sym (decimal-digits_value own text read.0.0 read.0.1 zeros read.0.2))

-- and what it spells, it is read as
pub read_of_decimal : (text : List ℕ) (read n : ℕ) → ParsesUnsigned {E = ℕ} 64 10 text (Ok read) → n < 2 ^ 64 → text ≡ decimal n → Some read ≡ Some n
read_of_decimal text read n parsed small spelled =
    let answer : Result ℕ ℕ = Ok read in
    let same : answer ≡ Ok n = parse-decimal 64 n text answer small small spelled parsed in
    cc

-- a text that isn't read spells none
pub no_decimal : (text : List ℕ) (n : ℕ) → ParsesUnsigned {E = ℕ} 64 10 text (Err 0) → n < 2 ^ 64 → text ≡ decimal n → ⊥
no_decimal text n parsed small spelled =
    let answer : Result ℕ ℕ = Err 0 in
    let same : answer ≡ Ok n = parse-decimal 64 n text answer small small spelled parsed in
    cc
