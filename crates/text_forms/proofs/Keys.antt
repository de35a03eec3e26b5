-- Keys and their text.
use Rattle.std.proofs.Common.{◌≡◌, ℕ, ◌*◌, ◌/◌, ◌≤◌, List, [], ◌∷◌, length, Result, Ok, Err, MatchResult, refl, ap, arith, take, length-take-le}
use Rattle.hex.specs.Hex.{encode_lower, lower_digits, decode_sized, IsBytes}
use Rattle.hex.specs.declared.error.FromHexError.{FromHexError}
use Rattle.hex.proofs.HexLemmas.{length-encode_with, decode_sized-encode_lower}
use Rattle.text_forms.specs.Spelling.{key_text}

pub length-encode_lower : (key : List ℕ) → length (encode_lower key) ≡ 2 * length key
length-encode_lower key = length-encode_with lower_digits key

-- the text of a key, decoded into room for it, gives the key
pub decoded_key : (text key out : List ℕ) (room : ℕ) (answer : Result (Unit {0}) FromHexError)
    → MatchResult (decode_sized text room) (λ bytes. (answer ≡ Ok tt) × (out ≡ bytes)) (λ error. answer ≡ Err error)
    → IsBytes key → length key ≡ room → text ≡ encode_lower key → (answer ≡ Ok tt) × (out ≡ key)
decoded_key text key out room answer decoded bytes fits spelled =
    rw (spelled, decode_sized-encode_lower key room fits bytes) at decoded

-- a dash is the text of the empty key alone
pub dash_key : (key : List ℕ) → 45 ∷ [] ≡ key_text key → key ≡ []
dash_key [] same = refl
dash_key (byte ∷ key) same = absurd (omega (arith, ap length same, length-encode_lower (byte ∷ key)))

-- the text of a key is at most twice as long as the key can be
pub length-key_text-le : (key : List ℕ) → length key ≤ 64 → length (key_text key) ≤ 128
length-key_text-le [] short = omega arith
length-key_text-le (byte ∷ key) short = omega (arith, short, length-encode_lower (byte ∷ key))

-- half as many bytes as there are digits are room for the key
pub room_of_key : (key text cells : List ℕ) → length text ≤ 128 → text ≡ encode_lower key → length cells ≡ 64
    → length key ≡ length (take (length text / 2) cells)
room_of_key key text cells short spelled all =
    let long : length text ≡ length (encode_lower key) = ap length spelled in
    let twice = length-encode_lower key in
    let half : length (take (length text / 2) cells) ≡ length text / 2 = length-take-le (length text / 2) cells (omega arith) in
    omega (arith, half, long, twice)
