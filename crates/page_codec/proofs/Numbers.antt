-- The bytes of a number that was read are those that it was read from.
use Rattle.std.proofs.Common.{◌≡◌, ℕ, zero, suc, ◌≤◌, ◌<◌, List, [], ◌∷◌, length, take, get_or, refl, arith}
use Rattle.std.proofs.lemmas.Nat.{le_bytes_2, le_bytes_4}
use Rattle.byteorder.specs.Endian.{little_bytes, little_number}
use Rattle.index_model.proofs.Words.{Bytes}

pub two_again : (bs : List ℕ) → 2 ≤ length bs → Bytes bs → little_bytes 2 (little_number 2 bs) ≡ take 2 bs
two_again [] le h = absurd (omega arith)
two_again (a ∷ []) le h = absurd (omega arith)
two_again (a ∷ b ∷ rest) le h = le_bytes_2 (a ∷ b ∷ []) (little_number 2 (a ∷ b ∷ rest)) refl small (omega arith)
  where
    small : Bytes (a ∷ b ∷ [])
    small zero = h 0
    small (suc zero) = h 1
    small (suc (suc i)) = omega arith

pub four_again : (bs : List ℕ) → 4 ≤ length bs → Bytes bs → little_bytes 4 (little_number 4 bs) ≡ take 4 bs
four_again [] le h = absurd (omega arith)
four_again (a ∷ []) le h = absurd (omega arith)
four_again (a ∷ b ∷ []) le h = absurd (omega arith)
four_again (a ∷ b ∷ c ∷ []) le h = absurd (omega arith)
four_again (a ∷ b ∷ c ∷ d ∷ rest) le h = le_bytes_4 (a ∷ b ∷ c ∷ d ∷ []) (little_number 4 (a ∷ b ∷ c ∷ d ∷ rest)) refl small (omega arith)
  where
    small : Bytes (a ∷ b ∷ c ∷ d ∷ [])
    small zero = h 0
    small (suc zero) = h 1
    small (suc (suc zero)) = h 2
    small (suc (suc (suc zero))) = h 3
    small (suc (suc (suc (suc i)))) = omega arith
