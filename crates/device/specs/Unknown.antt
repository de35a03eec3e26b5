-- What a file held of which nothing is known.
use Rattle.std.specs.Prelude.{◌≡◌, ℕ, List, length, replicate}
use Rattle.std.proofs.lemmas.List.{length-replicate}

-- some bytes, so many; no proof outside of this file can see which, so that what is proved of them holds of
-- any
pub some_bytes : ℕ → List ℕ
some_bytes len = replicate len 0

pub length-some_bytes : (len : ℕ) → length (some_bytes len) ≡ len
unfolding some_bytes
length-some_bytes len = length-replicate len 0
