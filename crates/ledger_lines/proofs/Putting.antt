-- Bytes that a writer takes one part after the other.
use Rattle.std.proofs.Common.{◌≡◌, ◌∙◌, ℕ, ◌-◌, List, [], ◌++◌, length, take, drop, sym, ap, append_assoc, append-nil, take-append-drop}
use Rattle.std.proofs.lemmas.List.{take_rest}
use Rattle.std.specs.Io.KnownBytes.{Appends, Keeps}
use Rattle.ledger_lines.proofs.Imports.{Option, Some, None}

-- to take none is to keep what was there
pub appends_none : (old new : Option (List ℕ)) → Keeps old new → Appends old new []
appends_none None new kept = tt
appends_none (Some xs) None kept = absurd kept
appends_none (Some xs) (Some ys) kept = kept ∙ sym (append-nil xs)

pub keeps_none : (old new : Option (List ℕ)) → Appends old new [] → Keeps old new
keeps_none None new appended = tt
keeps_none (Some xs) None appended = absurd appended
keeps_none (Some xs) (Some ys) appended = appended ∙ append-nil xs

-- a part more is taken
pub moves_front : (all done rest : List ℕ) (n : ℕ) → all ≡ done ++ rest → all ≡ (done ++ take n rest) ++ take (length rest - n) (drop n rest)
moves_front all done rest n e =
    e ∙ ap (λ (l : List ℕ). done ++ l) (sym (take-append-drop n rest)) ∙ sym (append_assoc done (take n rest) (drop n rest))
    ∙ ap (λ (l : List ℕ). (done ++ take n rest) ++ l) (sym (take_rest rest n))
