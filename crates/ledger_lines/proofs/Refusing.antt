-- Lines that are refused.
use Rattle.std.proofs.Common.{◌≡◌, ◌∷◌, [], ℕ, List, codes, inl, inr, sym, subst, ◌∙◌}
use Rattle.ledger_lines.specs.Lines.{LedgerLineFails, LedgerValuesFail}
use Rattle.ledger_lines.proofs.Imports.{Fault}
use Rattle.text_forms.specs.Values.{AreNoEntry, AreNoRange, AreNoRows}

-- for each kind of values
values_so : {P : Type 0} (fault : Fault) (name : List ℕ) (words : List (List ℕ)) → LedgerValuesFail fault name words
    → (name ≡ codes "insert" → AreNoEntry fault words [] → P) → (name ≡ codes "list" → AreNoRange fault words [] → P) → (name ≡ codes "delete" → AreNoRows fault words → P) → P
values_so fault name words (inl h) entry range rows = entry h.0 h.1
values_so fault name words (inr (inl h)) entry range rows = range h.0 h.1
values_so fault name words (inr (inr h)) entry range rows = rows h.0 h.1

same_parts : (a b : List ℕ) (xs ys : List (List ℕ)) → a ∷ xs ≡ b ∷ ys → (a ≡ b) × (xs ≡ ys)
same_parts a b xs ys same = (cc, cc)

-- ... of a line with this name and these words after it
pub fails_so : {P : Type 0} (fault : Fault) (all : List (List ℕ)) (name : List ℕ) (words : List (List ℕ)) → LedgerLineFails fault all → all ≡ name ∷ words
    → (name ≡ codes "insert" → AreNoEntry fault words [] → P) → (name ≡ codes "list" → AreNoRange fault words [] → P) → (name ≡ codes "delete" → AreNoRows fault words → P) → P
fails_so fault all name words fails is entry range rows =
    let parts = same_parts fails.name name fails.values words (sym fails.spelled ∙ is) in
    let here = subst (λ (n : List ℕ). LedgerValuesFail fault n words) parts.0 (subst (λ (ws : List (List ℕ)). LedgerValuesFail fault fails.name ws) parts.1 fails.is) in
    values_so fault name words here entry range rows
