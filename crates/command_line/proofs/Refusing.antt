-- Lines that are refused.
use Rattle.std.proofs.Common.{◌≡◌, ◌∷◌, [], ◌∙◌, ℕ, true, List, inl, inr, sym, subst}
use Rattle.std.specs.Fmt.{decimal}
use Rattle.text_forms.specs.Values.{AreNoEntry, AreNoRange, AreNoRows}
use Rattle.command_line.specs.Script.{AreNoValues, AreRefused, IsSession, has_range, has_rows, names_entry}
use Rattle.command_line.proofs.Imports.{Fault}

-- for each kind of values
pub values_so : {P : Type 0} (fault : Fault) (name : List ℕ) (words : List (List ℕ)) → AreNoValues fault name words
    → (names_entry name ≡ true → AreNoEntry fault words [] → P) → (has_range name ≡ true → AreNoRange fault words [] → P)
    → (has_rows name ≡ true → AreNoRows fault words → P) → P
values_so fault name words (inl h) entry range rows = entry h.0 h.1
values_so fault name words (inr (inl h)) entry range rows = range h.0 h.1
values_so fault name words (inr (inr h)) entry range rows = rows h.0 h.1

same_parts : (a b c d : List ℕ) (xs ys : List (List ℕ)) → a ∷ c ∷ xs ≡ b ∷ d ∷ ys → (a ≡ b) × (c ≡ d) × (xs ≡ ys)
same_parts a b c d xs ys same = (cc, cc, cc)

-- ... of a line with this name, this session and these words after them
pub refused_so : {P : Type 0} (fault : Fault) (all rest : List (List ℕ)) (name value : List ℕ) → all ≡ name ∷ value ∷ rest → AreRefused fault all
    → ((session : ℕ) → value ≡ decimal session → IsSession session → AreNoValues fault name rest → P) → P
refused_so fault all rest name value is refused by =
    let parts = same_parts refused.name name (decimal refused.session) value refused.values rest (sym refused.spelled ∙ is) in
    let here = subst (λ (n : List ℕ). AreNoValues fault n rest) parts.0 (subst (λ (ws : List (List ℕ)). AreNoValues fault refused.name ws) parts.2 refused.is) in
    by refused.session (sym parts.1) refused.low here
