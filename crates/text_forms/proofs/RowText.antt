-- The text of a row.
use Rattle.std.proofs.Common.{◌≡◌, ◌∷◌, ◌++◌, [], append_assoc, ap, sym}
use Rattle.std.specs.Fmt.{decimal}
use Rattle.index_model.specs.Row.{Row}
use Rattle.text_forms.specs.Spelling.{row_text}

-- parentheses round two numbers
pub row_text-inside : (row : Row) → row_text row ≡ 40 ∷ ((decimal row.block ++ (44 ∷ decimal row.offset)) ++ 41 ∷ [])
row_text-inside row = ap (λ inside. 40 ∷ inside) (sym (append_assoc (decimal row.block) (44 ∷ decimal row.offset) (41 ∷ [])))
