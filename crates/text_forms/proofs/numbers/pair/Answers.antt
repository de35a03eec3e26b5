use Rattle.std.proofs.Common.{◌∷◌, ◌++◌, ◌∙◌}
use Rattle.std.specs.Fmt.{decimal}
use Rattle.text_forms.proofs.RowText.{row_text-inside}
use Rattle.text_forms.proofs.numbers.pair.Goals as goal

pub returns-in-None-clause-only : goal.returns-in-None-clause-only
returns-in-None-clause-only c = λ row low small spelled.
    absurd (c.in-None.ensures.only (decimal row.block ++ (44 ∷ decimal row.offset)) (spelled ∙ row_text-inside row))

pub returns-in-Some-clause-only : goal.returns-in-Some-clause-only
returns-in-Some-clause-only c = λ row low small spelled.
    c.numbers.ensures.only row.block row.offset low small
    (c.in-Some.ensures.only (decimal row.block ++ (44 ∷ decimal row.offset)) (spelled ∙ row_text-inside row))
