use Rattle.std.proofs.Common.{arith}
use Rattle.std.specs.Fmt.{decimal}
use Rattle.std.proofs.lemmas.Fmt.{decimal_is_IsNumeral}
use Rattle.text_forms.proofs.numbers.numbers.Goals as goal

pub returns-in-None-clause-only : goal.returns-in-None-clause-only
returns-in-None-clause-only c = λ block offset low small spelled.
    absurd (c.in-None.ensures.only (decimal block) (decimal offset) (decimal_is_IsNumeral block (omega arith)).0.1 spelled)

pub returns-in-Some-clause-only : goal.returns-in-Some-clause-only
returns-in-Some-clause-only c = λ block offset low small spelled.
    let parts = c.in-Some.ensures.only (decimal block) (decimal offset) (decimal_is_IsNumeral block (omega arith)).0.1 spelled in
    c.both.ensures.only block offset (c.number_u32.ensures.only block low parts.0) (c.number_u16.ensures.only offset small parts.1)
