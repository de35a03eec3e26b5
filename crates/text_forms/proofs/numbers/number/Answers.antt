use Rattle.std.proofs.Common.{arith, ◌≡◌, slice_index}
use Rattle.text_forms.proofs.Numerals.{first_of_decimal, zeros_of_decimal, IsUtf8-decimal}
use Rattle.text_forms.proofs.numbers.number.Goals as goal

pub returns-then-has_sign-clause-only : goal.returns-then-has_sign-clause-only
returns-then-has_sign-clause-only c = λ n small spelled.
    let sign : slice_index c.args.text.now 0 ≡ 43 = c.has_sign.ensures.0 c.if-has_sign.true in
    let first = first_of_decimal n small in
    absurd (omega (arith, rw spelled at sign, first))

pub returns-then-has_zeros-clause-only : goal.returns-then-has_zeros-clause-only
returns-then-has_zeros-clause-only c = λ n small spelled.
    let zeros = c.has_zeros.ensures.0 c.if-has_zeros.true in
    let one = zeros_of_decimal n small (rw spelled at zeros.0) in
    absurd (omega (arith, rw spelled at zeros.1, one))

pub returns-in-Err-clause-only : goal.returns-in-Err-clause-only
returns-in-Err-clause-only c = λ n small spelled. absurd (c.in-Err.ensures.cases.0 (rw spelled (IsUtf8-decimal n small)))
