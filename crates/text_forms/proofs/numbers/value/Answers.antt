use Rattle.text_forms.proofs.Numerals.{decimal-parsed, read_of_decimal, no_decimal}
use Rattle.text_forms.proofs.numbers.value.Goals as goal

pub returns-in-Ok-clause-found : goal.returns-in-Ok-clause-found
returns-in-Ok-clause-found c =
    decimal-parsed c.args.text.now c.in-Ok.number c.in-Ok.ensures.value.0 c.requires.sign c.requires.zeros

pub returns-in-Ok-clause-only : goal.returns-in-Ok-clause-only
returns-in-Ok-clause-only c = λ n small spelled.
    read_of_decimal c.args.text.now c.in-Ok.number n c.in-Ok.ensures.value.0 small spelled

pub returns-in-Err-clause-only : goal.returns-in-Err-clause-only
returns-in-Err-clause-only c = λ n small spelled. absurd (no_decimal c.args.text.now n c.in-Err.ensures.value.0 small spelled)
