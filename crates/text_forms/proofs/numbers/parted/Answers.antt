use Rattle.std.proofs.Common.{◌+◌, sym, ◌∙◌}
use Rattle.text_forms.proofs.Commas.{parted_at, parts_of_digits, no_digits}
use Rattle.text_forms.proofs.Parts.{take_rest}
use Rattle.text_forms.proofs.numbers.parted.Goals as goal

pub returns-in-None-clause-only : goal.returns-in-None-clause-only
returns-in-None-clause-only c = λ front back digits spelled.
    no_digits c.args.text.now front back (sym c.comma.ensures ∙ c.in-None.is) digits spelled

pub returns-in-Some-clause-found : goal.returns-in-Some-clause-found
returns-in-Some-clause-found c =
    rw (take_rest c.args.text.now (c.in-Some.at + 1)) (parted_at c.args.text.now c.in-Some.at (sym c.comma.ensures ∙ c.in-Some.is))

pub returns-in-Some-clause-only : goal.returns-in-Some-clause-only
returns-in-Some-clause-only c = λ front back digits spelled.
    rw (take_rest c.args.text.now (c.in-Some.at + 1))
    (parts_of_digits c.args.text.now front back c.in-Some.at (sym c.comma.ensures ∙ c.in-Some.is) digits spelled)
