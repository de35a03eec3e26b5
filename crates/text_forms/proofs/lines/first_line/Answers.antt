use Rattle.std.proofs.Common.{◌+◌, length, sym, ◌∙◌}
use Rattle.text_forms.proofs.Newlines.{lines_of-whole, lines_of-parted, lines_of-end}
use Rattle.text_forms.proofs.Parts.{take_rest}
use Rattle.text_forms.proofs.lines.first_line.Goals as goal

pub returns-in-None-clause-parts : goal.returns-in-None-clause-parts
returns-in-None-clause-parts c = λ some.
    rw (take_rest c.args.text.now (length c.args.text.now), lines_of-end c.args.text.now) (lines_of-whole c.args.text.now some (sym c.newline.ensures ∙ c.in-None.is))

pub returns-in-Some-clause-parts : goal.returns-in-Some-clause-parts
returns-in-Some-clause-parts c = λ some.
    rw (take_rest c.args.text.now (c.in-Some.at + 1)) (lines_of-parted c.args.text.now c.in-Some.at (sym c.newline.ensures ∙ c.in-Some.is))
