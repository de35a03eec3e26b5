use Rattle.std.proofs.Common.{rules}
use Rattle.text_forms.proofs.numbers.row.Goals as goal

pub returns-clause-found : goal.returns-clause-found
returns-clause-found c = (
  record { block = c.in_ok-block.block; offset = c.in_ok-block.offset },
  c.in_ok-block.ensures.found,
  record { block = search rules; offset = search rules },
  c.new.ensures,
)
