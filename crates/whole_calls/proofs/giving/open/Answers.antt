use Rattle.whole_calls.specs.Meanings.{begin_outcome}
use Rattle.whole_calls.proofs.Composing.{goes_told}
use Rattle.whole_calls.proofs.Made.{made_told, comes_by}
use Rattle.whole_calls.proofs.giving.open.Goals as goal

pub returns-clause-goes : goal.returns-clause-goes
returns-clause-goes g c = goes_told _ c.begin.ensures.goes (λ start h hc k kc answers fits came begun. (came, begun.told))

pub returns-clause-made : goal.returns-clause-made
returns-clause-made g c least_room = made_told (c.begin.ensures.made least_room) (λ xs. comes_by xs (begin_outcome c.begin.result))
