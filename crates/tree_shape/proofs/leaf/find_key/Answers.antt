use Rattle.tree_shape.proofs.KeyPlaces.{key_free, free_if}
use Rattle.tree_shape.proofs.leaf.find_key.Goals as goal

pub returns-in-None-clause-free : goal.returns-in-None-clause-free
returns-in-None-clause-free c ascends place =
    free_if c.row_at.result (λ right. key_free c.args.entry.now c.args.entries.now c.args.at ascends place c.in-None.ensures.other right) c.row_at.ensures.other
