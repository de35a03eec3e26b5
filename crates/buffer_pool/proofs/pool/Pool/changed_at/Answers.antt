use Rattle.std.proofs.Common.{◌∙◌, sym, ap, arith}
use Rattle.buffer_pool.specs.Orders.{waiting_in}
use Rattle.buffer_pool.proofs.Imports.{slice_get_past, get_or_from_slice_get, has_block}
use Rattle.buffer_pool.specs.Pools.{changed_of}
use Rattle.buffer_pool.proofs.Changing.{has_block-at}
use Rattle.buffer_pool.proofs.pool.Pool.changed_at.Goals as goal

pub returns-then-place-len-clause-block : goal.returns-then-place-len-clause-block
unfolding changed_of
returns-then-place-len-clause-block c = sym (slice_get_past (waiting_in c.args.self.now.changed) c.args.place (omega arith))

pub act-requires : goal.act-requires
unfolding changed_of
act-requires c =
    let changed = waiting_in c.args.self.now.changed in
    let is = get_or_from_slice_get changed c.args.place c.block_at-block.result 0 c.block_at-block.ensures in
    record { changed = ap (has_block changed) (sym is) ∙ has_block-at changed c.args.place 0 (omega arith) }

pub returns-clause-block : goal.returns-clause-block
unfolding changed_of
returns-clause-block c = sym c.block_at-block.ensures
