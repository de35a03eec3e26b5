use Rattle.std.proofs.Common.{◌≡◌, ◌∙◌, ℕ, List, Some, sym, ap, refl, subst, set, length-set, get_or, arith}
use Rattle.buffer_pool.specs.Orders.{waiting_in}
use Rattle.buffer_pool.proofs.Imports.{get_or_from_slice_get, blocks_in, has_block, AreChanged}
use Rattle.buffer_pool.specs.Pools.{changed_of, frame_of}
use Rattle.buffer_pool.proofs.Changing.{has_block-at, changed_less}
use Rattle.buffer_pool.proofs.Noting.{frame_within, frame_plain, changed_held, written_is}
use Rattle.buffer_pool.proofs.pool.Pool.note_written.Goals as goal

pub frame-at-requires : goal.frame-at-requires
unfolding changed_of
frame-at-requires c =
    let pool = c.args.self.now in
    let block = c.block_at.result in
    let is = sym (get_or_from_slice_get (waiting_in pool.changed) c.args.place block 0 c.block_at.ensures) in
    record { held = changed_held pool block (ap (has_block (waiting_in pool.changed)) is ∙ has_block-at (waiting_in pool.changed) c.args.place 0 c.requires.place) }

pub index_mut-requires : goal.index_mut-requires
index_mut-requires c = omega (arith, c.args.self.now.many_acts, frame_within c.args.self.now c.block_at.result c.frame-at.result c.frame-at.ensures)

pub invariant_of-self-clause-many_acts : goal.invariant_of-self-clause-many_acts
invariant_of-self-clause-many_acts c = length-set c.args.self.now.acts.items c.frame-at.result 0 ∙ c.args.self.now.many_acts

pub invariant_of-self-clause-ordered : goal.invariant_of-self-clause-ordered
unfolding changed_of
invariant_of-self-clause-ordered c =
    let pool = c.args.self.now in
    let at = c.frame-at.result in
    let blocks = blocks_in pool.pages.items in
    let is = sym (get_or_from_slice_get (waiting_in pool.changed) c.args.place c.block_at.result 0 c.block_at.ensures) in
    let held : frame_of pool (get_or (waiting_in pool.changed) c.args.place 0) ≡ Some at = ap (frame_of pool) (sym is) ∙ c.frame-at.ensures in
    subst (λ (xs : List ℕ). AreChanged xs blocks (set pool.acts.items at 0)) (sym c.remove.ensures.waiting)
    (changed_less (waiting_in pool.changed) blocks pool.acts.items c.args.place at pool.ordered c.requires.place
    (frame_plain pool _ at held) (omega (arith, pool.many_acts, frame_within pool _ at c.frame-at.ensures)))

pub returns : goal.returns
unfolding changed_of
returns c =
    let pool = c.args.self.now in
    let is = sym (get_or_from_slice_get (waiting_in pool.changed) c.args.place c.block_at.result 0 c.block_at.ensures) in
    written_is pool _ c.args.place c.frame-at.result c.requires.place (ap (frame_of pool) (sym is) ∙ c.frame-at.ensures)
    refl refl refl refl c.remove.ensures.waiting
