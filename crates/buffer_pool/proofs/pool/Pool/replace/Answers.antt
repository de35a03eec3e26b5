use Rattle.std.proofs.Common.{◌+◌, ◌∙◌, false, refl, sym, ap, set, length-set, add-one, arith}
use Rattle.page_codec.specs.declared.page.Page.{Page}
use Rattle.buffer_pool.specs.Pools.{pool_count, reach_of, most_of}
use Rattle.buffer_pool.proofs.Placing.{placed_within}
use Rattle.buffer_pool.proofs.Putting.{place_of_page, replaced_placed, replaced_changed, replaced_put}
use Rattle.buffer_pool.proofs.pool.Pool.replace.Goals as goal

pub index_mut-requires : goal.index_mut-requires
unfolding pool_count
index_mut-requires c =
    let pool = c.args.self.now in
    let old = c.index.result.now in
    omega (arith, placed_within pool.places.items old.block c.args.at (place_of_page pool c.args.at old c.requires.used c.index.ensures))

pub overflow_cast-at : goal.overflow_cast-at
unfolding most_of
overflow_cast-at c = omega (arith, c.requires.taken.within)

pub overflow_add-at : goal.overflow_add-at
unfolding most_of
overflow_add-at c = omega (arith, c.requires.taken.within)

pub invariant_of-self-clause-many_acts : goal.invariant_of-self-clause-many_acts
invariant_of-self-clause-many_acts c = c.args.self.now.many_acts ∙ sym (length-set c.args.self.now.pages.items c.args.at c.copy_to.new.target)

pub invariant_of-self-clause-many_looked : goal.invariant_of-self-clause-many_looked
invariant_of-self-clause-many_looked c =
    length-set c.args.self.now.looked.items c.args.at false ∙ (c.args.self.now.many_looked ∙ sym (length-set c.args.self.now.pages.items c.args.at c.copy_to.new.target))

pub invariant_of-self-clause-placed : goal.invariant_of-self-clause-placed
unfolding pool_count reach_of
invariant_of-self-clause-placed c =
    rw (c.copy_to.ensures) (replaced_placed c.args.self.now c.args.at c.index.result.now c.args.page.now (c.args.at + 1) c.requires.used c.index.ensures (add-one c.args.at)
    c.requires.taken c.requires.absent c.requires.reach)

pub invariant_of-self-clause-ordered : goal.invariant_of-self-clause-ordered
unfolding pool_count reach_of
invariant_of-self-clause-ordered c =
    rw (c.copy_to.ensures) (replaced_changed c.args.self.now c.args.at c.index.result.now c.args.page.now (c.args.at + 1) c.requires.used c.index.ensures (add-one c.args.at)
    c.requires.taken c.requires.absent c.requires.reach)

pub returns : goal.returns
unfolding pool_count reach_of
returns c =
    replaced_put c.args.self.now c.args.at c.index.result.now c.args.page.now (c.args.at + 1) c.requires.used c.index.ensures (add-one c.args.at)
    c.requires.taken c.requires.absent c.requires.reach
    _ refl (ap (λ (p : Page). set c.args.self.now.pages.items c.args.at p) c.copy_to.ensures) refl refl refl

pub invariant_of-self-clause-wide : goal.invariant_of-self-clause-wide
invariant_of-self-clause-wide c =
    let places = c.args.self.now.places.items in
    c.args.self.now.wide ∙ sym (length-set (set places c.index.result.now.block 0) c.args.page.now.block (c.args.at + 1) ∙ length-set places c.index.result.now.block 0)
