use Rattle.std.proofs.Common.{◌+◌, ◌++◌, ◌∷◌, ◌∙◌, ap, [], ℕ, List, set, length-set, refl, sym, subst, arith}
use Rattle.buffer_pool.specs.Orders.{waiting_in}
use Rattle.buffer_pool.proofs.Imports.{Page, blocks_in, ArePlaces, AreChanged}
use Rattle.buffer_pool.specs.Pools.{pool_count, reach_of}
use Rattle.buffer_pool.proofs.Putting.{pushed_placed, pushed_changed, pushed_put}
use Rattle.buffer_pool.proofs.pool.Pool.add.Goals as goal

pub invariant_of-self-clause-placed : goal.invariant_of-self-clause-placed
unfolding reach_of
invariant_of-self-clause-placed c =
    let pool = c.args.self.now in
    let next = c.len.result + 1 in
    let came = c.push_reserved.ensures.items ∙ ap (λ (p : Page). pool.pages.items ++ p ∷ []) c.copy.ensures in
    subst (λ (pages : List Page). ArePlaces (set pool.places.items c.args.page.now.block next) (blocks_in pages)) (sym came)
    (pushed_placed pool c.args.page.now next (omega arith) c.requires.absent c.requires.reach)

pub invariant_of-self-clause-ordered : goal.invariant_of-self-clause-ordered
unfolding reach_of
invariant_of-self-clause-ordered c =
    let pool = c.args.self.now in
    let came = c.push_reserved.ensures.items ∙ ap (λ (p : Page). pool.pages.items ++ p ∷ []) c.copy.ensures in
    subst (λ (pages : List Page). AreChanged (waiting_in pool.changed) (blocks_in pages) c.push_reserved-2.new.self.items) (sym came)
    (subst (λ (acts : List ℕ). AreChanged (waiting_in pool.changed) (blocks_in (pool.pages.items ++ c.args.page.now ∷ [])) acts) (sym c.push_reserved-2.ensures.items)
    (pushed_changed pool c.args.page.now (c.len.result + 1) (omega arith) c.requires.absent c.requires.reach))

pub returns : goal.returns
unfolding pool_count reach_of
returns c =
    pushed_put c.args.self.now c.args.page.now (c.len.result + 1) (omega arith) c.requires.absent c.requires.reach
    _ refl (c.push_reserved.ensures.items ∙ ap (λ (p : Page). c.args.self.now.pages.items ++ p ∷ []) c.copy.ensures) c.push_reserved-2.ensures.items refl refl

pub invariant_of-self-clause-wide : goal.invariant_of-self-clause-wide
invariant_of-self-clause-wide c =
    let places = c.args.self.now.places.items in
    c.args.self.now.wide ∙ sym (length-set places c.args.page.now.block (c.len.result + 1))
