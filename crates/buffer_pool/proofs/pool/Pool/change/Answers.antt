use Rattle.std.proofs.Common.{◌<◌, ◌∙◌, ℕ, ltb, List, sym, ap, refl, subst, set, length, length-set, arith}
use Rattle.buffer_pool.specs.Orders.{waiting_in}
use Rattle.buffer_pool.proofs.Imports.{get_or_read, Page, blocks_in, ArePlaces, AreChanged}
use Rattle.buffer_pool.proofs.Changing.{act_at}
use Rattle.buffer_pool.proofs.Noting.{frame_within, frame_plain, block_there, frame_below, same_blocks, changed_either, changed_is}
use Rattle.buffer_pool.proofs.pool.Pool.change.Goals as goal

pub index-requires : goal.index-requires
index-requires c = omega (arith, c.args.self.now.many_acts, frame_within c.args.self.now c.args.page.now.block c.frame-at.result c.frame-at.ensures)

pub add_changed-requires : goal.add_changed-requires
add_changed-requires c =
    let pool = c.args.self.now in
    let block = c.args.page.now.block in
    let at = c.frame-at.result in
    let within : at < length pool.acts.items = omega (arith, pool.many_acts, frame_within pool block at c.frame-at.ensures) in
    let is = get_or_read pool.acts.items at c.index.result.now within c.index.ensures 0 in
    record {
      below = λ clean. omega (arith, pool.wide, frame_below pool block at c.frame-at.ensures);
      fresh = λ clean. pool.ordered.told block ∙ ap (ltb 0) (act_at (blocks_in pool.pages.items) pool.acts.items block at (frame_plain pool block at c.frame-at.ensures) ∙ (sym is ∙ clean));
    }

pub index_mut-requires : goal.index_mut-requires
index_mut-requires c = omega (arith, c.args.self.now.many_acts, frame_within c.args.self.now c.args.page.now.block c.frame-at.result c.frame-at.ensures)

pub index_mut-requires-2 : goal.index_mut-requires-2
index_mut-requires-2 c = omega (arith, frame_within c.args.self.now c.args.page.now.block c.frame-at.result c.frame-at.ensures)

pub invariant_of-self-clause-many_acts : goal.invariant_of-self-clause-many_acts
invariant_of-self-clause-many_acts c =
    let pool = c.args.self.now in
    length-set pool.acts.items c.frame-at.result c.args.act ∙ (pool.many_acts ∙ sym (length-set pool.pages.items c.frame-at.result c.copy_to.new.target))

pub invariant_of-self-clause-many_looked : goal.invariant_of-self-clause-many_looked
invariant_of-self-clause-many_looked c = c.args.self.now.many_looked ∙ sym (length-set c.args.self.now.pages.items c.frame-at.result c.copy_to.new.target)

pub invariant_of-self-clause-placed : goal.invariant_of-self-clause-placed
invariant_of-self-clause-placed c =
    let pool = c.args.self.now in
    let there = block_there pool c.args.page.now.block c.frame-at.result c.frame-at.ensures in
    let same = same_blocks pool.pages.items c.frame-at.result c.copy_to.new.target (there ∙ sym (ap (λ (p : Page). p.block) c.copy_to.ensures)) in
    subst (λ (blocks : List ℕ). ArePlaces pool.places.items blocks) (sym same) pool.placed

pub invariant_of-self-clause-ordered : goal.invariant_of-self-clause-ordered
invariant_of-self-clause-ordered c =
    let pool = c.args.self.now in
    let at = c.frame-at.result in
    let block = c.args.page.now.block in
    let blocks = blocks_in pool.pages.items in
    let within : at < length pool.acts.items = omega (arith, pool.many_acts, frame_within pool block at c.frame-at.ensures) in
    let same = same_blocks pool.pages.items at c.copy_to.new.target (block_there pool block at c.frame-at.ensures ∙ sym (ap (λ (p : Page). p.block) c.copy_to.ensures)) in
    let is = get_or_read pool.acts.items at c.index.result.now within c.index.ensures 0 in
    subst (λ (bs : List ℕ). AreChanged (waiting_in c.add_changed.new.changed) bs (set pool.acts.items at c.args.act)) (sym same)
    (subst (λ (xs : List ℕ). AreChanged xs blocks (set pool.acts.items at c.args.act)) (sym c.add_changed.ensures.order)
    (changed_either (waiting_in pool.changed) blocks pool.acts.items block at c.args.act c.index.result.now pool.ordered (frame_plain pool block at c.frame-at.ensures) within is c.requires.act))

pub returns : goal.returns
returns c =
    let pool = c.args.self.now in
    let at = c.frame-at.result in
    let within : at < length pool.acts.items = omega (arith, pool.many_acts, frame_within pool c.args.page.now.block at c.frame-at.ensures) in
    let is = get_or_read pool.acts.items at c.index.result.now within c.index.ensures 0 in
    changed_is pool _ c.args.page.now c.args.act at c.index.result.now c.frame-at.ensures is c.requires.act
    refl (ap (set pool.pages.items at) c.copy_to.ensures) refl refl c.add_changed.ensures.order

pub invariant_of-self-clause-wide : goal.invariant_of-self-clause-wide
invariant_of-self-clause-wide c = c.add_changed.ensures.width ∙ c.args.self.now.wide
