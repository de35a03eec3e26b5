use Rattle.std.proofs.Common.{◌≡◌, ◌<◌, ◌≤◌, ◌∙◌, ◌++◌, ℕ, List, sym, ap, refl, subst, take, drop, length, get_or, arith}
use Rattle.buffer_pool.specs.Orders.{waiting_in}
use Rattle.buffer_pool.proofs.Imports.{take-append-drop, with_items_is, blocks_in, ArePlaces, AreChanged}
use Rattle.buffer_pool.specs.Pools.{changed_of}
use Rattle.buffer_pool.proofs.Noting.{first_placed, many_written}
use Rattle.buffer_pool.proofs.pool.Pool.note_first_written.Goals as goal

pub clean_frames-requires-clause-placed : goal.clean_frames-requires-clause-placed
clean_frames-requires-clause-placed c =
    let pool = c.args.self.now in
    λ k d less.
    subst (λ (places : List ℕ). 0 < get_or places (get_or (take c.args.count c.as_slice.result.now) k d) 0) (sym c.deref.ensures.value)
    (first_placed pool c.args.count c.as_slice.result.now k d c.as_slice.ensures less).0

pub clean_frames-requires-clause-within : goal.clean_frames-requires-clause-within
clean_frames-requires-clause-within c =
    let pool = c.args.self.now in
    λ k d less.
    subst (λ (places : List ℕ). get_or places (get_or (take c.args.count c.as_slice.result.now) k d) 0 ≤ length c.deref_mut.result.now) (sym c.deref.ensures.value)
    (subst (λ (acts : List ℕ). get_or pool.places.items (get_or (take c.args.count c.as_slice.result.now) k d) 0 ≤ length acts) (sym c.deref_mut.ensures.value)
    (first_placed pool c.args.count c.as_slice.result.now k d c.as_slice.ensures less).1)

pub invariant_of-self-clause-many_acts : goal.invariant_of-self-clause-many_acts
invariant_of-self-clause-many_acts c =
    let pool = c.args.self.now in
    let acts = with_items_is pool.acts c.clean_frames.new.acts (omega (arith, c.clean_frames.ensures.many)) in
    ap (λ (xs : List ℕ). length xs) acts
    ∙ (c.clean_frames.ensures.many ∙ (ap (λ (xs : List ℕ). length xs) c.deref_mut.ensures.value ∙ pool.many_acts))

pub invariant_of-self-clause-ordered : goal.invariant_of-self-clause-ordered
invariant_of-self-clause-ordered c =
    let pool = c.args.self.now in
    let blocks = blocks_in pool.pages.items in
    let later = drop c.args.count (waiting_in pool.changed) in
    let whole = subst (λ (xs : List ℕ). AreChanged xs blocks pool.acts.items) (sym (take-append-drop c.args.count (waiting_in pool.changed))) pool.ordered in
    let cleaned = c.clean_frames.ensures.left blocks later
    (subst (λ (places : List ℕ). ArePlaces places blocks) (sym c.deref.ensures.value) pool.placed)
    (subst (λ (xs : List ℕ). AreChanged (take c.args.count xs ++ later) blocks c.deref_mut.result.now) (sym c.as_slice.ensures)
    (subst (λ (xs : List ℕ). AreChanged (take c.args.count (waiting_in pool.changed) ++ later) blocks xs) (sym c.deref_mut.ensures.value) whole)) in
    let acts = with_items_is pool.acts c.clean_frames.new.acts (omega (arith, c.clean_frames.ensures.many)) in
    subst (λ (xs : List ℕ). AreChanged (waiting_in c.drop_first.new.self) blocks xs) (sym acts)
    (subst (λ (xs : List ℕ). AreChanged xs blocks c.clean_frames.new.acts) (sym c.drop_first.ensures.waiting) cleaned)

pub returns : goal.returns
unfolding changed_of
returns c =
    let pool = c.args.self.now in
    let acts = with_items_is pool.acts c.clean_frames.new.acts (omega (arith, c.clean_frames.ensures.many)) in
    many_written pool _ c.args.count refl refl refl c.drop_first.ensures.waiting
    (λ at. subst (λ (xs : List ℕ). 0 < get_or xs at 0 → get_or xs at 0 ≡ get_or pool.acts.items at 0) (sym acts)
    (λ some. c.clean_frames.ensures.kept at some ∙ ap (λ (xs : List ℕ). get_or xs at 0) c.deref_mut.ensures.value))
