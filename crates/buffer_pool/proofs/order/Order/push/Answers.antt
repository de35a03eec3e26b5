use Rattle.std.proofs.Common.{◌≡◌, ◌<◌, ℕ, List, [], ◌∷◌, ◌++◌, true, false, ltb, length, inl, inr, sym, ap, ◌∙◌, arith}
use Rattle.buffer_pool.proofs.Imports.{cases_lt, lt-ltb, has_block}
use Rattle.buffer_pool.specs.Orders.{waiting_in, width_of}
use Rattle.buffer_pool.specs.declared.order.Order.{Order}
use Rattle.buffer_pool.proofs.Waiting.{window_long, pushed, all_wait, contains_has}
use Rattle.buffer_pool.proofs.order.Order.push.Goals as goal

-- each block below the width is a key
is_key : (order : Order) (block : ℕ) → block < width_of order → has_block order.blocks.keys block ≡ true
unfolding width_of
is_key order block below = sym (contains_has order.blocks.keys block) ∙ (order.whole block ∙ lt-ltb block (length order.blocks.keys) below)

-- if one of them doesn't wait, not all do
not_all : (order : Order) (block : ℕ) → block < width_of order → has_block (waiting_in order) block ≡ false → length (waiting_in order) < width_of order
unfolding waiting_in width_of
not_all order block below fresh =
    let keys = order.blocks.keys in
    let long = window_long keys order.first order.count order.within in
    elim (cases_lt order.count (length keys)) [
      | inl few ↦ omega (arith, few, long)
      | inr all ↦ (let both : true ≡ false = sym (all_wait keys order.first order.count block order.within all (is_key order block below)) ∙ fresh in absurd cc)
    ]

pub make_room-requires : goal.make_room-requires
make_room-requires c = record { few = not_all c.args.self.now c.args.block c.requires.below c.requires.fresh }

pub swap_indices-requires-clause-b_in_bounds : goal.swap_indices-requires-clause-b_in_bounds
unfolding width_of
swap_indices-requires-clause-b_in_bounds c = c.make_room.ensures.room

pub invariant_of-self-clause-within : goal.invariant_of-self-clause-within
unfolding width_of
invariant_of-self-clause-within c = omega (arith, c.make_room.ensures.room, c.swap_indices.ensures.reordered.1)

pub invariant_of-self-clause-few : goal.invariant_of-self-clause-few
invariant_of-self-clause-few c = omega (arith, c.make_room.new.self.few, c.swap_indices.ensures.reordered.1)

pub invariant_of-self-clause-whole : goal.invariant_of-self-clause-whole
invariant_of-self-clause-whole c = λ block.
    c.swap_indices.ensures.reordered.2 block ∙ (c.make_room.new.self.whole block ∙ ap (ltb block) (sym c.swap_indices.ensures.reordered.1))

pub returns-in-Some-clause-waiting : goal.returns-in-Some-clause-waiting
unfolding waiting_in width_of
returns-in-Some-clause-waiting c =
    let order = c.make_room.new.self in
    let fresh : has_block (waiting_in order) c.args.block ≡ false = ap (λ (l : List ℕ). has_block l c.args.block) c.make_room.ensures.waiting ∙ c.requires.fresh in
    pushed order.blocks.keys order.first order.count c.in-Some.at c.args.block c.make_room.ensures.room fresh (sym c.in-Some.ensures.index) c.swap_indices.new.self.keys c.swap_indices.ensures.keys
    ∙ ap (λ (l : List ℕ). l ++ c.args.block ∷ []) c.make_room.ensures.waiting

pub returns-in-Some-clause-width : goal.returns-in-Some-clause-width
unfolding width_of
returns-in-Some-clause-width c = c.swap_indices.ensures.reordered.1 ∙ c.make_room.ensures.width

pub returns-in_default-clause-waiting : goal.returns-in_default-clause-waiting
unfolding width_of
returns-in_default-clause-waiting c =
    let order = c.make_room.new.self in
    let there : false ≡ true = c.in_default.ensures.found ∙ (order.whole c.args.block ∙ lt-ltb c.args.block (length order.blocks.keys) (omega (arith, c.requires.below, c.make_room.ensures.width))) in
    absurd cc
