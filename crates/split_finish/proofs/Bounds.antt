-- What is left to do for a call that finishes splits has a bound.
use Rattle.std.proofs.Common.{ℕ, suc, ◌+◌, ◌*◌, ◌≤◌, Bool, true, false, if◌then◌else◌, List, [], ◌∷◌, length, arith, length-append}
use Rattle.split_finish.proofs.Imports.{mul-le-mul_right, State, Node, nodes_of, bound_aim, HasTree, low_level, walk_length, targets_of, FinishStands, FinishInvariant, is_as_read, stale_count}
use Rattle.split_finish.proofs.Imports.{is_ready, one_unless, detour, walks_left, walk_left, finish_left, FinishAt, Start, Down, Link, Root, FinishOp, Target, walk_is_long}

-- no more targets are other than they were read than there are
stale_few : (at : ℕ → Node) (targets : List Target) → stale_count at targets ≤ length targets
stale_few at [] = omega arith
stale_few at (target ∷ targets) = by (is_as_read at target) (stale_few at targets)
  where
    by : (same : Bool) → stale_count at targets ≤ length targets → (if same then 0 else 1) + stale_count at targets ≤ suc (length targets)
    by true few = omega arith
    by false few = omega arith

one_at_most : (is : Bool) → one_unless is ≤ 1
one_at_most true = omega arith
one_at_most false = omega arith

detour_few : (at : ℕ → Node) (target : Target) (context : FinishAt) → detour at target context ≤ 1
detour_few at target Start = omega arith
detour_few at target (Down position) = omega arith
detour_few at target (Link position) = one_at_most (is_ready (at position.block) (suc target.level) target.separator)
detour_few at target Root = one_at_most _

-- the walks that are left are few, because the targets are no more than levels
walks_few : (at : ℕ → Node) (op : FinishOp) → length op.below.items ≤ 31 → walks_left at op ≤ 66
walks_few at op few =
    let many = length-append op.below.items (op.target ∷ []) in
    let stale = stale_few at (targets_of op) in
    let back = detour_few at op.target op.at in
    omega arith

-- what is left of the present walk is no more than a whole one
walk_few : (st : State) (start most : ℕ) (target : Target) (context : FinishAt) → HasTree st → FinishStands st start target context → walk_left most context ≤ walk_length most
walk_few st start most target Start has stands = omega arith
walk_few st start most target (Down position) has stands =
    let low = low_level st start position.level (bound_aim target.separator) true position.block has stands.place in
    let short = walk_is_long most position (omega arith) in
    omega arith
walk_few st start most target (Link position) has stands = omega arith
walk_few st start most target Root has stands = omega arith

-- 66 walks and one more bring a call to the end of its splits
pub finish_bounded : (st : State) (op : FinishOp) (most : ℕ) → HasTree st → FinishInvariant st op → finish_left most st.pages op ≤ 66 * suc (walk_length most) + walk_length most
finish_bounded st op most has fits =
    let low = low_level st fits.start op.target.level (bound_aim op.target.separator) true op.target.block has fits.newest.place in
    let high = fits.newest.high_enough in
    let walks = mul-le-mul_right (suc (walk_length most)) (walks_few (nodes_of st.pages) op (omega arith)) in
    let walk = walk_few st fits.start most op.target op.at has fits.stands in
    omega arith
