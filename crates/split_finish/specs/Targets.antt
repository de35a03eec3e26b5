-- Splits to be finished: the pages that a call has met with an incomplete split, and what is left to do for
-- them.
use Rattle.std.specs.Prelude.{◌≡◌, ℕ, suc, ◌+◌, ◌-◌, ◌*◌, ◌<◌, ◌≤◌, ◌&&◌, ◌||◌, ◌==◌, not, if◌then◌else◌, Bool, true, false, Option, Some, None, List, [], ◌∷◌, ◌++◌, length, slice_get}
use Rattle.std.specs.Ordering.{is_eq}
use Rattle.index_model.specs.Order.{bound_cmp}
use Rattle.index_model.specs.declared.bound.Bound.{Bound}
use Rattle.latch_table.specs.Holdings.{holding_of, nothing_held}
use Rattle.page_codec.specs.declared.page.Page.{Page}
use Rattle.page_action.specs.States.{State}
use Rattle.tree_shape.specs.Nodes.{Node, nodes_of, is_live}
use Rattle.tree_shape.specs.Walks.{bound_aim, is_within}
use Rattle.tree_acts.specs.Trees.{LeadsTo}
use Rattle.descent.specs.NextPage.{IsOnDescent, way_left, walk_length}
use Rattle.tree_acts.specs.StepEffects.{is_incomplete}
use Rattle.split_finish.specs.declared.finish.FinishAt.{FinishAt}
use Rattle.split_finish.specs.declared.finish.FinishAt.TheVariants.{Start, Down, Link, Root}
use Rattle.split_finish.specs.declared.finish.FinishOp.{FinishOp}
use Rattle.split_finish.specs.declared.finish.Target.{Target}

-- the pages whose splits are to be finished, the newest last
abbrev pub targets_of : FinishOp → List Target
targets_of op = op.below.items ++ op.target ∷ []

-- one of these targets is of this block
abbrev pub is_among_targets : List Target → ℕ → Bool
is_among_targets [] block = false
is_among_targets (target ∷ targets) block = (target.block == block) || is_among_targets targets block

-- only targets have incomplete splits
abbrev pub OnlyTargetsAreIncomplete : State → List Target → Type 0
OnlyTargetsAreIncomplete st targets = (block : ℕ) → is_incomplete st block ≡ true
    → is_among_targets targets block ≡ true

-- a target's block is a place for its separator, not right after a page with an incomplete split; and its
-- level is at least this one
pub record IsTarget (st : State) (start least : ℕ) (target : Target) : Type 0 where
  pub high_enough : least ≤ target.level
  pub place : LeadsTo st start target.level (bound_aim target.separator) true target.block

-- where a call stands on its way to the parent of its newest target
abbrev pub FinishStands : State → ℕ → Target → FinishAt → Type 0
FinishStands st start target Start = Unit {0}
FinishStands st start target (Down position) =
    IsOnDescent st start (bound_aim target.separator) true (suc target.level) position
FinishStands st start target (Link position) =
    (position.level ≡ suc target.level)
    × IsOnDescent st start (bound_aim target.separator) true (suc target.level) position
FinishStands st start target Root = Unit {0}

-- What a call knows between the steps by which it finishes splits: it holds nothing, it runs with a start
-- number, and each target is one still, on a level that is at least its place among them. So there are never
-- more than levels.
pub record FinishInvariant (st : State) (op : FinishOp) : Type 0 where
  pub session : op.session < 64
  pub free : holding_of st.table op.session ≡ nothing_held
  pub start : ℕ
  pub running : slice_get st.running op.session ≡ Some (Some start)
  pub newest : IsTarget st start (length op.below.items) op.target
  pub below : (i : ℕ) (target : Target) → slice_get op.below.items i ≡ Some target
      → IsTarget st start i target
  pub stands : FinishStands st start op.target op.at

-- the page ends at this bound
abbrev pub ends_at : Option Bound → Bound → Bool
ends_at None bound = false
ends_at (Some high) bound = is_eq (bound_cmp high bound)

-- the target is as its page says: the page has an incomplete split, and this high key
abbrev pub is_as_read : (ℕ → Node) → Target → Bool
is_as_read at target =
    (at target.block).split && ends_at (at target.block).high target.separator

-- how many targets aren't
abbrev pub stale_count : (ℕ → Node) → List Target → ℕ
stale_count at [] = 0
stale_count at (target ∷ targets) =
    (if is_as_read at target then 0 else 1) + stale_count at targets

-- a live page of this level, without an incomplete split, whose high key isn't below the separator: a
-- downlink may be put on it
abbrev pub is_ready : Node → ℕ → Bound → Bool
is_ready node level separator = is_live node.state && not node.split && (node.level == level)
    && is_within (bound_aim separator) node.high

abbrev pub one_unless : Bool → ℕ
one_unless true = 0
one_unless false = 1

-- a way that leads back: the parent isn't one, or the root is on another level
abbrev pub detour : (ℕ → Node) → Target → FinishAt → ℕ
detour at target Start = 0
detour at target (Down position) = 0
detour at target (Link position) = one_unless (is_ready (at position.block) (suc target.level) target.separator)
detour at target Root = one_unless ((at 0).level == target.level)

-- how many walks from the metapage there are still, at most: each brings a new target, or is done with one,
-- or finds a page other than it was
abbrev pub walks_left : (ℕ → Node) → FinishOp → ℕ
walks_left at op = (33 + (2 * stale_count at (targets_of op) + detour at op.target op.at))
    - length (targets_of op)

-- how many steps of the present walk are left, at most
abbrev pub walk_left : ℕ → FinishAt → ℕ
walk_left most Start = walk_length most
walk_left most (Down position) = way_left most position
walk_left most (Link position) = 0
walk_left most Root = 0

-- what is left to do, in steps, while the pages are as they are and there are `most` at most
abbrev pub finish_left : ℕ → List Page → FinishOp → ℕ
finish_left most pages op =
    walks_left (nodes_of pages) op * suc (walk_length most) + walk_left most op.at
