-- A tree that many sessions share: what the steps of one session's call do to it, and what the others may
-- rely on meanwhile.
use Rattle.std.specs.Prelude.{◌≡◌, ◌≢◌, ◌⊎◌, ℕ, zero, suc, ◌+◌, ◌≤◌, ◌<◌, ◌||◌, ◌&&◌, not, Bool, true, false, nat_lt, nat_le, Option, Some, None, if◌then◌else◌, ◌==◌, List, [], ◌∷◌, map, length, slice_get}
use Rattle.std.specs.List.{list_any}
use Rattle.index_model.specs.Actions.{Effect, Add, Remove, Shape}
use Rattle.index_model.specs.Faults.{Circumstances}
use Rattle.index_model.specs.declared.bound.Bound.{Bound}
use Rattle.latch_table.specs.Holdings.{holding_of, is_held_by_another}
use Rattle.latch_table.specs.declared.mode.Mode.TheVariants.{Shared, Exclusive}
use Rattle.page_codec.specs.declared.page.Page.{Page}
use Rattle.page_action.specs.Causes.{nothing_wrong, has_failed, is_at_end, causes_of_acted, pinned_blocks, count_apart}
use Rattle.page_action.specs.Reuse.{is_reusable}
use Rattle.page_action.specs.States.{State, Backing, with_table}
use Rattle.tree_shape.specs.Nodes.{nodes_of}
use Rattle.tree_shape.specs.Walks.{IsAim}
use Rattle.tree_acts.specs.Deletions.{OneLeafDies, OneLeafIsDeleted, SameSplits, LinksLast}
use Rattle.tree_acts.specs.Flags.{FlagsMove}
use Rattle.tree_acts.specs.Leaves.{LeafPagesStay}
use Rattle.tree_acts.specs.Lows.{NoLowRises}
use Rattle.tree_acts.specs.Trees.{CountsAreWithin, HasTree, LeadsTo, HasTrail}
use Rattle.tree_acts.specs.Weights.{weight}
use Rattle.tree_acts.specs.Steps.{HoldsAlone, AreApart, HasEffect}
use Rattle.tree_acts.specs.Levels.{root_level}

-- the pages are a B-link tree, and no two sessions hold what excludes each other
pub record IsInOrder (st : State) : Type 0 where
  pub tree : HasTree st
  pub apart : AreApart st.table
  pub holdings : length st.table ≡ 64
  pub calls : length st.running ≡ 64

-- a call with this start number goes on from the page numbers that it keeps: each is a place still, and its
-- walk still has come to it
pub record NumbersStay (start : ℕ) (old new : State) : Type 0 where
  pub places : (level : ℕ) (aim : Bound → Bool) (clear : Bool) (block : ℕ) → IsAim aim
      → LeadsTo old start level aim clear block → LeadsTo new start level aim clear block
  pub trails : (level block moves : ℕ) → HasTrail old start level block moves
      → HasTrail new start level block moves

-- what a session may rely on while others act: its latches and pins, its start number, the pages that it
-- holds alone, the page numbers that its call keeps, and that no low rises
pub record MayRely (session : ℕ) (old new : State) : Type 0 where
  pub held : holding_of new.table session ≡ holding_of old.table session
  pub number : slice_get new.running session ≡ slice_get old.running session
  pub pages : (block : ℕ) → HoldsAlone old.table session block
      → slice_get new.pages block ≡ slice_get old.pages block
  pub numbers : (start : ℕ) → slice_get old.running session ≡ Some (Some start)
      → NumbersStay start old new
  pub lows : NoLowRises old.pages new.pages

-- every session but this one may rely; so no low rises
abbrev pub OthersRely : ℕ → State → State → Type 0
OthersRely session old new = (other : ℕ) → other ≢ session → MayRely other old new

-- whether the page of the block has an incomplete split: its right half has no downlink yet
abbrev pub is_incomplete : State → ℕ → Bool
is_incomplete st block = (nodes_of st.pages block).split

-- the level of the page of the block
abbrev pub level_in : State → ℕ → ℕ
level_in st block = (nodes_of st.pages block).level

-- the page, if there is one, had no incomplete split before, and is of this level
abbrev pub IsRaised : State → State → ℕ → Option ℕ → Type 0
IsRaised old new level None = Unit {0}
IsRaised old new level (Some b) = (is_incomplete old b ≡ false) × (level_in new b ≡ level)

-- an entry is put on a leaf; if the leaf is split for it, the leaf has an incomplete split
pub record SplitsALeaf (old new : State) : Type 0 where
  pub raised : Option ℕ
  pub leaf : IsRaised old new 0 raised
  pub moves : FlagsMove raised None old new
  pub most : weight new ≤ weight old + 32

-- a split is finished: one page has no incomplete split any more, and one page at most gets one, one level
-- higher; so less is left to do
pub record FinishesASplit (old new : State) : Type 0 where
  pub cleared : ℕ
  pub was : is_incomplete old cleared ≡ true
  pub raised : Option ℕ
  pub higher : IsRaised old new (suc (level_in new cleared)) raised
  pub moves : FlagsMove raised (Some cleared) old new
  pub less : weight new < weight old

-- which flags an effect moves
abbrev pub MovesFlags : Option Effect → State → State → Type 0
MovesFlags None old new = Unit {0}
MovesFlags (Some (Add e)) old new = SplitsALeaf old new
MovesFlags (Some (Remove es)) old new = FlagsMove None None old new
MovesFlags (Some Shape) old new = FinishesASplit old new

-- A step of this session's call, with one effect at most: the pages are a tree again; flags move as the
-- effect says; leaves stay, or are split as a bulk delete beside it needs; calls and limits are as they were;
-- every other session may rely on what it held.
pub record StepEffect (session : ℕ) (effect : Option Effect) (old new : State) : Type 0 where
  pub changes : HasEffect effect old new
  pub flags : MovesFlags effect old new
  pub leaves : LeafPagesStay effect old new
  pub format : new.format ≡ old.format
  pub frames : new.frames ≡ old.frames
  pub begun : new.begun ≡ old.begun
  pub running : new.running ≡ old.running
  pub order : IsInOrder new
  pub others : OthersRely session old new

-- one live leaf became half-dead, or one half-dead leaf was deleted, and no other page's state is changed,
-- nor any flag
pub record DeletesALeaf (old new : State) : Type 0 where
  pub leaf : OneLeafDies old new ⊎ OneLeafIsDeleted old new
  pub flags : SameSplits old new
  -- deleted pages lead on
  pub links : CountsAreWithin old → LinksLast old new

-- which leaves an effect of a cleanup deletes: it has no other effect than that
abbrev pub DeletesLeaves : Option Effect → State → State → Type 0
DeletesLeaves None old new = Unit {0}
DeletesLeaves (Some (Add e)) old new = ⊥
DeletesLeaves (Some (Remove es)) old new = ⊥
DeletesLeaves (Some Shape) old new = DeletesALeaf old new

-- A step of this session's cleanup, with one act at most: the contents are as they were, and the pages are a
-- tree again; if it acts, one leaf goes on its way out of the tree; calls, limits and the cycle number are as
-- they were, and every other session may rely on what it held.
pub record CleanupEffect (session : ℕ) (effect : Option Effect) (old new : State) : Type 0 where
  pub changes : HasEffect effect old new
  pub deletes : DeletesLeaves effect old new
  pub cycle : new.cycle ≡ old.cycle
  pub format : new.format ≡ old.format
  pub frames : new.frames ≡ old.frames
  pub begun : new.begun ≡ old.begun
  pub running : new.running ≡ old.running
  pub order : IsInOrder new
  pub others : OthersRely session old new

-- On any pages a step does one act at most, and with none it changes nothing but latches and pins; limits,
-- frames and calls are as they were.
pub record IsOneActAtMost (old new : State) : Type 0 where
  pub acts : (new.acts ≡ old.acts) ⊎ (new.acts ≡ suc old.acts)
  pub quiet : new.acts ≡ old.acts → new ≡ with_table old new.table
  pub format : new.format ≡ old.format
  pub frames : new.frames ≡ old.frames
  pub begun : new.begun ≡ old.begun
  pub running : new.running ≡ old.running

-- one of the blocks below a number may be used again
abbrev pub any_is_reusable : State → ℕ → Bool
any_is_reusable st zero = false
any_is_reusable st (suc block) = is_reusable st block || any_is_reusable st block

-- no block is unused, and none may be used again
abbrev pub is_out_of_blocks : State → Bool
is_out_of_blocks st =
    nat_le st.format.pages (length st.pages) && not (any_is_reusable st (length st.pages))

-- the first number below this one that is so, or else this one
abbrev pub first_below : (ℕ → Bool) → ℕ → ℕ
first_below is zero = zero
first_below is (suc n) =
    if nat_lt (first_below is n) n
    then first_below is n
    else (if is n then n else suc n)

-- the block that a new page takes: the lowest reusable one, or else the next unused one
abbrev pub fresh_block : State → ℕ
fresh_block st = first_below (is_reusable st) (length st.pages)

-- how many of these blocks have no image that waits in the log
abbrev pub count_new : List ℕ → List ℕ → ℕ
count_new waiting [] = 0
count_new waiting (block ∷ blocks) =
    if list_any (λ b. b == block) waiting
    then count_new waiting blocks
    else suc (count_new waiting blocks)

-- there is no room for one image of each of these blocks: no more are promised, and those of them that don't
-- wait are more than there is room for
abbrev pub lacks_room : Backing → Backing → List ℕ → Bool
lacks_room old new blocks =
    nat_le old.promised (length blocks) && nat_lt new.room (count_new new.waiting blocks)

-- why an act of these pages isn't done
abbrev pub causes_of_acting : State → Backing → Backing → List Page → Circumstances
causes_of_acting st old new changed = record (causes_of_acted st old new changed) {
  log_is_full = lacks_room old new (map (λ page. page.block) changed);
}

-- how many frames a step needs that writes these blocks: one if it only reads
abbrev pub frames_for : List ℕ → ℕ
frames_for [] = 1
frames_for (block ∷ blocks) = suc (length blocks)

-- the block of a sibling, if there is one
abbrev pub sibling : Option ℕ → List ℕ
sibling None = []
sibling (Some block) = block ∷ []

-- Why a step is refused that reads pages of a tree, and may do an act that writes these blocks, and needs
-- `frames` frames beside those that are pinned; and whether it may take a block, and split the root.
abbrev pub causes_of_working : State → Backing → Backing → ℕ → List ℕ → ℕ → Bool → Bool → Circumstances
causes_of_working st old new session images frames takes splits = record nothing_wrong {
  device_failed = has_failed old new;
  is_stopped = old.stopped || is_at_end st.acts;
  is_held_by_another = λ b. is_held_by_another st.table session b Shared
      || is_held_by_another st.table session b Exclusive;
  no_block_is_free = takes && is_out_of_blocks st;
  log_is_full = lacks_room old new images;
  frames_are_pinned = nat_lt st.frames (frames + count_apart (pinned_blocks st.table));
  root_is_at_31 = splits && nat_le 31 (root_level st.pages);
}

-- what may be so if a step is refused that only reads, whatever the pages are
abbrev pub causes_of_reading_any : Circumstances
causes_of_reading_any = record nothing_wrong {
  device_failed = true;
  is_stopped = true;
  is_held_by_another = λ b. true;
  frames_are_pinned = true;
  page_is_damaged = λ b. true;
}

-- ... that may write pages too
abbrev pub causes_of_writing_any : Circumstances
causes_of_writing_any = record causes_of_reading_any { log_is_full = true }

-- ... and may split them
abbrev pub causes_of_splitting_any : Circumstances
causes_of_splitting_any = record causes_of_writing_any { no_block_is_free = true; root_is_at_31 = true }
