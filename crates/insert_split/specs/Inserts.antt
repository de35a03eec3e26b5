-- What an insert knows between its steps, and what a step of it does.
use Rattle.std.specs.Prelude.{◌≡◌, ℕ, suc, ◌+◌, ◌*◌, ◌<◌, nat_le, ◌&&◌, not, if◌then◌else◌, Bool, true, false, Option, Some, None, Result, Ok, Err, OnErr, List, [], ◌∷◌, length, slice_get}
use Rattle.index_model.specs.Actions.{Effect, Add, Remove, Shape}
use Rattle.index_model.specs.Faults.{Circumstances, HasCause}
use Rattle.index_model.specs.Order.{same_entry}
use Rattle.index_model.specs.declared.entry.Entry.{Entry}
use Rattle.index_model.specs.declared.fault.Fault.{Fault}
use Rattle.index_model.specs.declared.fault.Fault.TheVariants.{Stopped}
use Rattle.latch_table.specs.Holdings.{Holding, holding_of, nothing_held}
use Rattle.latch_table.specs.declared.mode.Mode.TheVariants.{Exclusive}
use Rattle.page_codec.specs.Edits.{entries_of}
use Rattle.page_codec.specs.declared.page.Page.{Page}
use Rattle.page_codec.specs.declared.page.PageState.TheVariants.{Live}
use Rattle.page_action.specs.Contents.{entry_on_live_leaf}
use Rattle.page_action.specs.Causes.{with_row, other_row_is_there}
use Rattle.page_action.specs.States.{State, Backing, Continues}
use Rattle.page_action.specs.declared.page_store.PageStore.{Ghosts}
use Rattle.tree_shape.specs.Walks.{entry_aim, is_within}
use Rattle.tree_acts.specs.Trees.{LeadsTo}
use Rattle.tree_acts.specs.Ways.{NoneIsIncomplete}
use Rattle.descent.specs.NextPage.{IsOnDescent, walk_length, way_left}
use Rattle.tree_acts.specs.StepEffects.{IsInOrder, StepEffect, IsOneActAtMost, is_incomplete, fresh_block, sibling, causes_of_working, causes_of_splitting_any}
use Rattle.split_finish.specs.Finishes.{finish_blocks, frames_of, takes_block_of}
use Rattle.split_finish.specs.Targets.{targets_of, OnlyTargetsAreIncomplete, FinishInvariant, finish_left}
use Rattle.split_finish.specs.Turns.{splits_root_of}
use Rattle.split_finish.specs.declared.finish.Target.{Target}
use Rattle.insert_split.specs.Straight.{IsStraight, HasRoomFor, CountsDown}
use Rattle.insert_split.specs.declared.insert.InsertAt.{InsertAt}
use Rattle.insert_split.specs.declared.insert.InsertAt.TheVariants.{Coming, Finishing}
use Rattle.insert_split.specs.declared.insert.Stage.TheVariants.{Start, At, Holding as Holds}
use Rattle.insert_split.specs.declared.insert.InsertOp.{InsertOp}
use Rattle.insert_split.specs.declared.insert.InsertStep.{InsertStep}
use Rattle.insert_split.specs.declared.insert.InsertStep.TheVariants.{Going, Added}

-- the leaf latched, and pinned
abbrev pub leaf_held : ℕ → Holding
leaf_held block = record {
  latches = record { block = block; mode = Exclusive } ∷ [];
  pins = block ∷ [];
}

-- the block is the live leaf that covers the entry, without an incomplete split nor right after one with an
-- incomplete split
pub record IsLeafFor (st : State) (start : ℕ) (e : Entry) (block : ℕ) : Type 0 where
  pub page : Page
  pub found : slice_get st.pages block ≡ Some page
  pub alive : page.state ≡ Live
  pub leaf : page.level ≡ 0
  pub whole : page.split ≡ false
  pub place : LeadsTo st start 0 (entry_aim e) true block
  pub within : is_within (entry_aim e) page.high ≡ true

-- what it holds, and where it stands: before its first step, on its way to its leaf, with its leaf, or with
-- splits to finish
abbrev pub InsertStands : State → ℕ → ℕ → Entry → InsertAt → Type 0
InsertStands st session start e (Coming Start) = holding_of st.table session ≡ nothing_held
InsertStands st session start e (Coming (At position)) =
    (holding_of st.table session ≡ nothing_held) × IsOnDescent st start (entry_aim e) true 0 position
InsertStands st session start e (Coming (Holds block)) =
    (holding_of st.table session ≡ leaf_held block) × IsLeafFor st start e block
InsertStands st session start e (Finishing op) = (op.session ≡ session) × FinishInvariant st op

-- the entry isn't logged before its leaf is found
abbrev pub IsToCome : InsertAt → Option ℕ → Type 0
IsToCome (Coming stage) added = added ≡ None
IsToCome (Finishing op) added = Unit {0}

-- what an insert knows between its steps
pub record InsertInvariant (st : State) (op : InsertOp) : Type 0 where
  pub session : op.session < 64
  pub start : ℕ
  pub running : slice_get st.running op.session ≡ Some (Some start)
  pub stands : InsertStands st op.session start op.entry op.at
  pub to_come : IsToCome op.at op.added

-- the pages whose splits the insert is to finish
abbrev pub targets_at : InsertAt → List Target
targets_at (Coming stage) = []
targets_at (Finishing op) = targets_of op

-- what is left to do, in steps, while the pages are as they are and there are `most` at most
abbrev pub insert_left : ℕ → List Page → InsertAt → ℕ
insert_left most pages (Coming Start) = 33 * suc (walk_length most) + walk_length most
insert_left most pages (Coming (At position)) = 33 * suc (walk_length most) + way_left most position
insert_left most pages (Coming (Holds block)) = 33 * suc (walk_length most)
insert_left most pages (Finishing op) = finish_left most pages op

-- the leaf has no room for one more entry
abbrev pub is_full_page : ℕ → Option Page → Bool
is_full_page items None = false
is_full_page items (Some page) = nat_le items (length (entries_of page.items))

-- the blocks that are written beside a leaf with this right sibling that is split: its right half, and the
-- sibling
abbrev pub blocks_halved : State → Option ℕ → List ℕ
blocks_halved st right = fresh_block st ∷ sibling right

-- the blocks that are written beside the leaf on which an entry is put
abbrev pub blocks_beside : State → Option Page → List ℕ
blocks_beside st None = []
blocks_beside st (Some page) =
    if nat_le st.format.items (length (entries_of page.items))
    then blocks_halved st page.right else []

-- the blocks that the act of a step writes
abbrev pub images_at : State → InsertAt → List ℕ
images_at st (Coming Start) = []
images_at st (Coming (At position)) = []
images_at st (Coming (Holds block)) = block ∷ blocks_beside st (slice_get st.pages block)
images_at st (Finishing op) = finish_blocks st op.target op.at

-- ... and how many frames it needs, beside that of the leaf that it has pinned
abbrev pub frames_at : State → InsertAt → ℕ
frames_at st (Coming Start) = 1
frames_at st (Coming (At position)) = 1
frames_at st (Coming (Holds block)) = length (blocks_beside st (slice_get st.pages block))
frames_at st (Finishing op) = frames_of st op.target op.at

-- ... whether it takes a block: to split a full leaf, or to finish a split
abbrev pub takes_block_at : State → InsertAt → Bool
takes_block_at st (Coming Start) = false
takes_block_at st (Coming (At position)) = false
takes_block_at st (Coming (Holds block)) = is_full_page st.format.items (slice_get st.pages block)
takes_block_at st (Finishing op) = takes_block_of st op.target op.at

-- ... and whether it is to split the root: only to finish a split
abbrev pub splits_root_at : State → InsertAt → Bool
splits_root_at st (Coming stage) = false
splits_root_at st (Finishing op) = splits_root_of st op.target op.at

-- why a step of an insert is refused, on pages that are a tree and a device that keeps its model
abbrev pub causes_of_inserting : State → Backing → Backing → ℕ → Entry → InsertAt → Circumstances
causes_of_inserting st old new session e at =
    record (causes_of_working st old new session (images_at st at) (frames_at st at)
    (takes_block_at st at) (splits_root_at st at)) {
      entry_was_there = entry_on_live_leaf st.pages e;
      key_was_there = other_row_is_there st e;
    }

-- ... and why it leaves splits unfinished, once its entry is logged: never that its entry or its key was
-- there, nor that another session holds a page
abbrev pub causes_of_left : State → Backing → Backing → ℕ → Entry → InsertAt → Circumstances
causes_of_left st old new session e at = record (causes_of_inserting st old new session e at) {
  is_held_by_another = λ b. false;
  entry_was_there = false;
  key_was_there = λ r. false;
}

-- what may be so if a step of an insert of this entry is refused, whatever the pages are: its key only on
-- a unique index, and there only with another row
abbrev pub causes_of_inserting_any : Bool → Entry → Circumstances
causes_of_inserting_any unique e = record causes_of_splitting_any {
  entry_was_there = true;
  key_was_there = λ r. unique && not (same_entry (with_row e r) e);
}

-- ... and if it leaves splits unfinished
abbrev pub causes_of_left_any : Circumstances
causes_of_left_any = record causes_of_splitting_any { is_held_by_another = λ b. false }

-- this holds of the fault that an insert ends with, if it ends with one
abbrev pub IfLeftIncomplete : Result InsertStep Fault → (Fault → Type 0) → Type 0
IfLeftIncomplete (Ok Going) P = Unit {0}
IfLeftIncomplete (Ok (Added action None)) P = Unit {0}
IfLeftIncomplete (Ok (Added action (Some fault))) P = P fault
IfLeftIncomplete (Err fault) P = Unit {0}

-- what the insert notes of a step: the number of the action that adds its entry
abbrev pub IsNoted : Option Effect → ℕ → Entry → Option ℕ → Option ℕ → Type 0
IsNoted None acts e before after = after ≡ before
IsNoted (Some (Add x)) acts e before after =
    (x ≡ e) × (before ≡ None) × (after ≡ Some (suc acts))
IsNoted (Some (Remove es)) acts e before after = ⊥
IsNoted (Some Shape) acts e before after = after ≡ before

-- a step that goes on: if no other pages had incomplete splits than those that it was to finish, no others
-- have them now
pub record InsertContinues (old new : State) (before after : InsertOp) : Type 0 where
  pub effect : Option Effect
  pub does : StepEffect before.session effect old new
  pub noted : IsNoted effect old.acts before.entry before.added after.added
  pub fits : InsertInvariant new after
  pub flags : OnlyTargetsAreIncomplete old (targets_at before.at)
      → OnlyTargetsAreIncomplete new (targets_at after.at)

-- what the end of an insert leaves unfinished: nothing, and then no page has an incomplete split, if only
-- those had one that it was to finish; or a split, because of a fault that has its cause
abbrev pub IsLeft : State → Backing → State → Backing → InsertOp → Option Effect → Option Fault
    → Type 0
IsLeft old old_backing new new_backing before effect None =
    OnlyTargetsAreIncomplete old (targets_at before.at)
    → (block : ℕ) → is_incomplete new block ≡ false
IsLeft old old_backing new new_backing before effect (Some fault) = (effect ≡ None)
    × HasCause (causes_of_left old old_backing new_backing before.session before.entry before.at) fault

-- the last step of an insert whose entry is logged, by the action of this number
pub record InsertEnds (old : State) (old_backing : Backing) (new : State) (new_backing : Backing)
    (before : InsertOp) (action : ℕ) (unfinished : Option Fault) : Type 0 where
  pub effect : Option Effect
  pub does : StepEffect before.session effect old new
  pub noted : IsNoted effect old.acts before.entry before.added (Some action)
  pub left : IsLeft old old_backing new new_backing before effect unfinished

-- what a step of an insert does, by what it answers
abbrev pub InsertStepped : State → Backing → State → Backing → InsertOp → InsertOp
    → Result InsertStep Fault → Type 0
InsertStepped old old_backing new new_backing before after (Ok Going) =
    InsertContinues old new before after
InsertStepped old old_backing new new_backing before after (Ok (Added action unfinished)) =
    InsertEnds old old_backing new new_backing before action unfinished
InsertStepped old old_backing new new_backing before after (Err fault) = HasCause
    (causes_of_inserting old old_backing new_backing before.session before.entry before.at) fault

-- a refused step changes neither the pages, nor who holds what, nor the call
pub record InsertStays (old new : State) (before after : InsertOp) : Type 0 where
  pub state : new ≡ old
  pub op : after ≡ before

-- on a stopped log a step is refused; if the entry is logged, the insert ends with that
abbrev pub AnswersStopped : Option ℕ → Result InsertStep Fault → Type 0
AnswersStopped None result = result ≡ Err Stopped
AnswersStopped (Some action) result = result ≡ Ok (Added action (Some Stopped))

-- A step of an insert. On any pages: it does one act at most, a refused one changes nothing, and a stopped
-- log refuses it. On any pages, over a device that keeps its model: one that goes on without an act leaves
-- less to do. On pages in order: what it does, and why it is refused.
pub record InsertSteps {S : Type 0} (g : Ghosts S) (before after : InsertOp) (old new : S)
    (result : Result InsertStep Fault) : Type 0 where
  pub steps : Continues g.follows old new
  pub session : after.session ≡ before.session
  pub entry : after.entry ≡ before.entry
  pub kept : IsOneActAtMost (g.state old) (g.state new)
  pub refused : OnErr result (InsertStays (g.state old) (g.state new) before after)
  pub stopped : (g.backing old).stopped ≡ true → AnswersStopped before.added result
  pub less : (g.backing new).honest ≡ true → result ≡ Ok Going
      → (g.state new).acts ≡ (g.state old).acts
      → insert_left (g.state new).format.pages (g.state new).pages after.at
      < insert_left (g.state old).format.pages (g.state old).pages before.at
  pub stepped : (g.backing new).honest ≡ true → IsInOrder (g.state old)
      → InsertInvariant (g.state old) before
      → InsertStepped (g.state old) (g.backing old) (g.state new) (g.backing new) before after result
  -- if no page has an incomplete split and its leaf has room, each step is one nearer to the last
  pub straight : (g.backing new).honest ≡ true → IsInOrder (g.state old)
      → InsertInvariant (g.state old) before → NoneIsIncomplete (g.state old).pages
      → IsStraight (g.state old) before.entry before.at → HasRoomFor (g.state old) before.entry
      → CountsDown (g.state old) (g.state new) before after result
