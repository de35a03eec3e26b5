-- What the parts of a step of an insert do.
use Rattle.std.specs.Prelude.{◌≡◌, ◌≢◌, ◌⊎◌, ◌≤◌, ◌+◌, ℕ, suc, Bool, true, false, Option, Some, None, Result, Ok, Err, List, [], ◌∷◌, IfSome, length, slice_get}
use Rattle.index_model.specs.Order.{is_among}
use Rattle.index_model.specs.Row.{Row}
use Rattle.index_model.specs.declared.entry.Entry.{Entry}
use Rattle.index_model.specs.declared.fault.Fault.{Fault}
use Rattle.index_model.specs.declared.fault.Fault.TheVariants.{Blocked, Exists, KeyExists, PageDamaged}
use Rattle.index_model.specs.declared.layout.Layout.TheVariants.{Two}
use Rattle.latch_table.specs.Holdings.{latched, pinned, released, unpinned, is_held_by_another}
use Rattle.latch_table.specs.declared.mode.Mode.TheVariants.{Exclusive}
use Rattle.page_codec.specs.declared.page.Page.{Page}
use Rattle.page_codec.specs.Edits.{entries_of, HasEntries}
use Rattle.page_codec.specs.Grammar.{IsPage}
use Rattle.page_action.specs.Reuse.{IsFresh}
use Rattle.page_action.specs.States.{State, with_table, after_act}
use Rattle.page_action.specs.Stored.{IsStored, AreActable}
use Rattle.tree_shape.specs.Edits.{LeafHalves, IsPutIn, with_leaf}
use Rattle.tree_shape.specs.Halves.{left_count}
use Rattle.tree_shape.specs.Nodes.{node_of}
use Rattle.tree_shape.specs.Separators.{IsCutOf}
use Rattle.descent.specs.Splitting.{RightIsMendable, RightIsStored, RightIsFound, mended_to}
use Rattle.tree_shape.specs.Leaf.{MayHold}
use Rattle.descent.specs.declared.position.Position.{Position}
use Rattle.split_finish.specs.declared.finish.FinishAt.TheVariants.{Start as FinishStart}
use Rattle.split_finish.specs.declared.finish.FinishOp.{FinishOp}
use Rattle.split_finish.specs.declared.finish.Target.{Target}
use Rattle.insert_split.specs.declared.insert.InsertAt.{InsertAt}
use Rattle.insert_split.specs.declared.insert.InsertAt.TheVariants.{Coming, Finishing}
use Rattle.insert_split.specs.declared.insert.Stage.TheVariants.{Start, Holding as Holds}
use Rattle.insert_split.specs.declared.insert.InsertOp.{InsertOp}
use Rattle.insert_split.specs.declared.insert.InsertStep.{InsertStep}
use Rattle.insert_split.specs.declared.insert.InsertStep.TheVariants.{Going, Added}

-- an insert with one split to finish
pub record FinishesOne (target : Target) (before after : InsertOp) : Type 0 where
  pub op : FinishOp
  pub after_is : after ≡ record before { at = Finishing op }
  pub session : op.session ≡ before.session
  pub target_is : op.target ≡ target
  pub below : op.below.items ≡ []
  pub at : op.at ≡ FinishStart

-- the split of a page that it met on this way is to be finished
pub record MeetsSplit (page : Page) (position : Position) (before after : InsertOp) : Type 0 where
  pub target : Target
  pub block_is : target.block ≡ position.block
  pub level_is : target.level ≡ position.level
  pub page_level : page.level ≡ position.level
  pub high_is : page.high ≡ Some target.separator
  pub finishes : FinishesOne target before after

-- ... or isn't: the page is on another level, or has no high key
pub record MeetsNone (page : Page) (position : Position) (before after : InsertOp) (fault : Fault)
    : Type 0 where
  pub fault_is : fault ≡ PageDamaged position.block
  pub stays : after ≡ before
  pub astray : page.level ≡ position.level → page.high ≡ None

abbrev pub MeetsPage : Page → Position → InsertOp → InsertOp → Result InsertStep Fault → Type 0
MeetsPage page position before after (Ok Going) = MeetsSplit page position before after
MeetsPage page position before after (Ok (Added action unfinished)) = ⊥
MeetsPage page position before after (Err fault) = MeetsNone page position before after fault

-- the leaf is taken: latched, and pinned
pub record TakesLeaf (block : ℕ) (before after : InsertOp) (old new : State) : Type 0 where
  pub after_is : after ≡ record before { at = Coming (Holds block) }
  pub free : is_held_by_another old.table before.session block Exclusive ≡ false
  pub state : new ≡ with_table old
      (pinned (latched old.table before.session block Exclusive) before.session block)

-- another session holds the leaf
abbrev pub IsNotTaken : ℕ → InsertOp → State → Fault → Type 0
IsNotTaken block before old fault = (fault ≡ Blocked block)
    × (is_held_by_another old.table before.session block Exclusive ≡ true)

abbrev pub Takes : ℕ → InsertOp → InsertOp → State → State → Result InsertStep Fault → Type 0
Takes block before after old new (Ok Going) = TakesLeaf block before after old new
Takes block before after old new (Ok (Added action unfinished)) = ⊥
Takes block before after old new (Err fault) =
    (new ≡ old) × (after ≡ before) × IsNotTaken block before old fault

-- on a unique index an entry of this one's key is on the page, with the row that the fault names, which is
-- another
pub record IsOfAnotherRow (page : Page) (e : Entry) (unique : Bool) (fault : Fault) : Type 0 where
  pub row : Row
  pub is : fault ≡ KeyExists row
  pub asked : unique ≡ true
  pub there : is_among (entries_of page.items) (record { key = e.key; row = row }) ≡ true
  pub other : IsPage page → row ≢ e.row

-- why a page gives no place for an entry
abbrev pub PlaceRefused : Page → Entry → Bool → Fault → Type 0
PlaceRefused page e unique fault =
    ((fault ≡ PageDamaged page.block) × (MayHold page e → ⊥))
    ⊎ (((fault ≡ Exists) × (is_among (entries_of page.items) e ≡ true))
    ⊎ IsOfAnotherRow page e unique fault)

-- the page stands at its block, with no more entries than the limits allow, and the page to its right may be
-- mended
pub record IsSplittable (st : State) (page : Page) : Type 0 where
  pub found : slice_get st.pages page.block ≡ Some page
  pub stored : IsStored st.format page.block page
  pub few : length st.pages ≤ st.format.pages
  pub mendable : RightIsMendable st page.right
  pub apart : page.right ≢ Some page.block

-- the pages are the two halves of the leaf with the entry, and this third page; the halves are parted by
-- their separator, the right one is on a new block, and both are of the second layout and carry this cycle
-- number
pub record AreParted (page : Page) (e : Entry) (new cycle : ℕ) (rest : Page) (pages : List Page)
    : Type 0 where
  pub left : Page
  pub half : Page
  pub pages_are : pages ≡ left ∷ half ∷ rest ∷ []
  pub halves : LeafHalves (node_of page) page.block new e (node_of left) (node_of half)
  pub kept : length (entries_of left.items) ≡ left_count (length (entries_of page.items))
  pub moved : length (entries_of left.items) + length (entries_of half.items)
      ≡ length (entries_of page.items) + 1
  pub cut : IfSome left.high (IsCutOf (entries_of left.items) (entries_of half.items))
  pub left_layout : left.layout ≡ Two
  pub half_layout : half.layout ≡ Two
  pub left_block : left.block ≡ page.block
  pub half_block : half.block ≡ new
  pub left_cycle : left.cycle ≡ cycle
  pub half_cycle : half.cycle ≡ cycle
  pub left_leaf : HasEntries left.items
  pub half_leaf : HasEntries half.items
  pub left_page : IsPage left
  pub half_page : IsPage half

-- The leaf is split with the entry, on a block that was free, and let go; its split is to be finished. Both
-- halves carry the cycle number of the running bulk delete.
pub record SplitsLeaf (honest : Bool) (page : Page) (before after : InsertOp) (old new : State)
    : Type 0 where
  pub left : Page
  pub half : Page
  pub right : Option Page
  pub halves : LeafHalves (node_of page) page.block half.block before.entry
      (node_of left) (node_of half)
  pub cut : IfSome left.high (IsCutOf (entries_of left.items) (entries_of half.items))
  pub left_block : left.block ≡ page.block
  pub left_cycle : left.cycle ≡ old.cycle
  pub half_cycle : half.cycle ≡ old.cycle
  pub fresh : IsFresh old half.block
  pub free : is_held_by_another old.table before.session half.block Exclusive ≡ false
  pub right_stored : RightIsStored old before.session page.right right
  pub right_found : honest ≡ true → RightIsFound old page.right right
  pub may : AreActable old.format (length old.pages) (left ∷ half ∷ mended_to half.block right)
  pub state : new ≡ with_table (after_act (left ∷ half ∷ mended_to half.block right) old)
      (unpinned (released old.table before.session page.block) before.session page.block)
  pub target : Target
  pub block_is : target.block ≡ page.block
  pub level_is : target.level ≡ left.level
  pub high_is : left.high ≡ Some target.separator
  pub finishes : FinishesOne target (record before { added = Some (suc old.acts) }) after

-- the entry is put on the leaf, by the action of this number
pub record EntryPut (page : Page) (e : Entry) (old new : State) (action : ℕ) : Type 0 where
  pub after : Page
  pub put : IsPutIn e (entries_of page.items) (entries_of after.items)
  pub node_is : node_of after ≡ with_leaf (node_of page) (entries_of after.items)
  pub block_is : after.block ≡ page.block
  pub cycle_is : after.cycle ≡ page.cycle
  pub may : AreActable old.format (length old.pages) (after ∷ [])
  pub state : new ≡ after_act (after ∷ []) old
  pub number : action ≡ suc old.acts

abbrev pub PutsEntry : Page → Entry → State → State → InsertStep → Type 0
PutsEntry page e old new Going = ⊥
PutsEntry page e old new (Added action unfinished) =
    (unfinished ≡ None) × EntryPut page e old new action

-- it finishes splits
abbrev pub FinishesSplits : InsertAt → Type 0
FinishesSplits (Coming stage) = ⊥
FinishesSplits (Finishing op) = Unit {0}

-- an insert whose entry is logged is over; one whose entry isn't starts again
abbrev pub ContinuesFrom : Option ℕ → InsertOp → InsertOp → InsertStep → Type 0
ContinuesFrom None before after step =
    (step ≡ Going) × (after ≡ record before { at = Coming Start })
ContinuesFrom (Some action) before after step = (step ≡ Added action None) × (after ≡ before)

abbrev pub ContinuesAs : InsertOp → InsertOp → InsertStep → Type 0
ContinuesAs before after step = ContinuesFrom before.added before after step

abbrev pub is_blocked : Fault → Bool
is_blocked (Blocked b) = true
is_blocked fault = false

-- an insert whose entry is logged is over with the fault, unless a page is blocked; any other is refused
abbrev pub EndsBy : Bool → Option ℕ → Fault → Result InsertStep Fault → Type 0
EndsBy blocked None fault result = result ≡ Err fault
EndsBy true (Some action) fault result = result ≡ Err fault
EndsBy false (Some action) fault result = result ≡ Ok (Added action (Some fault))

abbrev pub Leaves : Option ℕ → Fault → Result InsertStep Fault → Type 0
Leaves added fault result = EndsBy (is_blocked fault) added fault result

-- once the entry is logged, only a page that is blocked refuses a step, and the insert ends with the number
-- of that action
abbrev pub IsRefusedRightly : Option ℕ → Result InsertStep Fault → Type 0
IsRefusedRightly None result = Unit {0}
IsRefusedRightly (Some action) (Ok Going) = Unit {0}
IsRefusedRightly (Some action) (Ok (Added number unfinished)) = number ≡ action
IsRefusedRightly (Some action) (Err fault) = is_blocked fault ≡ true
