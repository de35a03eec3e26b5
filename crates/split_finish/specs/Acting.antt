-- The acts by which splits are finished: which pages they write, and what they do.
use Rattle.std.specs.Prelude.{◌≡◌, ◌≢◌, ◌⊎◌, ℕ, suc, ◌*◌, ◌<◌, ◌≤◌, Bool, true, false, All, Some, Result, Ok, OnErr, List, [], ◌∷◌, length, slice_get}
use Rattle.index_model.specs.declared.bound.Bound.{Bound}
use Rattle.index_model.specs.declared.fault.Fault.{Fault}
use Rattle.latch_table.specs.Holdings.{is_held_by_another}
use Rattle.latch_table.specs.declared.mode.Mode.TheVariants.{Exclusive}
use Rattle.page_codec.specs.declared.page.Page.{Page}
use Rattle.index_model.specs.declared.layout.Layout.TheVariants.{Two}
use Rattle.page_codec.specs.Grammar.{IsBlock, IsPage, IsBoundIn}
use Rattle.page_action.specs.States.{State, Continues}
use Rattle.page_action.specs.Stored.{IsStored}
use Rattle.page_action.specs.declared.page_store.PageStore.{Ghosts}
use Rattle.tree_shape.specs.Edits.{new_root}
use Rattle.tree_shape.specs.Tree.{IsMetaOf}
use Rattle.page_codec.specs.Spelling.{count_of}
use Rattle.page_codec.specs.declared.page.Items.TheVariants.{Meta}
use Rattle.tree_shape.specs.LinkPlaces.{HasLinks, FitsAfter, child_at}
use Rattle.tree_shape.specs.Nodes.{node_of, links_of}
use Rattle.tree_acts.specs.Acts.{IsClear}
use Rattle.tree_acts.specs.StepEffects.{IsInOrder, IsOneActAtMost}
use Rattle.descent.specs.NextPage.{walk_length}
use Rattle.split_finish.specs.Targets.{FinishInvariant, finish_left}
use Rattle.descent.specs.declared.position.Position.{Position}
use Rattle.split_finish.specs.Turns.{IsReadyToLink, IsReadyToGrow}
use Rattle.split_finish.specs.declared.finish.FinishAt.TheVariants.{Link, Root}
use Rattle.split_finish.specs.Finishes.{FinishStays, FinishStepped}
use Rattle.split_finish.specs.declared.finish.FinishOp.{FinishOp}
use Rattle.split_finish.specs.declared.finish.FinishStep.{FinishStep}
use Rattle.split_finish.specs.declared.finish.FinishStep.TheVariants.{Going, Done}

-- the downlink at this place leads to the child, and one with the separator for its bound may
-- stand after it
pub record IsLinkPlace (parent : Page) (child : ℕ) (separator : Bound) (at : ℕ) : Type 0 where
  pub internal : HasLinks parent.items
  pub inside : at < length (links_of parent.items)
  pub leads : child_at (links_of parent.items) at ≡ child
  pub fits : FitsAfter (links_of parent.items) at separator parent.high

-- no downlink leads to the child, or the separator doesn't fit after one that does
abbrev pub NoLinkPlace : Page → ℕ → Bound → Type 0
NoLinkPlace parent child separator =
    All (λ d. d.child ≢ child) (links_of parent.items)
    ⊎ ((at : ℕ) × (at < length (links_of parent.items))
    × (child_at (links_of parent.items) at ≡ child)
    × (FitsAfter (links_of parent.items) at separator parent.high → ⊥))

-- the pages of an act that makes a new root over a page and its right half
pub record AreGrown (meta page : Page) (separator : Bound) (new fresh : ℕ) (pages : List Page)
    : Type 0 where
  pub root : Page
  pub meta_after : Page
  pub page_after : Page
  pub pages_are : pages ≡ root ∷ meta_after ∷ page_after ∷ []
  pub root_is : node_of root ≡ new_root (suc meta.level) page.block separator new
  pub root_layout : root.layout ≡ Two
  pub root_block : root.block ≡ fresh
  pub root_items : count_of root.items ≡ 2
  pub root_admitted : IsBlock fresh → IsBlock page.block → IsBoundIn Two separator → IsBlock new
      → IsPage root
  pub meta_is : meta.items ≡ Meta → IsMetaOf meta_after fresh (suc meta.level)
  pub meta_layout : meta_after.layout ≡ Two
  pub meta_block : meta_after.block ≡ meta.block
  pub meta_items : meta_after.items ≡ meta.items
  pub meta_admitted : IsPage meta → meta.items ≡ Meta → IsBlock fresh → IsPage meta_after
  pub clear : IsClear page page_after
  pub page_items : page_after.items ≡ page.items
  pub page_admitted : IsPage page → IsPage page_after

-- the page of this block as it was read to be changed: no other session holds it
pub record IsReadToChange (st : State) (honest : Bool) (session block : ℕ) (page : Page) : Type 0 where
  pub found : honest ≡ true → slice_get st.pages block ≡ Some page
  pub stored : IsStored st.format block page
  pub free : is_held_by_another st.table session block Exclusive ≡ false

-- a call has read its newest target and the parent of that, and may put the downlink there
pub record MeetsParent (st : State) (honest : Bool) (op : FinishOp) (page parent : Page)
    : Type 0 where
  pub position : Position
  pub at : op.at ≡ Link position
  pub read : IsReadToChange st honest op.session op.target.block page
  pub read_parent : IsReadToChange st honest op.session position.block parent
  pub ready : IsReadyToLink page parent op op

-- the first two of three pages are the parent, block `above`, and the page of the other block, as they were
-- read
pub record AreRead (st : State) (honest : Bool) (session block above : ℕ) (pages : List Page)
    : Type 0 where
  pub parent : Page
  pub page : Page
  pub rest : Page
  pub pages_are : pages ≡ parent ∷ page ∷ rest ∷ []
  pub read : IsReadToChange st honest session block page
  pub read_parent : IsReadToChange st honest session above parent

-- ... and the call may put the downlink there
pub record AreReady (st : State) (honest : Bool) (op : FinishOp) (pages : List Page) : Type 0 where
  pub parent : Page
  pub page : Page
  pub rest : Page
  pub pages_are : pages ≡ parent ∷ page ∷ rest ∷ []
  pub meets : MeetsParent st honest op page parent

-- ... that of the right half `new`, after this place of the parent, which has room for it
pub record HaveRoom (st : State) (honest : Bool) (op : FinishOp) (at new : ℕ) (pages : List Page)
    : Type 0 where
  pub are : AreReady st honest op pages
  pub right : are.page.right ≡ Some new
  pub place : IsLinkPlace are.parent are.page.block op.target.separator at
  pub room : length (links_of are.parent.items) < st.format.items

-- a call has read the metapage and its newest target, and may make a new root
pub record MeetsRoot (st : State) (honest : Bool) (op : FinishOp) (meta page : Page) : Type 0 where
  pub at : op.at ≡ Root
  pub read_meta : IsReadToChange st honest op.session 0 meta
  pub read : IsReadToChange st honest op.session op.target.block page
  pub ready : IsReadyToGrow meta page op op

-- What the part of a step that comes after its readings does: what a step does, except that the log may have
-- stopped before.
pub record FinishActs {S : Type 0} (g : Ghosts S) (before after : FinishOp) (old new : S)
    (result : Result FinishStep Fault) : Type 0 where
  pub steps : Continues g.follows old new
  pub session : after.session ≡ before.session
  pub kept : IsOneActAtMost (g.state old) (g.state new)
  pub table : (g.state new).table ≡ (g.state old).table
  pub refused : OnErr result (FinishStays (g.state old) (g.state new) before after)
  pub less : (g.backing new).honest ≡ true → result ≡ Ok Going
      → (g.state new).acts ≡ (g.state old).acts
      → finish_left (g.state new).format.pages (g.state new).pages after
      < finish_left (g.state old).format.pages (g.state old).pages before
  pub over : (g.backing new).honest ≡ true → result ≡ Ok Done
      → (g.state new).acts ≡ (g.state old).acts
      → 34 * suc (walk_length (g.state old).format.pages)
      ≤ finish_left (g.state old).format.pages (g.state old).pages before
  pub stepped : (g.backing new).honest ≡ true → IsInOrder (g.state old)
      → FinishInvariant (g.state old) before
      → FinishStepped (g.state old) (g.backing old) (g.state new) (g.backing new) before after result
