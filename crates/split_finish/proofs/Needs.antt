-- What a step takes that finishes a split.
use Rattle.std.proofs.Common.{◌≡◌, ◌&&◌, ◌==◌, ℕ, suc, ◌<◌, ◌≤◌, Bool, true, nat_lt, if◌then◌else◌, Option, Some, None, List, [], ◌∷◌, ◌++◌, map, length, slice_get, refl, sym, ap, subst, ◌∙◌}
use Rattle.split_finish.proofs.Imports.{and_from, eq-eqb, le-leb, lt-ltb, lt-leb, Items, Meta, Page, State, Node, links_of, nodes_of, node_there, fresh_block, sibling, RightIsStored, level_of}
use Rattle.split_finish.proofs.Imports.{level_with, root_level, Position, finish_blocks, frames_of, takes_block_of, blocks_linked, is_full_parent, is_to_link, is_to_grow, halves_and, is_as_read}
use Rattle.split_finish.proofs.Imports.{is_ready, IsReadyToLink, IsReadyToGrow, FinishAt, Link, Root, FinishOp, Target, frames_some}
use Rattle.split_finish.proofs.Turning.{as_read}

-- the target as it was read, and a parent that is ready: the downlink is put there
module _ (st : State) (op : FinishOp) (position : Position) (page parent : Page) (found : slice_get st.pages op.target.block ≡ Some page) (there : slice_get st.pages position.block ≡ Some parent)
    (ready : IsReadyToLink page parent op op) where
  to_link : is_to_link st op.target position ≡ true
  to_link =
      and_from (is_as_read (nodes_of st.pages) op.target) (is_ready (nodes_of st.pages position.block) (suc op.target.level) op.target.separator)
      (as_read st op.target page found ready.incomplete ready.high_is)
      (subst (λ (n : Node). is_ready n (suc op.target.level) op.target.separator ≡ true) (sym (node_there st.pages position.block parent there)) ready.ready)

  linked_if : (blocks : List ℕ) → blocks_linked st op.target position.block (slice_get st.pages position.block) ≡ blocks → finish_blocks st op.target (Link position) ≡ blocks
  linked_if blocks is = ap (λ (b : Bool). if b then blocks_linked st op.target position.block (slice_get st.pages position.block) else []) to_link ∙ is

  -- a parent with room is written, and the page whose split is finished
  pub roomy_link : length (links_of parent.items) < st.format.items → finish_blocks st op.target (Link position) ≡ position.block ∷ op.target.block ∷ []
  roomy_link room =
      let roomy = lt-leb st.format.items (length (links_of parent.items)) room in
      linked_if (position.block ∷ op.target.block ∷ []) (rw (there, roomy) refl)

  -- a full one is split, on a block
  pub full_link : st.format.items ≤ length (links_of parent.items)
      → (finish_blocks st op.target (Link position) ≡ position.block ∷ fresh_block st ∷ sibling parent.right ++ op.target.block ∷ []) × (takes_block_of st op.target (Link position) ≡ true)
  full_link full =
      let no_room = le-leb st.format.items (length (links_of parent.items)) full in (
        linked_if (position.block ∷ fresh_block st ∷ sibling parent.right ++ op.target.block ∷ []) (rw (there, no_room) refl),
        and_from (is_to_link st op.target position) (is_full_parent st.format.items (slice_get st.pages position.block)) to_link (rw (there, no_room) refl),
      )

-- the metapage names the root's level
pub level_is : (st : State) (meta : Page) → slice_get st.pages 0 ≡ Some meta → meta.items ≡ Meta → root_level st.pages ≡ meta.level
level_is st meta found is = ap level_of found ∙ ap (λ (items : Items). level_with items meta.level) is

-- the target as it was read, and on the root's level: a root is made
module _ (st : State) (op : FinishOp) (meta page : Page) (there : slice_get st.pages 0 ≡ Some meta)
    (found : slice_get st.pages op.target.block ≡ Some page) (ready : IsReadyToGrow meta page op op) where
  pub to_grow : is_to_grow st op.target ≡ true
  to_grow =
      and_from (is_as_read (nodes_of st.pages) op.target && (root_level st.pages == op.target.level)) (nat_lt op.target.level 31)
      (and_from (is_as_read (nodes_of st.pages) op.target) (root_level st.pages == op.target.level)
      (as_read st op.target page found ready.incomplete ready.high_is)
      (eq-eqb (root_level st.pages) op.target.level (level_is st meta there ready.meta_is ∙ ready.root_level_is)))
      (lt-ltb op.target.level 31 ready.low_enough)

  -- three pages are written
  pub root_takes : finish_blocks st op.target Root ≡ fresh_block st ∷ 0 ∷ op.target.block ∷ []
  root_takes = ap (λ (b : Bool). if b then fresh_block st ∷ 0 ∷ op.target.block ∷ [] else []) to_grow

-- it needs a frame
pub needs_frame : (st : State) (target : Target) (at : FinishAt) → 1 ≤ frames_of st target at
needs_frame st target at = frames_some (finish_blocks st target at)

pub three_are : (a b c d e f : ℕ) → a ≡ d → b ≡ e → c ≡ f → a ∷ b ∷ c ∷ [] ≡ d ∷ e ∷ f ∷ []
three_are a b c d e f one two three = rw (one, two, three) refl

-- the blocks of the pages of a split
pub parted_are : (st : State) (session parent new target : ℕ) (left half clear : Page) (block : Option ℕ) (right : Option Page) → left.block ≡ parent → half.block ≡ new → clear.block ≡ target
    → RightIsStored st session block right → map (λ (page : Page). page.block) (halves_and left half right clear) ≡ parent ∷ new ∷ sibling block ++ target ∷ []
parted_are st session parent new target left half clear None None one two three stored = three_are left.block half.block clear.block parent new target one two three
parted_are st session parent new target left half clear None (Some page) one two three stored = absurd stored
parted_are st session parent new target left half clear (Some b) None one two three stored = absurd stored
parted_are st session parent new target left half clear (Some b) (Some page) one two three stored = rw (one, two, three, stored.0.block_is) refl
