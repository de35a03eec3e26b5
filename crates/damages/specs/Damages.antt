-- What the verifier answers: of the damages that there are the first.
use Rattle.std.specs.Prelude.{◌≡◌, ◌≢◌, ◌⊎◌, ℕ, zero, suc, ◌+◌, ◌<◌, ◌≤◌, Bool, true, Option, Some, None, List, [], ◌∷◌, length, slice_get}
use Rattle.std.specs.List.{Contains}
use Rattle.index_model.specs.Order.{bound_of}
use Rattle.index_model.specs.declared.bound.Bound.{Bound}
use Rattle.index_model.specs.declared.entry.Entry.{Entry}
use Rattle.page_codec.specs.declared.page.Downlink.{Downlink}
use Rattle.page_codec.specs.declared.page.Page.{Page}
use Rattle.page_codec.specs.declared.page.PageState.TheVariants.{Live, HalfDead, Deleted}
use Rattle.tree_shape.specs.KeyPages.{IsUniqueNode}
use Rattle.tree_shape.specs.Nodes.{Node, nodes_of}
use Rattle.tree_shape.specs.Chains.{LeftContext, first_context, past, from_low, IsBeyond, Rises}

-- what a verifier sees: the pages by their blocks, how many are in use, and the root with its level, as the
-- metapage names them; if there is no metapage, block 0, which is on no level
pub record Index : Type 0 where
  pub at : ℕ → Node
  pub used : ℕ
  pub root : ℕ
  pub top : ℕ

abbrev pub or_block : Option ℕ → ℕ → ℕ
or_block None block = block
or_block (Some other) block = other

abbrev pub index_of : List Page → Index
index_of pages = record {
  at = nodes_of pages;
  used = length pages;
  root = or_block (nodes_of pages 0).right 0;
  top = (nodes_of pages 0).level;
}

-- a page in use, of the level so many below the root's
pub record IsOnLevel (ix : Index) (depth block : ℕ) : Type 0 where
  pub after_meta : 0 < block
  pub in_use : block < ix.used
  pub level_is : (ix.at block).level + depth ≡ ix.top

-- so many left links on; a page without one is stayed at
abbrev pub moved_left : (ℕ → Node) → ℕ → ℕ → ℕ
moved_left at start zero = start
moved_left at start (suc steps) = or_block (at (moved_left at start steps)).left (moved_left at start steps)

abbrev pub first_child : List Downlink → ℕ
first_child [] = 0
first_child (link ∷ links) = link.child

-- the leftmost page of a level: from the root, and else from the first child of the leftmost page above, left
-- links are followed as far as they lead
abbrev pub head : Index → ℕ → ℕ
head ix zero = moved_left ix.at ix.root ix.used
head ix (suc depth) = moved_left ix.at (first_child (ix.at (head ix depth)).links) ix.used

-- ... where that way begins,
abbrev pub start : Index → ℕ → ℕ
start ix zero = ix.root
start ix (suc depth) = first_child (ix.at (head ix depth)).links

-- ... and where it is after so many steps
abbrev pub left_after_steps : Index → ℕ → ℕ → ℕ
left_after_steps ix depth steps = moved_left ix.at (start ix depth) steps

-- a place of a chain: what a walk along right links knows before it, and the block there, if the chain is so
-- long
pub record Place : Type 0 where
  pub context : LeftContext
  pub block : Option ℕ

abbrev pub next_place : (ℕ → Node) → LeftContext → Option ℕ → Place
next_place at context None = record { context = context; block = None }
next_place at context (Some block) = record { context = past block (at block) context; block = (at block).right }

abbrev pub place_from : (ℕ → Node) → ℕ → ℕ → Place
place_from at head zero = record { context = first_context; block = Some head }
place_from at head (suc place) = next_place at (place_from at head place).context (place_from at head place).block

abbrev pub place_at : Index → ℕ → ℕ → Place
place_at ix depth place = place_from ix.at (head ix depth) place

-- the page is on the chain of a level
pub record IsOnChain (ix : Index) (block : ℕ) : Type 0 where
  pub depth : ℕ
  pub place : ℕ
  pub deep : depth ≤ ix.top
  pub is : (place_at ix depth place).block ≡ Some block

-- a place with the page there
pub record Here (ix : Index) : Type 0 where
  pub depth : ℕ
  pub place : ℕ
  pub block : ℕ
  pub deep : depth ≤ ix.top
  pub is : (place_at ix depth place).block ≡ Some block

-- its page, and its spot
abbrev pub node : {ix : Index} → Here ix → Node
node {ix} h = ix.at h.block

abbrev pub context : {ix : Index} → Here ix → LeftContext
context {ix} h = (place_at ix h.depth h.place).context

-- an item of that page, with the page's low for its bound if it is the first
pub record Item {ix : Index} (h : Here ix) : Type 0 where
  pub item : ℕ
  pub link : Downlink
  pub is : slice_get (from_low (context h).low (node h).links) item ≡ Some link

-- Where a damage is.
pub data Site (ix : Index) : Type 0 where
  -- on the way to the leftmost page of a level
  on_way : (depth step : ℕ) → depth ≤ ix.top → Site ix
  -- on a chain
  on_chain : Here ix → Site ix
  -- an item's child
  at_child : (h : Here ix) → Item h → Site ix
  -- a page of a chain, seen with its parents and children
  at_page : Here ix → Site ix
  -- a page on no chain
  nowhere : ℕ → Site ix

-- The order of damages: the chains, then parents and children, then pages on no chain; the level from the
-- top; the way to its leftmost page, then its chain by place; the number; the item.
abbrev pub rank : {ix : Index} → Site ix → ℕ → List ℕ
rank (on_way depth step deep) number = 0 ∷ depth ∷ 0 ∷ step ∷ number ∷ []
rank (on_chain h) number = 0 ∷ h.depth ∷ 1 ∷ h.place ∷ number ∷ []
rank (at_child h i) number = 1 ∷ h.depth ∷ h.place ∷ number ∷ i.item ∷ []
rank (at_page h) number = 1 ∷ h.depth ∷ h.place ∷ number ∷ 0 ∷ []
rank (nowhere block) number = 2 ∷ block ∷ []

-- Of two ranks the one with the lesser number at the first place where they differ comes first.
abbrev pub ComesBefore : List ℕ → List ℕ → Type 0
ComesBefore [] ys = ⊥
ComesBefore (x ∷ xs) [] = ⊥
ComesBefore (x ∷ xs) (y ∷ ys) = (x < y) ⊎ ((x ≡ y) × ComesBefore xs ys)

-- the block that is answered
abbrev pub site_block : {ix : Index} → Site ix → ℕ
site_block {ix} (on_way depth step deep) = left_after_steps ix depth step
site_block (on_chain h) = h.block
site_block (at_child h i) = i.link.child
site_block (at_page h) = h.block
site_block (nowhere block) = block

-- the way left comes back to a page already met
pub record IsBack (ix : Index) (depth step : ℕ) : Type 0 where
  pub before : ℕ
  pub comes : step ≡ suc before
  pub goes_on : (ix.at (left_after_steps ix depth before)).left ≢ None
  pub met : ℕ
  pub earlier : met ≤ before
  pub same : left_after_steps ix depth met ≡ left_after_steps ix depth step

-- an earlier place of the chain has the same page
pub record IsMetBefore {ix : Index} (h : Here ix) : Type 0 where
  pub earlier : ℕ
  pub before : earlier < h.place
  pub same : (place_at ix h.depth earlier).block ≡ Some h.block

-- an entry of the page, or a bound after the first, that isn't beyond the low
abbrev pub HasNotBeyond : Option Bound → Node → Type 0
HasNotBeyond low node =
    ((e : Entry) × Contains node.entries e × (IsBeyond low (bound_of e) → ⊥))
    ⊎ ((item : ℕ) × (link : Downlink) × (bound : Bound) × (0 < item) × (slice_get node.links item ≡ Some link)
    × (link.bound ≡ Some bound) × (IsBeyond low bound → ⊥))

-- right after the root with an incomplete split
abbrev pub IsAfterRoot : ℕ → LeftContext → Type 0
IsAfterRoot root context = (context.left ≡ Some root) × (context.left_is_split ≡ true)

-- half-dead, or right after a page with an incomplete split: a page without a downlink
abbrev pub IsUnlinked : {ix : Index} → Here ix → Type 0
IsUnlinked h = ((node h).state ≡ HalfDead) ⊎ ((context h).left_is_split ≡ true)

-- an earlier item, on a level above, an earlier page or the same one, that leads to the same child
pub record IsSecond {ix : Index} {h : Here ix} (i : Item h) : Type 0 where
  pub page : Here ix
  pub first : Item page
  pub earlier : ComesBefore (page.depth ∷ page.place ∷ first.item ∷ []) (h.depth ∷ h.place ∷ i.item ∷ [])
  pub same : first.link.child ≡ i.link.child

-- Number by number, what is damaged on the way to the leftmost page,
abbrev pub IsOfPath : Index → ℕ → ℕ → ℕ → Type 0
IsOfPath ix depth step number =
    ((number ≡ 1) × (IsOnLevel ix depth (left_after_steps ix depth step) → ⊥))
    ⊎ ((number ≡ 3) × IsBack ix depth step)

-- ... of a page at its place in a chain; the last is seen if keys are: a whole entry as its high key or as
-- one of its bounds, or, as the format has entries ascend, an entry with the key of the one before it,
pub data IsOfChain {ix : Index} (keys : Bool) (h : Here ix) (number : ℕ) : Type 0 where
  off_level : number ≡ 1 → (IsOnLevel ix h.depth h.block → ⊥) → IsOfChain keys h number
  wrong_left : number ≡ 2 → (node h).left ≢ (context h).left → IsOfChain keys h number
  met_before : number ≡ 3 → IsMetBefore h → IsOfChain keys h number
  deleted : number ≡ 4 → (node h).state ≡ Deleted → IsOfChain keys h number
  not_rising : number ≡ 5 → (node h).state ≡ Live → (Rises (context h).low (node h).high → ⊥) → IsOfChain keys h number
  not_beyond : number ≡ 6 → HasNotBeyond (context h).low (node h) → IsOfChain keys h number
  beside_root : number ≡ 10 → h.depth ≡ 0 → h.block ≢ ix.root → (IsAfterRoot ix.root (context h) → ⊥) → IsOfChain keys h number
  dead_after_split : number ≡ 12 → (node h).state ≡ HalfDead → (context h).left_is_split ≡ true → IsOfChain keys h number
  shared_key : number ≡ 13 → keys ≡ true → (IsUniqueNode (node h) → ⊥) → IsOfChain keys h number

-- ... of a page among its parents and children,
abbrev pub IsOfParents : {ix : Index} → Here ix → ℕ → Type 0
IsOfParents {ix} h number =
    ((number ≡ 7) × (i : Item h) × (child : Here ix) × (i.link.child ≡ child.block) × (i.link.bound ≢ (context child).low))
    ⊎ ((number ≡ 8) × (0 < h.depth) × (IsUnlinked h → ⊥)
    × ((above : Here ix) (i : Item above) → above.depth < h.depth → i.link.child ≢ h.block))
    ⊎ ((number ≡ 9) × (i : Item h) × ((IsOnChain ix i.link.child → ⊥)
    ⊎ ((child : Here ix) × (i.link.child ≡ child.block) × IsUnlinked child)
    ⊎ IsSecond i))

-- ... of a page that is on no chain.
abbrev pub IsStray : Index → ℕ → Type 0
IsStray ix block = (0 < block) × (block < ix.used) × ((ix.at block).state ≢ Deleted) × (IsOnChain ix block → ⊥)

-- There is this damage at this site. Parents and children, and pages on no chain, are seen by `check_parents`
-- alone; what a unique index asks of bounds and keys on such an index alone.
abbrev pub IsDamage : {ix : Index} → (parents keys : Bool) → Site ix → ℕ → Type 0
IsDamage {ix} parents keys (on_way depth step deep) number = IsOfPath ix depth step number
IsDamage parents keys (on_chain h) number = IsOfChain keys h number
IsDamage {ix} parents keys (at_child h i) number = (parents ≡ true) × (number ≡ 1)
    × (IsOnLevel ix (suc h.depth) i.link.child → ⊥)
IsDamage parents keys (at_page h) number = (parents ≡ true) × IsOfParents h number
IsDamage {ix} parents keys (nowhere block) number = (parents ≡ true) × (number ≡ 11) × IsStray ix block

-- There is no damage.
abbrev pub IsSound : (parents keys : Bool) → List Page → Type 0
IsSound parents keys pages = (site : Site (index_of pages)) (number : ℕ) → IsDamage parents keys site number → ⊥

-- The damage that is answered: its number and block. None of those that there are comes before it.
pub record IsFirstDamage (parents keys : Bool) (pages : List Page) (number block : ℕ) : Type 0 where
  pub site : Site (index_of pages)
  pub is : IsDamage parents keys site number
  pub block_is : block ≡ site_block site
  pub first : (other : Site (index_of pages)) (n : ℕ) → IsDamage parents keys other n
      → ComesBefore (rank other n) (rank site number) → ⊥
