-- The parent and the page in the first two of three pages: as they are read there, and as they are changed
-- there.
use Rattle.std.proofs.Common.{◌≡◌, ◌+◌, ◌++◌, ℕ, suc, List, [], ◌∷◌, length, take, slice_set, refl, sym, ap, subst, arith}
use Rattle.split_finish.proofs.Imports.{slice_index_or, Bound, IsBlock, IsPage, IsBoundIn, Two, count_of, Items, Meta, Entries, Downlinks, Page, IsLinkAdded, with_links, HasLinks, FitsAfter}
use Rattle.split_finish.proofs.Imports.{child_at, node_of, links_of, IsClear, IsLinkPlace}

-- what is put on the first page of one part and of the other stands there
pub two_put : (front back : List Page) (parent page : Page) → length front ≡ 1 → length back ≡ 2
    → (rest : Page) × (slice_set front 0 parent ++ slice_set back 0 page ≡ parent ∷ page ∷ rest ∷ [])
two_put [] back parent page one two = absurd cc
two_put (p ∷ q ∷ ps) back parent page one two = absurd (omega (arith, one))
two_put (p ∷ []) [] parent page one two = absurd cc
two_put (p ∷ []) (b ∷ []) parent page one two = absurd (omega (arith, two))
two_put (p ∷ []) (b ∷ rest ∷ []) parent page one two = (rest, refl)
two_put (p ∷ []) (b ∷ rest ∷ c ∷ cs) parent page one two = absurd (omega (arith, two))

-- the first page is the parent
pub first_is : (pages : List Page) (parent page rest other : Page) → pages ≡ parent ∷ page ∷ rest ∷ [] → slice_index_or pages 0 other ≡ parent
first_is pages parent page rest other is = ap (λ (ps : List Page). slice_index_or ps 0 other) is

-- ... and the second one the page
pub second_is : (pages : List Page) (parent page rest other : Page) → pages ≡ parent ∷ page ∷ rest ∷ [] → slice_index_or pages 1 other ≡ page
second_is pages parent page rest other is = ap (λ (ps : List Page). slice_index_or ps 1 other) is

-- a page with downlinks has as many items
pub links_count : (items : Items) → HasLinks items → count_of items ≡ length (links_of items)
links_count Meta h = absurd h
links_count (Entries v) h = absurd h
links_count (Downlinks v) h = refl

-- the pages of an act that puts a downlink on a parent with room
pub record AreLinked (parent page : Page) (separator : Bound) (new : ℕ) (pages : List Page)
    : Type 0 where
  pub parent_after : Page
  pub page_after : Page
  pub pages_are : pages ≡ parent_after ∷ page_after ∷ []
  pub added : IsLinkAdded page.block new separator (links_of parent.items)
      (links_of parent_after.items)
  pub after_is : node_of parent_after ≡ with_links (node_of parent) (links_of parent_after.items)
  pub layout_is : parent_after.layout ≡ Two
  pub block_is : parent_after.block ≡ parent.block
  pub clear : IsClear page page_after
  pub count : count_of parent_after.items ≡ suc (length (links_of parent.items))
  pub admitted : IsPage parent → IsBlock new → IsBoundIn Two separator → IsPage parent_after
  pub page_items : page_after.items ≡ page.items
  pub page_admitted : IsPage page → IsPage page_after

-- the parent before and after, with the downlink put on it
pub record IsLinked (parent parent_after : Page) (separator : Bound) (at new : ℕ) : Type 0 where
  pub added : IsLinkAdded (child_at (links_of parent.items) at) new separator (links_of parent.items) (links_of parent_after.items)
  pub node_is : node_of parent_after ≡ with_links (node_of parent) (links_of parent_after.items)
  pub layout_is : parent_after.layout ≡ Two
  pub block_is : parent_after.block ≡ parent.block
  pub count : length (links_of parent_after.items) ≡ length (links_of parent.items) + 1
  pub internal : HasLinks parent_after.items
  pub admitted : IsPage parent → IsBlock new → IsBoundIn Two separator → FitsAfter (links_of parent.items) at separator parent.high → IsPage parent_after

-- both pages of the act
both_linked : (parent page parent_after page_after : Page) (separator : Bound) (at new : ℕ) → IsLinkPlace parent page.block separator at
    → IsLinked parent parent_after separator at new → IsClear page page_after
    → (IsPage page → IsPage page_after) → AreLinked parent page separator new (parent_after ∷ page_after ∷ [])
both_linked parent page parent_after page_after separator at new place linked clear admitted = record {
  parent_after = parent_after;
  page_after = page_after;
  pages_are = refl;
  added = subst (λ (b : ℕ). IsLinkAdded b new separator (links_of parent.items) (links_of parent_after.items)) place.leads linked.added;
  after_is = linked.node_is;
  layout_is = linked.layout_is;
  block_is = linked.block_is;
  clear = clear;
  count = (let c = links_count parent_after.items linked.internal in omega (arith, c, linked.count));
  admitted = λ p b w. linked.admitted p b w place.fits;
  page_items = ap (λ (p : Page). p.items) clear.only;
  page_admitted = admitted;
}

-- ... as they are changed one after the other
pub linked_there : (pages : List Page) (parent page rest first second parent_after page_after : Page) (separator : Bound) (at new : ℕ)
    → pages ≡ parent ∷ page ∷ rest ∷ [] → IsLinkPlace parent page.block separator at
    → IsLinked (slice_index_or pages 0 first) parent_after separator at new → IsClear (slice_index_or (slice_set pages 0 parent_after) 1 second) page_after
    → (IsPage (slice_index_or (slice_set pages 0 parent_after) 1 second) → IsPage page_after)
    → AreLinked parent page separator new (take 2 (slice_set (slice_set pages 0 parent_after) 1 page_after))
linked_there pages parent page rest first second parent_after page_after separator at new is place =
    subst (λ (ps : List Page). IsLinked (slice_index_or ps 0 first) parent_after separator at new → IsClear (slice_index_or (slice_set ps 0 parent_after) 1 second) page_after
    → (IsPage (slice_index_or (slice_set ps 0 parent_after) 1 second) → IsPage page_after)
    → AreLinked parent page separator new (take 2 (slice_set (slice_set ps 0 parent_after) 1 page_after))) (sym is)
    (both_linked parent page parent_after page_after separator at new place)
