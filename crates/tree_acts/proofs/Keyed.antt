-- Pages that are each one of a unique index are keyed, and the other way round.
use Rattle.std.proofs.Common.{◌≡◌, ℕ, suc, true, false, Option, Some, None, List, [], ◌∷◌, slice_get, refl, sym, subst, arith}
use Rattle.tree_acts.specs.TheoremKeys.{AreKeyed}
use Rattle.tree_acts.proofs.Imports.{IfSome, AllByRecursion, KeysDiffer, AscendsPast, IsAscending, bound_of, is_among, is_past, same_entry, Bound, Entry, Format, is_past-self, same_entry-self}
use Rattle.tree_acts.proofs.Imports.{entries_of, Ascends, FollowedBy, IsOfKind, IsLeafIn, Items, Meta, Entries, Downlinks, Page, PageState, Live, HalfDead, Deleted, entry_on_live_leaf, AreStored}
use Rattle.tree_acts.proofs.Imports.{stored_page, KeyBefore, IsUniquePage, AreUnique, node_from, entries_alive, holds, before_key, IsTree, KeyedShows, or-true, slice_get_within}
use Rattle.tree_acts.proofs.Uniques.{unique_at, unique_shows}
use Rattle.tree_acts.proofs.Words.{contents_held}

-- entries of these are one if they share a key
abbrev DifferIn : List Entry → Type 0
DifferIn es = KeysDiffer (is_among es)

first_there : (x : Entry) (xs : List Entry) → is_among (x ∷ xs) x ≡ true
first_there x xs = rw (same_entry-self x) refl

rest_there : (x : Entry) (xs : List Entry) (y : Entry) → is_among xs y ≡ true → is_among (x ∷ xs) y ≡ true
rest_there x xs y there = rw there (or-true (same_entry x y))

rest_differs : (x : Entry) (xs : List Entry) → DifferIn (x ∷ xs) → DifferIn xs
rest_differs x xs differ a b in_a in_b same = differ a b (rest_there x xs a in_a) (rest_there x xs b in_b) same

past_itself : (x y : Entry) → is_past (bound_of x) y ≡ true → x ≡ y → ⊥
past_itself x y past same =
    (let k : is_past (bound_of x) x ≡ true = subst (λ (z : Entry). is_past (bound_of x) z ≡ true) (sym same) past in let n : is_past (bound_of x) x ≡ false = is_past-self x in cc)

-- the keys of entries ascend that ascend, and of which no two share a key
follows : (x : Entry) (xs : List Entry) → AscendsPast (Some (bound_of x)) xs → DifferIn (x ∷ xs) → FollowedBy KeyBefore x xs
follows x [] ascends differ = tt
follows x (y ∷ ys) ascends differ = (
  before_key x y ascends.0 (λ same. past_itself x y ascends.0
      (differ x y (first_there x (y ∷ ys)) (rest_there x (y ∷ ys) y (first_there y ys)) same)),
  follows y ys ascends.1 (rest_differs x (y ∷ ys) differ),
)

keys_ascend : (es : List Entry) → IsAscending es → DifferIn es → Ascends KeyBefore es
keys_ascend [] ascends differ = tt
keys_ascend (x ∷ xs) ascends differ = follows x xs ascends.1 differ

-- ... of a page, if no two entries share a key that are there
leaf_keys : (state : PageState) (page : Page) (es : List Entry) → IsLeafIn state page es → DifferIn (entries_alive state es) → Ascends KeyBefore es
leaf_keys Live page es leaf differ = keys_ascend es leaf.entries.ascends differ
leaf_keys HalfDead page es leaf differ = subst (λ (l : List Entry). Ascends KeyBefore l) (sym leaf.entries) tt
leaf_keys Deleted page es leaf differ = subst (λ (l : List Entry). Ascends KeyBefore l) (sym leaf.entries) tt

item_keys : (page : Page) (items : Items) → IsOfKind page items → DifferIn (entries_alive page.state (entries_of items)) → Ascends KeyBefore (entries_of items)
item_keys page Meta kind differ = tt
item_keys page (Entries v) kind differ = leaf_keys page.state page v.items kind.rest differ
item_keys page (Downlinks v) kind differ = tt

-- what is so of the page at each block is so of each page
all_from : (P : Page → Type 0) (pages : List Page) → ((b : ℕ) (page : Page) → slice_get pages b ≡ Some page → P page) → AllByRecursion P pages
all_from P [] h = tt
all_from P (page ∷ pages) h = (h 0 page refl, all_from P pages (λ b other found. h (suc b) other found))

module _ (format : Format) (pages : List Page) (stored : AreStored format 0 pages) (keyed : AreKeyed pages) where
  unique_page : (b : ℕ) (page : Page) → slice_get pages b ≡ Some page → IsUniquePage page
  unique_page b page found = record {
    high = subst (λ (o : Option Page). IfSome (node_from o).high (λ s. s.row ≡ None)) found (keyed.high b);
    bounds = subst (λ (o : Option Page). AllByRecursion (λ d. IfSome d.bound (λ (s : Bound). s.row ≡ None)) (node_from o).links) found (keyed.bounds b);
    keys = item_keys page page.items (stored_page format b pages page stored found).storable.admitted.kind differ;
  }
    where
      on : (x : Entry) → is_among (entries_alive page.state (entries_of page.items)) x ≡ true → entry_on_live_leaf pages x ≡ true
      on x there = (contents_held pages x).1 (record {
        block = b;
        in_use = slice_get_within pages b page found;
        on = subst (λ (o : Option Page). holds (node_from o) x ≡ true) (sym found) there;
      })

      differ : DifferIn (entries_alive page.state (entries_of page.items))
      differ x y in_x in_y same = keyed.keys x y (on x in_x) (on y in_y) same

  pub unique_of : AreUnique pages
  unique_of = all_from IsUniquePage pages unique_page

pub keyed_of : (format : Format) (pages : List Page) → IsTree pages → AreStored format 0 pages → AreUnique pages → AreKeyed pages
keyed_of format pages tree stored unique = record {
  high = λ b. (unique_at pages unique b).high;
  bounds = λ b. (unique_at pages unique b).bounds;
  keys = unique_shows format pages tree stored unique;
}

pub keyed_shows : KeyedShows
keyed_shows format pages tree stored = (keyed_of format pages tree stored, unique_of format pages stored)
