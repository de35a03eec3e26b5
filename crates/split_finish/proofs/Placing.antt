-- In a tree there is a place for the downlink of a right half: a downlink leads to the left half, and the
-- separator fits after it.
use Rattle.std.proofs.Common.{◌≡◌, ◌≢◌, inl, inr, ℕ, zero, suc, ◌+◌, ◌<◌, Option, Some, None, List, [], ◌∷◌, ◌++◌, length, take, drop, slice_get, refl, sym, ap, subst, ◌∙◌, arith}
use Rattle.page_codec.specs.declared.page.Downlink.{Downlink}
use Rattle.tree_shape.specs.Laws.{HasLink}
use Rattle.split_finish.proofs.Imports.{All, slice_index_or, Bound, Page, State, IsBetween, IsBelowNext, IsBelowBound, link_at, bound_at, IsBelowFirst, FitsAfter, links_of, bound_aim}
use Rattle.split_finish.proofs.Imports.{IsIncompleteSplit, HasTree, HasCover, parent_shows, separator_shows, NoLinkPlace}

-- an item in the middle
no_link : Downlink
no_link = record { bound = None; child = 0 }

middle : (before : List Downlink) (d : Downlink) (after : List Downlink) (e : Downlink) → slice_index_or (before ++ d ∷ after) (length before) e ≡ d
middle [] d after e = refl
middle (x ∷ xs) d after e = middle xs d after e

middle_in : (before : List Downlink) (d : Downlink) (after : List Downlink) → length before < length (before ++ d ∷ after)
middle_in [] d after = omega arith
middle_in (x ∷ xs) d after = (let k = middle_in xs d after in omega arith)

none_leads : (child : ℕ) (links : List Downlink) → HasLink child links → All (λ d. d.child ≢ child) links → ⊥
none_leads child links has none =
    let at = length has.before in
    let here : slice_index_or links at (record { bound = None; child = 0 }) ≡ record { bound = has.bound; child = child } =
    ap (λ (xs : List Downlink). slice_index_or xs at (record { bound = None; child = 0 })) has.is
    ∙ middle has.before (record { bound = has.bound; child = child }) has.after (record { bound = None; child = 0 }) in
    none at (record { bound = None; child = 0 }) (subst (λ (xs : List Downlink). at < length xs) (sym has.is) (middle_in has.before (record { bound = has.bound; child = child }) has.after))
    (ap (λ (d : Downlink). d.child) here)

-- a list, parted at an item
parted_at : (links : List Downlink) (at : ℕ) → at < length links → links ≡ take at links ++ link_at links at ∷ drop (suc at) links
parted_at [] at lt = absurd (omega arith)
parted_at (d ∷ ds) zero lt = refl
parted_at (d ∷ ds) (suc at) lt = ap (λ (xs : List Downlink). d ∷ xs) (parted_at ds at (omega arith))

below_first : (s : Bound) (links : List Downlink) → IsBelowNext s links → IsBelowFirst s links
below_first s [] h = tt
below_first s (d ∷ ds) h = go d.bound h
  where
    go : (b : Option Bound) → IsBelowBound s b → IsBelowFirst s (record { bound = b; child = 0 } ∷ ds)
    go None h = absurd h
    go (Some b) h = h

one_more : (n : ℕ) → suc n ≡ n + 1
one_more n = omega arith

-- what the tree says of the separator is what is tested
pub fits_between : (links : List Downlink) (at : ℕ) (s : Bound) (high : Option Bound) → IsBetween (bound_at links at) s (drop (suc at) links) high → FitsAfter links at s high
fits_between links at s high h = record {
  above = h.beyond;
  before_next = subst (λ (n : ℕ). IsBelowFirst s (drop n links)) (one_more at) (below_first s (drop (suc at) links) h.below_next);
  below_high = h.below_high;
}

pub there_is_a_place : (st : State) (start level : ℕ) (s : Bound) (p q : Page) (new : ℕ) → HasTree st → IsIncompleteSplit st start level s p new → slice_get st.pages q.block ≡ Some q
    → HasCover st (suc level) (bound_aim s) q.block → NoLinkPlace q p.block s → ⊥
there_is_a_place st start level s p q new h u found cover (inl none) = none_leads p.block (links_of q.items) (parent_shows st start level s p q new h u found cover) none
there_is_a_place st start level s p q new h u found cover (inr (at, lt, leads, unfit)) =
    let links = links_of q.items in
    let is : links ≡ take at links ++ record { bound = bound_at links at; child = p.block } ∷ drop (suc at) links =
    parted_at links at lt ∙ ap (λ (c : ℕ). take at links ++ record { bound = bound_at links at; child = c } ∷ drop (suc at) links) leads in
    unfit (fits_between links at s q.high (separator_shows st start level s p q new
    (take at links ++ record { bound = bound_at links at; child = p.block } ∷ record { bound = Some s; child = new } ∷ drop (suc at) links) h u found cover
    (record { before = take at links; bound = bound_at links at; after = drop (suc at) links; links_are = is; added_are = refl })))
