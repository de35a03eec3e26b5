-- What is kept of pages: one more, and what is read of one.
use Rattle.std.proofs.Common.{◌≡◌, ◌⊎◌, ℕ, zero, suc, ◌+◌, ◌<◌, ◌≤◌, inl, inr, Bool, true, false, drop, List, [], ◌∷◌, ◌++◌, Option, Some, None, length, length-append, slice_get, refl, sym, ap, subst, ◌∙◌, arith}
use Rattle.tree_shape.specs.LinkPlaces.{HasLinks}
use Rattle.amcheck.proofs.Imports.{slice_get_within, slice_get_past, IfSome, Items, Meta, Entries, Downlinks, Page, PageState, Live, HalfDead, Deleted, Node, node_of, node_from, nodes_of, no_node}
use Rattle.amcheck.proofs.Imports.{links_of, no_link, page_there, sum_of_all, count_entries_on, one_if_half_dead, one_if_deleted, one_if_incomplete, IsSketch, HoldsSketch, HoldSketches, same_Some}
use Rattle.amcheck.proofs.Imports.{links_at, HasGrown, Sketch}

get_left : {A : Type 0} (xs ys : List A) (k : ℕ) → k < length xs → slice_get (xs ++ ys) k ≡ slice_get xs k
get_left [] ys k lt = absurd (omega arith)
get_left (x ∷ xs) ys zero lt = refl
get_left (x ∷ xs) ys (suc k) lt = get_left xs ys k (omega arith)

pub get_last : {A : Type 0} (xs : List A) (x : A) → slice_get (xs ++ x ∷ []) (length xs) ≡ Some x
get_last [] x = refl
get_last (y ∷ xs) x = get_last xs x

-- an item of a list with one more is one of the list, or that one
more_cases : {A : Type 0} (xs : List A) (x y : A) (k : ℕ) → slice_get (xs ++ x ∷ []) k ≡ Some y → (slice_get xs k ≡ Some y) ⊎ ((k ≡ length xs) × (x ≡ y))
more_cases [] x y zero e = inr (refl, same_Some x y e)
more_cases [] x y (suc k) e = absurd (no_link e)
more_cases (z ∷ xs) x y zero e = inl e
more_cases (z ∷ xs) x y (suc k) e = elim (more_cases xs x y k e) [
  | inl r ↦ inl r
  | inr r ↦ inr (let l = r.0 in omega arith, r.1)
]

links_left : (whole more : List Page) (o : Option ℕ) → ((k : ℕ) → o ≡ Some k → k < length whole) → links_at (whole ++ more) o ≡ links_at whole o
links_left whole more None inside = refl
links_left whole more (Some k) inside = ap (λ (p : Option Page). (node_from p).links) (get_left whole more k (inside k refl))

keeps_left : (whole more : List Page) (page : Page) (sketch : Sketch) → HoldsSketch whole page sketch → HoldsSketch (whole ++ more) page sketch
keeps_left whole more page sketch k = record {
  is = k.is;
  entries = k.entries;
  few = k.few;
  links = links_left whole more sketch.place k.inside ∙ k.links;
  inside = λ place is. let lt = k.inside place is in omega (arith, lt, length-append whole more);
}

module _ (pages whole more : List Page) (sketches : List Sketch) (page : Page) (sketch : Sketch) (kept : HoldSketches pages whole sketches)
    (one : length more ≤ 1) (new : HoldsSketch (whole ++ more) page sketch) where
  each : (block : ℕ) (p : Page) (s : Sketch) → slice_get (pages ++ page ∷ []) block ≡ Some p → slice_get (sketches ++ sketch ∷ []) block ≡ Some s → HoldsSketch (whole ++ more) p s
  each block p s at_p at_s = by (more_cases pages page p block at_p) (more_cases sketches sketch s block at_s)
    where
      by : (slice_get pages block ≡ Some p) ⊎ ((block ≡ length pages) × (page ≡ p)) → (slice_get sketches block ≡ Some s) ⊎ ((block ≡ length sketches) × (sketch ≡ s)) → HoldsSketch (whole ++ more) p s
      by (inl a) (inl b) = keeps_left whole more p s (kept.each block p s a b)
      by (inr a) (inr b) = subst (λ (q : Page). HoldsSketch (whole ++ more) q s) a.1 (subst (HoldsSketch (whole ++ more) page) b.1 new)
      by (inl a) (inr b) = absurd (let lt = slice_get_within pages block p a in omega (arith, lt, b.0, kept.count))
      by (inr a) (inl b) = absurd (let lt = slice_get_within sketches block s b in omega (arith, lt, a.0, kept.count))

  all : HoldSketches (pages ++ page ∷ []) (whole ++ more) (sketches ++ sketch ∷ [])
  all = record {
    count = omega (arith, length-append pages (page ∷ []), length-append sketches (sketch ∷ []), kept.count);
    fewer = omega (arith, length-append pages (page ∷ []), length-append whole more, kept.fewer, one);
    each = each;
  }

-- one page more is kept
pub kept_more : (pages whole : List Page) (sketches : List Sketch) (page : Page) (sketch : Sketch) (after whole' : List Page)
    (sketches' : List Sketch) → HoldSketches pages whole sketches → HasGrown whole whole'
    → HoldsSketch whole' page sketch → after ≡ pages ++ page ∷ [] → sketches' ≡ sketches ++ sketch ∷ [] → HoldSketches after whole' sketches'
kept_more pages whole sketches page sketch after whole' sketches' kept grown new after_is sketches_is =
    subst (λ (ps : List Page). HoldSketches ps whole' sketches') (sym after_is)
    (subst (λ (ws : List Page). HoldSketches (pages ++ page ∷ []) ws sketches') (sym grown.is)
    (subst (HoldSketches (pages ++ page ∷ []) (whole ++ grown.more)) (sym sketches_is)
    (all pages whole grown.more sketches page sketch kept grown.few (subst (λ (ws : List Page). HoldsSketch ws page sketch) grown.is new))))

-- a page without downlinks isn't kept whole
pub no_links : (page : Page) → (HasLinks page.items → ⊥) → links_of page.items ≡ []
no_links page none = by page.items none
  where
    by : (items : Items) → (HasLinks items → ⊥) → links_of items ≡ []
    by Meta h = refl
    by (Entries v) h = refl
    by (Downlinks v) h = absurd (h tt)

-- what is read of one that is kept
module _ (pages whole : List Page) (sketches : List Sketch) (kept : HoldSketches pages whole sketches) (block : ℕ) (sketch : Sketch) (found : slice_get sketches block ≡ Some sketch) where
  there : (page : Page) × (slice_get pages block ≡ Some page)
  there = page_there pages block (let lt = slice_get_within sketches block sketch found in omega (arith, lt, kept.count))

  node_is : nodes_of pages block ≡ node_of there.0
  node_is = ap node_from there.1

  keeps : HoldsSketch whole there.0 sketch
  keeps = kept.each block there.0 sketch there.1 found

  pub sketch_is : IsSketch (nodes_of pages block) sketch
  sketch_is = subst (λ (n : Node). IsSketch n sketch) (sym node_is) keeps.is

  pub entries_are : (page : Page) → slice_get pages block ≡ Some page → sketch.entries ≡ count_entries_on page
  entries_are page is = (kept.each block page sketch is found).entries

  pub entries_few : sketch.entries ≤ 50
  entries_few = keeps.few

  pub place_inside : (place : ℕ) → sketch.place ≡ Some place → place < length whole
  place_inside = keeps.inside

  pub high_is : sketch.high ≡ (nodes_of pages block).high
  high_is = sketch_is.high

  pub links_are : links_at whole sketch.place ≡ (nodes_of pages block).links
  links_are = keeps.links ∙ ap (λ (n : Node). n.links) (sym node_is)

-- and after them there is none
pub none_after : (pages whole : List Page) (sketches : List Sketch) (block : ℕ) → HoldSketches pages whole sketches → length sketches ≤ block → nodes_of pages block ≡ no_node
none_after pages whole sketches block kept le = ap node_from (slice_get_past pages block (omega (arith, le, kept.count)))

pub inside_of : (whole : List Page) (o : Option ℕ) → IfSome o (λ place. place < length whole) → (place : ℕ) → o ≡ Some place → place < length whole
inside_of whole None inside place is = absurd (no_link is)
inside_of whole (Some k) inside place is = subst (λ (n : ℕ). n < length whole) (same_Some k place is) inside

-- a sum from a page on is that page's number, and the sum after it
pub total_drop : (number : Page → ℕ) (pages : List Page) (k : ℕ) (page : Page) → slice_get pages k ≡ Some page → sum_of_all number (drop k pages) ≡ number page + sum_of_all number (drop (k + 1) pages)
total_drop number pages k page is = by pages k is ∙ ap (λ (n : ℕ). number page + sum_of_all number (drop n pages)) (let e : suc k ≡ k + 1 = omega arith in e)
  where
    by : (pages : List Page) (k : ℕ) → slice_get pages k ≡ Some page → sum_of_all number (drop k pages) ≡ number page + sum_of_all number (drop (suc k) pages)
    by [] k is = absurd (no_link is)
    by (p ∷ pages) zero is = ap (λ (q : Page). number q + sum_of_all number pages) (same_Some p page is)
    by (p ∷ pages) (suc k) is = by pages k is

pub one_half_dead : (state : PageState) → one_if_half_dead state ≤ 1
one_half_dead Live = omega arith
one_half_dead HalfDead = omega arith
one_half_dead Deleted = omega arith

pub one_deleted : (state : PageState) → one_if_deleted state ≤ 1
one_deleted Live = omega arith
one_deleted HalfDead = omega arith
one_deleted Deleted = omega arith

pub one_incomplete : (split : Bool) → one_if_incomplete split ≤ 1
one_incomplete true = omega arith
one_incomplete false = omega arith
