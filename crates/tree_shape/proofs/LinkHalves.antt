-- Downlinks with one put in, and in two halves.
use Rattle.std.proofs.Common.{◌≡◌, ℕ, zero, suc, ◌+◌, ◌<◌, ◌≤◌, true, false, Option, Some, None, List, [], ◌∷◌, ◌++◌, length, take, drop, unwrap_or, refl, sym, ap, ap₂, subst, ◌∙◌, arith, rules, add-one, IfSome, length-append, length-take-le, take-append-drop}
use Rattle.std.specs.Prelude.{insert}
use Rattle.std.specs.Cmp.Lexicographic.{options_total}
use Rattle.tree_shape.proofs.Imports.{length-insert, AllByRecursion, option_cmp, is_lt, Ordering, Less, Equal, Greater, bound_cmp, Bound, bounds_total, AllByRecursion-append, AllByRecursion-front}
use Rattle.tree_shape.proofs.Imports.{AllByRecursion-back, Layout, FollowedBy, Ascends, LinkBefore, Below, StartsLow, IsDownlink, AreLinks, IsBlock, IsInternal, IsOfKind, IsPage, IsBoundIn}
use Rattle.tree_shape.proofs.Imports.{Downlink, Items, Meta, Entries, Downlinks, Page, entries_of, Node, node_of, links_of, IsBeyond, Rises, from_low, IsLinkAdded, LinkHalves, left_links}
use Rattle.tree_shape.proofs.Imports.{right_links, left_count, with_downlinks, HasLinks, child_at, bound_at, IsBelowFirst, FitsAfter, LinkSplit}

-- a downlink with this bound
abbrev pub link_to : Bound → ℕ → Downlink
link_to separator child = record { bound = Some separator; child = child }

pub links_apart : (links : List Downlink) (at : ℕ) → at < length links → links ≡ take at links ++ record { bound = bound_at links at; child = child_at links at } ∷ drop (suc at) links
links_apart [] at lt = absurd (omega arith)
links_apart (d ∷ ds) zero lt = refl
links_apart (d ∷ ds) (suc at) lt = ap (λ l. d ∷ l) (links_apart ds at (omega arith))

added_apart : (links : List Downlink) (at : ℕ) (e : Downlink) → at < length links
    → insert links (suc at) e ≡ take at links ++ record { bound = bound_at links at; child = child_at links at } ∷ e ∷ drop (suc at) links
added_apart [] at e lt = absurd (omega arith)
added_apart (d ∷ ds) zero e lt = refl
added_apart (d ∷ ds) (suc at) e lt = ap (λ l. d ∷ l) (added_apart ds at e (omega arith))

-- a downlink that is put after the one at a place
pub is_added : (links : List Downlink) (at : ℕ) (separator : Bound) (new : ℕ) → at < length links
    → IsLinkAdded (child_at links at) new separator links (insert links (suc at) (link_to separator new))
is_added links at separator new lt = record {
  before = take at links;
  bound = bound_at links at;
  after = drop (suc at) links;
  links_are = links_apart links at lt;
  added_are = added_apart links at (link_to separator new) lt;
}

less : (o : Ordering) → is_lt o ≡ true → o ≡ Less
less Less h = refl
less Equal h = absurd cc
less Greater h = absurd cc

pub before_trans : (a b c : Downlink) → LinkBefore a b → LinkBefore b c → LinkBefore a c
before_trans a b c p q = ap is_lt ((options_total bounds_total).trans a.bound b.bound c.bound (less _ p) (less _ q))

-- what a downlink stands before has a bound
bounded : (low high : Option Bound) (otherwise : Bound) → is_lt (option_cmp bound_cmp low high) ≡ true → high ≡ Some (unwrap_or high otherwise)
bounded low (Some b) otherwise h = refl
bounded None None otherwise h = absurd cc
bounded (Some a) None otherwise h = absurd cc

beyond_before : (low : Option Bound) (separator : Bound) → IsBeyond low separator → is_lt (option_cmp bound_cmp low (Some separator)) ≡ true
beyond_before None separator h = refl
beyond_before (Some a) separator h = h

low_before : (high : Option Bound) (otherwise : Bound) → high ≡ Some (unwrap_or high otherwise) → is_lt (option_cmp bound_cmp None high) ≡ true
low_before None otherwise h = absurd cc
low_before (Some b) otherwise h = refl

first_after : (d : Downlink) (ds : List Downlink) (separator : Bound) (new : ℕ) → IsBelowFirst separator ds → FollowedBy LinkBefore d ds → FollowedBy LinkBefore (link_to separator new) ds
first_after d [] separator new first h = tt
first_after d (e ∷ es) separator new first h = (first, h.1)

followed_put : (d : Downlink) (ds : List Downlink) (at : ℕ) (separator : Bound) (new : ℕ) → at < length (d ∷ ds) → FollowedBy LinkBefore d ds
    → IsBeyond (bound_at (d ∷ ds) at) separator → IsBelowFirst separator (drop (suc at) (d ∷ ds)) → FollowedBy LinkBefore d (take at ds ++ link_to separator new ∷ drop at ds)
followed_put d ds zero separator new lt h above next = (beyond_before d.bound separator above, first_after d ds separator new next h)
followed_put d [] (suc at) separator new lt h above next = absurd (omega arith)
followed_put d (e ∷ es) (suc at) separator new lt h above next = (h.0, followed_put e es at separator new (omega arith) h.1 above next)

ascends_put : (ds : List Downlink) (at : ℕ) (separator : Bound) (new : ℕ) → at < length ds → Ascends LinkBefore ds
    → IsBeyond (bound_at ds at) separator → IsBelowFirst separator (drop (suc at) ds) → Ascends LinkBefore (insert ds (suc at) (link_to separator new))
ascends_put [] at separator new lt h above next = absurd (omega arith)
ascends_put (d ∷ ds) at separator new lt h above next = followed_put d ds at separator new lt h above next

all_put : (P : Downlink → Type 0) (ds : List Downlink) (at : ℕ) (e : Downlink) → P e → AllByRecursion P ds → AllByRecursion P (insert ds at e)
all_put P ds at e one all =
    let parts : AllByRecursion P (take at ds ++ drop at ds) = subst (AllByRecursion P) (sym (take-append-drop at ds)) all in
    AllByRecursion-append P (take at ds) (e ∷ drop at ds) (AllByRecursion-front P (take at ds) (drop at ds) parts) (one, AllByRecursion-back P (take at ds) (drop at ds) parts)

below_high : (high : Option Bound) (separator : Bound) (new : ℕ) → Rises (Some separator) high → Below high (link_to separator new)
below_high None separator new h = tt
below_high (Some b) separator new h = h

pub links_put : (layout : Layout) (high : Option Bound) (ds : List Downlink) (at : ℕ) (separator : Bound) (new : ℕ) → at < length ds
    → AreLinks layout high ds → IsBoundIn layout separator → IsBlock new
    → FitsAfter ds at separator high → AreLinks layout high (insert ds (suc at) (link_to separator new))
links_put layout high ds at separator new lt h whole block fits = record {
  valid = all_put (IsDownlink layout) ds (suc at) (link_to separator new) (record { bound = whole; child = block }) h.valid;
  ascends = ascends_put ds at separator new lt h.ascends fits.above (rw (← add-one) fits.before_next);
  within = all_put (Below high) ds (suc at) (link_to separator new) (below_high high separator new fits.below_high) h.within;
}

pub starts_put : (ds : List Downlink) (at : ℕ) (e : Downlink) → StartsLow ds → StartsLow (insert ds (suc at) e)
starts_put [] at e h = absurd h
starts_put (d ∷ ds) at e h = h

-- downlinks in two parts, cut at the bound of the first of the second
each_before : (d : Downlink) (xs : List Downlink) (y : Downlink) (ys : List Downlink) → FollowedBy LinkBefore d (xs ++ y ∷ ys) → AllByRecursion (λ x. LinkBefore x y) (d ∷ xs)
each_before d [] y ys h = (h.0, tt)
each_before d (x ∷ xs) y ys h =
    let rest : AllByRecursion (λ x. LinkBefore x y) (x ∷ xs) = each_before x xs y ys h.1 in
    (before_trans d x y h.0 rest.0, rest)

followed_front : (d : Downlink) (xs ys : List Downlink) → FollowedBy LinkBefore d (xs ++ ys) → FollowedBy LinkBefore d xs
followed_front d [] ys h = tt
followed_front d (x ∷ xs) ys h = (h.0, followed_front x xs ys h.1)

followed_back : (d : Downlink) (xs : List Downlink) (y : Downlink) (ys : List Downlink) → FollowedBy LinkBefore d (xs ++ y ∷ ys) → FollowedBy LinkBefore y ys
followed_back d [] y ys h = h.1
followed_back d (x ∷ xs) y ys h = followed_back x xs y ys h.1

low_followed : (otherwise : Bound) (y : Downlink) (ys : List Downlink) → FollowedBy LinkBefore y ys → FollowedBy LinkBefore (record { bound = None; child = y.child }) ys
low_followed otherwise y [] h = tt
low_followed otherwise y (z ∷ zs) h = (low_before z.bound otherwise (bounded y.bound z.bound otherwise h.0), h.1)

low_within : (high : Option Bound) (child : ℕ) → Below high (record { bound = None; child = child })
low_within None child = tt
low_within (Some b) child = refl

below_cut : (cut : Bound) (xs : List Downlink) (y : Downlink) → y.bound ≡ Some cut → AllByRecursion (λ x. LinkBefore x y) xs → AllByRecursion (Below (Some cut)) xs
below_cut cut [] y same h = tt
below_cut cut (x ∷ xs) y same h = (subst (λ b. is_lt (option_cmp bound_cmp x.bound b) ≡ true) same h.0, below_cut cut xs y same h.1)

-- ... the prefix below the cut
pub front_links : (layout : Layout) (high : Option Bound) (xs ys : List Downlink) (cut : Bound) → 0 < length xs → bound_at ys 0 ≡ Some cut
    → AreLinks layout high (xs ++ ys) → AreLinks layout (Some cut) xs
front_links layout high [] ys cut some same h = absurd (omega arith)
front_links layout high (x ∷ xs) [] cut some same h = absurd cc
front_links layout high (x ∷ xs) (y ∷ ys) cut some same h = record {
  valid = AllByRecursion-front (IsDownlink layout) (x ∷ xs) (y ∷ ys) h.valid;
  ascends = followed_front x xs (y ∷ ys) h.ascends;
  within = below_cut cut (x ∷ xs) y same (each_before x xs y ys h.ascends);
}

-- ... and the second with minus infinity for its first bound
pub back_links : (layout : Layout) (high : Option Bound) (xs ys : List Downlink) (otherwise : Bound) → 0 < length xs → 0 < length ys
    → AreLinks layout high (xs ++ ys) → AreLinks layout high (from_low None ys)
back_links layout high [] ys otherwise front back h = absurd (omega arith)
back_links layout high (x ∷ xs) [] otherwise front back h = absurd (omega arith)
back_links layout high (x ∷ xs) (y ∷ ys) otherwise front back h =
    let valid : AllByRecursion (IsDownlink layout) (y ∷ ys) = AllByRecursion-back (IsDownlink layout) (x ∷ xs) (y ∷ ys) h.valid in
    let within : AllByRecursion (Below high) (y ∷ ys) = AllByRecursion-back (Below high) (x ∷ xs) (y ∷ ys) h.within in
    record {
      valid = (record { bound = tt; child = valid.0.child }, valid.1);
      ascends = low_followed otherwise y ys (followed_back x xs y ys h.ascends);
      within = (low_within high y.child, within.1);
    }

pub cut_is : (layout : Layout) (high : Option Bound) (xs ys : List Downlink) (otherwise : Bound) → 0 < length xs → 0 < length ys → AreLinks layout high (xs ++ ys)
    → bound_at ys 0 ≡ Some (unwrap_or (bound_at ys 0) otherwise)
cut_is layout high [] ys otherwise front back h = absurd (omega arith)
cut_is layout high (x ∷ xs) [] otherwise front back h = absurd (omega arith)
cut_is layout high (x ∷ xs) (y ∷ ys) otherwise front back h =
    bounded (lasts x xs).bound y.bound otherwise (last_before x xs y ys h.ascends)
  where
    lasts : Downlink → List Downlink → Downlink
    lasts d [] = d
    lasts d (e ∷ es) = lasts e es

    last_before : (d : Downlink) (xs : List Downlink) (y : Downlink) (ys : List Downlink) → FollowedBy LinkBefore d (xs ++ y ∷ ys) → LinkBefore (lasts d xs) y
    last_before d [] y ys h = h.0
    last_before d (e ∷ es) y ys h = last_before e es y ys h.1

starts_front : (xs ys : List Downlink) → 0 < length xs → StartsLow (xs ++ ys) → StartsLow xs
starts_front [] ys some h = absurd (omega arith)
starts_front (x ∷ xs) ys some h = h

starts_back : (ys : List Downlink) → 0 < length ys → StartsLow (from_low None ys)
starts_back [] some = absurd (omega arith)
starts_back (y ∷ ys) some = refl

pub length_low : (low : Option Bound) (ys : List Downlink) → length (from_low low ys) ≡ length ys
length_low low [] = refl
length_low low (y ∷ ys) = refl

pub link_parts : (node : Node) (q new : ℕ) (cut : Bound) (xs ys : List Downlink) → 0 < length xs → 0 < length ys → bound_at ys 0 ≡ Some cut
    → LinkHalves node q new (xs ++ ys) (left_links node new cut xs) (right_links node q (from_low None ys))
link_parts node q new cut [] ys front back same = absurd (omega arith)
link_parts node q new cut (x ∷ xs) [] front back same = absurd (omega arith)
link_parts node q new cut (x ∷ xs) (y ∷ ys) front back same = record {
  first = x;
  front = xs;
  cut = cut;
  middle = y.child;
  back = ys;
  links_are = ap (λ b. (x ∷ xs) ++ record { bound = b; child = y.child } ∷ ys) same;
  left_is = refl;
  right_is = refl;
}

-- an internal page of the format
pub record IsInner (page : Page) (ds : List Downlink) : Type 0 where
  pub admitted : IsPage page
  pub inner : IsInternal page ds
  pub no_entries : entries_of page.items ≡ []

as_inner : (page : Page) (items : Items) → IsPage page → HasLinks items → page.items ≡ items → IsOfKind page items → IsInner page (links_of items)
as_inner page Meta h inner same kind = absurd inner
as_inner page (Entries v) h inner same kind = absurd inner
as_inner page (Downlinks v) h inner same kind = record { admitted = h; inner = kind; no_entries = ap entries_of same }

pub inner_of : (page : Page) → IsPage page → HasLinks page.items → IsInner page (links_of page.items)
inner_of page h inner = as_inner page page.items h inner refl h.kind

-- the left half of a page, and the right half
abbrev pub left_inner : Page → ℕ → Bound → List Downlink → Page
left_inner page new cut front = record (with_downlinks page front) { split = true; right = Some new; high = Some cut }

abbrev pub right_inner : Page → ℕ → List Downlink → Page
right_inner page new back = record (with_downlinks page back) { block = new; split = false; left = Some page.block }

module _ (page : Page) (ds : List Downlink) (old : IsInner page ds) where
  pub with_is_page : (links : List Downlink) → length links ≤ 50 → StartsLow links → AreLinks page.layout page.high links → IsPage (with_downlinks page links)
  with_is_page links few starts are = record {
    cycle = old.admitted.cycle;
    deletion = old.admitted.deletion;
    left = old.admitted.left;
    right = old.admitted.right;
    high = old.admitted.high;
    kind = record {
      block = old.inner.block;
      level = old.inner.level;
      state = old.inner.state;
      high = old.inner.high;
      split = old.inner.split;
      cycle = old.inner.cycle;
      deletion = old.inner.deletion;
      count = few;
      first = starts;
      links = are;
    };
  }

  pub left_is_page : (new : ℕ) (cut : Bound) (links : List Downlink) → IsBlock new → IsBoundIn page.layout cut → length links ≤ 50 → StartsLow links → AreLinks page.layout (Some cut) links
      → IsPage (left_inner page new cut links)
  left_is_page new cut links block whole few starts are = record {
    cycle = old.admitted.cycle;
    deletion = old.admitted.deletion;
    left = old.admitted.left;
    right = block;
    high = whole;
    kind = record {
      block = old.inner.block;
      level = old.inner.level;
      state = old.inner.state;
      high = search rules;
      split = search rules;
      cycle = old.inner.cycle;
      deletion = old.inner.deletion;
      count = few;
      first = starts;
      links = are;
    };
  }

  pub right_is_page : (new : ℕ) (links : List Downlink) → IsBlock new → length links ≤ 50 → StartsLow links → AreLinks page.layout page.high links → IsPage (right_inner page new links)
  right_is_page new links block few starts are = record {
    cycle = old.admitted.cycle;
    deletion = old.admitted.deletion;
    left = old.inner.block;
    right = old.admitted.right;
    high = old.admitted.high;
    kind = record {
      block = block;
      level = old.inner.level;
      state = old.inner.state;
      high = old.inner.high;
      split = λ e. absurd cc;
      cycle = old.inner.cycle;
      deletion = old.inner.deletion;
      count = few;
      first = starts;
      links = are;
    };
  }

first_whole : (layout : Layout) (ys : List Downlink) (otherwise : Bound) → 0 < length ys → AllByRecursion (IsDownlink layout) ys → bound_at ys 0 ≡ Some (unwrap_or (bound_at ys 0) otherwise)
    → IsBoundIn layout (unwrap_or (bound_at ys 0) otherwise)
first_whole layout [] otherwise some valid same = absurd (omega arith)
first_whole layout (y ∷ ys) otherwise some valid same = subst (λ b. IfSome b (IsBoundIn layout)) same valid.0.bound

module _ (page : Page) (at : ℕ) (separator : Bound) (child : ℕ) (h : IsPage page) (inner : HasLinks page.items) (some : 2 ≤ length (links_of page.items))
    (place : at < length (links_of page.items)) (fits : FitsAfter (links_of page.items) at separator page.high) (whole : IsBoundIn page.layout separator) (to : IsBlock child) where
  -- all the downlinks, how many the left half keeps, and those of the halves
  abbrev pub all : List Downlink
  all = insert (links_of page.items) (suc at) (link_to separator child)

  abbrev pub keep : ℕ
  keep = left_count (length (links_of page.items))

  abbrev pub front : List Downlink
  front = take keep all

  abbrev pub back : List Downlink
  back = drop keep all

  abbrev pub cut : Bound
  cut = unwrap_or (bound_at back 0) separator

  old : IsInner page (links_of page.items)
  old = inner_of page h inner

  count : length all ≡ length (links_of page.items) + 1
  count = length-insert (links_of page.items) (suc at) (link_to separator child) (omega (arith, place))

  both : front ++ back ≡ all
  both = take-append-drop keep all

  are : AreLinks page.layout page.high (front ++ back)
  are = rw both (links_put page.layout page.high (links_of page.items) at separator child place old.inner.links whole to fits)

  starts : StartsLow (front ++ back)
  starts = rw both (starts_put (links_of page.items) at (link_to separator child) old.inner.first)

  pub front_count : length front ≡ keep
  front_count = length-take-le keep all (omega (arith, count))

  pub back_count : length front + length (from_low None back) ≡ length (links_of page.items) + 1
  back_count = rw (length_low None back) (sym (length-append front back) ∙ ap length both ∙ count)

  front_some : 0 < length front
  front_some = omega (arith, front_count)

  back_some : 0 < length back
  back_some = omega (arith, front_count, back_count, length_low None back)

  cut_at : bound_at back 0 ≡ Some cut
  cut_at = cut_is page.layout page.high front back separator front_some back_some are

  cut_whole : IsBoundIn page.layout cut
  cut_whole = first_whole page.layout back separator back_some (AllByRecursion-back (IsDownlink page.layout) front back are.valid) cut_at

  module _ (new : ℕ) (block : IsBlock new) where
    pub left_page : IsPage (left_inner page new cut front)
    left_page = left_is_page page (links_of page.items) old new cut front block cut_whole (omega (arith, front_count, old.inner.count))
        (starts_front front back front_some starts) (front_links page.layout page.high front back cut front_some cut_at are)

    pub right_page : IsPage (right_inner page new (from_low None back))
    right_page = right_is_page page (links_of page.items) old new (from_low None back) block (omega (arith, front_count, back_count, old.inner.count))
        (starts_back back back_some) (back_links page.layout page.high front back separator front_some back_some are)

    pub link_split : LinkSplit (node_of page) page.block new (child_at (links_of page.items) at) child separator
        (node_of (left_inner page new cut front)) (node_of (right_inner page new (from_low None back)))
    link_split =
        let left_is : left_links (node_of page) new cut front ≡ node_of (left_inner page new cut front) =
        ap₂ (λ s es. record (left_links (node_of page) new cut front) { state = s; entries = es }) (sym old.inner.state) old.no_entries in
        let right_is : right_links (node_of page) page.block (from_low None back) ≡ node_of (right_inner page new (from_low None back)) =
        ap₂ (λ s es. record (right_links (node_of page) page.block (from_low None back)) { state = s; entries = es }) (sym old.inner.state) old.no_entries in
        record {
          added = all;
          put = is_added (links_of page.items) at separator child place;
          halves =
              subst (λ r. LinkHalves (node_of page) page.block new all (node_of (left_inner page new cut front)) r) right_is
              (subst (λ l. LinkHalves (node_of page) page.block new all l (right_links (node_of page) page.block (from_low None back))) left_is
              (subst (λ l. LinkHalves (node_of page) page.block new l (left_links (node_of page) new cut front) (right_links (node_of page) page.block (from_low None back))) both
              (link_parts (node_of page) page.block new cut front back front_some back_some cut_at)));
        }
