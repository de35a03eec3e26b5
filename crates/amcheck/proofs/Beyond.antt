-- Whether an entry or a bound of a page of the format isn't beyond its low: the first entry and the second
-- bound tell.
use Rattle.std.proofs.Common.{◌≡◌, ◌≢◌, ◌⊎◌, ℕ, ◌<◌, inl, inr, Bool, true, false, Option, Some, None, List, [], ◌∷◌, length, slice_get, refl, sym, ap, subst, ◌∙◌, arith}
use Rattle.index_model.specs.Order.{bound_of}
use Rattle.index_model.specs.declared.entry.Entry.{Entry}
use Rattle.page_codec.specs.Edits.{entries_of}
use Rattle.damages.specs.Lows.{IsFirstBeyond, IsSecondBeyond, IsBoundBeyond}
use Rattle.damages.proofs.Items.{entries_within, links_within}
use Rattle.damages.proofs.TreesSound.{entry_beyond, link_beyond}
use Rattle.amcheck.proofs.Imports.{Contains, AllByRecursion, Bound, IsPage, IsOfKind, IsLeafIn, LinkBefore, Ascends, StartsLow, Below, Downlink, Items, Meta, Entries, Downlinks, Page, PageState}
use Rattle.amcheck.proofs.Imports.{Live, HalfDead, Deleted, links_of, node_of, LeftContext, Rises, IsBeyond, LinksWithin, HasNotBeyond, no_link, bool_so, IsNoneOrBeyond, IsSketch, second_bound}
use Rattle.amcheck.proofs.Imports.{least_bound, HasWrongItem, IsWrong, IsLeastNumber, IsWrongSketch, Sketch}
use Rattle.amcheck.proofs.Imports.{half_dead_after, linked_wrongly, still_there, too_low, too_much, wrong_item, wrong_keys}

pub first_not : (low : Option Bound) (es : List Entry) → (IsFirstBeyond low es → ⊥) → (e : Entry) × Contains es e × (IsBeyond low (bound_of e) → ⊥)
first_not low [] h = absurd (h tt)
first_not low (e ∷ es) h = (e, (0, omega arith, refl), h)

some_bound : (i j : Downlink) → LinkBefore i j → (b : Bound) × (j.bound ≡ Some b)
some_bound i j before = go i.bound j.bound before refl
  where
    go : (a b : Option Bound) → LinkBefore (record { bound = a; child = 0 }) (record { bound = b; child = 0 }) → j.bound ≡ b → (c : Bound) × (j.bound ≡ Some c)
    go a (Some x) before e = (x, e)
    go None None before e = absurd cc
    go (Some y) None before e = absurd cc

second_not : (low : Option Bound) (ds : List Downlink) → Ascends LinkBefore ds → (IsSecondBeyond low ds → ⊥)
    → (item : ℕ) × (link : Downlink) × (bound : Bound) × (0 < item) × (slice_get ds item ≡ Some link) × (link.bound ≡ Some bound) × (IsBeyond low bound → ⊥)
second_not low [] up h = absurd (h tt)
second_not low (i ∷ []) up h = absurd (h tt)
second_not low (i ∷ j ∷ js) up h =
    let b = some_bound i j up.0 in
    (1, j, b.0, omega arith, refl, b.1, λ beyond. h (subst (IsBoundBeyond low) (sym b.1) beyond))

pub links_ascend : (page : Page) → IsPage page → Ascends LinkBefore (links_of page.items)
links_ascend page admitted = by page.items admitted.kind
  where
    by : (items : Items) → IsOfKind page items → Ascends LinkBefore (links_of items)
    by Meta k = tt
    by (Entries v) k = tt
    by (Downlinks v) k = k.links.ascends

pub second_tells : (low : Option Bound) (page : Page) → IsPage page → (IsSecondBeyond low (links_of page.items) → ⊥) → HasNotBeyond low (node_of page)
second_tells low page admitted h = inr (second_not low (links_of page.items) (links_ascend page admitted) h)

-- if both are beyond the low, all are
pub all_beyond : (low : Option Bound) (page : Page) → IsPage page → IsFirstBeyond low (entries_of page.items) → IsSecondBeyond low (links_of page.items) → HasNotBeyond low (node_of page) → ⊥
all_beyond low page admitted first second has = by page.items admitted.kind first second has
  where
    links : (ds : List Downlink) → StartsLow ds → Ascends LinkBefore ds → AllByRecursion (Below page.high) ds → IsSecondBeyond low ds → LinksWithin low ds page.high
    links [] start up below second = absurd start
    links (d ∷ ds) start up below second = links_within low d ds page.high start up below.1 second

    no_entry : (e : Entry) → Contains [] e → ⊥
    no_entry e c = (let lt = c.1 in absurd (omega arith))

    by : (items : Items) → IsOfKind page items → IsFirstBeyond low (entries_of items) → IsSecondBeyond low (links_of items)
        → ((e : Entry) × Contains (entries_of items) e × (IsBeyond low (bound_of e) → ⊥))
        ⊎ ((item : ℕ) × (link : Downlink) × (bound : Bound) × (0 < item) × (slice_get (links_of items) item ≡ Some link) × (link.bound ≡ Some bound) × (IsBeyond low bound → ⊥)) → ⊥
    by Meta k first second (inl e) = no_entry e.0 e.1
    by Meta k first second (inr i) = no_link i.4
    by (Downlinks v) k first second (inl e) = no_entry e.0 e.1
    by (Downlinks v) k first second (inr i) = i.6 (link_beyond low v.items page.high i.0 i.1 i.2 (links v.items k.first k.links.ascends k.links.within second) i.3 i.4 i.5)
    by (Entries v) k first second (inr i) = no_link i.4
    by (Entries v) k first second (inl e) = state page.state k.rest
      where
        none' : v.items ≡ [] → ⊥
        none' is = (let lt = e.1.1 in let size = ap length is in absurd (omega (arith, lt, size)))

        state : (s : PageState) → IsLeafIn s page v.items → ⊥
        state Live r = e.2 (entry_beyond low v.items page.high e.1.0 e.0 (entries_within low v.items page.high r.entries.ascends r.entries.within first) e.1.1 e.1.2)
        state HalfDead r = none' r.entries
        state Deleted r = none' r.entries

pub wrong_first : (low : Option Bound) (page : Page) → (IsFirstBeyond low (entries_of page.items) → ⊥) → HasWrongItem low (node_of page)
wrong_first low page h = record { is = inl (first_not low (entries_of page.items) h) }

-- the least of them tells
second_from : (low : Option Bound) (ds : List Downlink) → IsSecondBeyond low ds → IsNoneOrBeyond low (second_bound ds)
second_from low [] h = tt
second_from low (i ∷ []) h = tt
second_from low (i ∷ j ∷ js) h = go j.bound h
  where
    go : (o : Option Bound) → IsBoundBeyond low o → IsNoneOrBeyond low o
    go None k = tt
    go (Some b) k = k

second_back : (low : Option Bound) (ds : List Downlink) → Ascends LinkBefore ds → IsNoneOrBeyond low (second_bound ds) → IsSecondBeyond low ds
second_back low [] up h = tt
second_back low (i ∷ []) up h = tt
second_back low (i ∷ j ∷ js) up h =
    let b = some_bound i j up.0 in
    subst (IsBoundBeyond low) (sym b.1) (subst (IsNoneOrBeyond low) b.1 h)

pub least_wrong : (low : Option Bound) (page : Page) → IsPage page → (IsNoneOrBeyond low (least_bound (entries_of page.items) (links_of page.items)) → ⊥) → HasWrongItem low (node_of page)
least_wrong low page admitted h = by (entries_of page.items) refl
  where
    by : (es : List Entry) → entries_of page.items ≡ es → HasWrongItem low (node_of page)
    by [] is = record {
      is = second_tells low page admitted
          (λ second. h (subst (λ (es : List Entry). IsNoneOrBeyond low (least_bound es (links_of page.items))) (sym is) (second_from low (links_of page.items) second)));
    }
    by (e ∷ es) is = wrong_first low page
        (λ first. h (subst (λ (es : List Entry). IsNoneOrBeyond low (least_bound es (links_of page.items))) (sym is) (subst (IsFirstBeyond low) is first)))

pub least_right : (low : Option Bound) (page : Page) → IsPage page → IsNoneOrBeyond low (least_bound (entries_of page.items) (links_of page.items)) → HasWrongItem low (node_of page) → ⊥
least_right low page admitted h wrong = (let both = by page.items (links_ascend page admitted) h in all_beyond low page admitted both.0 both.1 wrong.is)
  where
    first_one : (es : List Entry) → IsNoneOrBeyond low (least_bound es []) → IsFirstBeyond low es
    first_one [] h = tt
    first_one (e ∷ es) h = h

    by : (items : Items) → Ascends LinkBefore (links_of items) → IsNoneOrBeyond low (least_bound (entries_of items) (links_of items))
        → IsFirstBeyond low (entries_of items) × IsSecondBeyond low (links_of items)
    by Meta up h = (tt, tt)
    by (Entries v) up h = (first_one v.items h, tt)
    by (Downlinks v) up h = (tt, second_back low v.items up h)

not_both : (b : Bool) → b ≡ true → b ≡ false → ⊥
not_both true e f = cc
not_both false e f = cc

-- what is wrong as the sketch tells is wrong, and the other way round
module _ (keys : Bool) (page : Page) (sketch : Sketch) (root : Option ℕ) (s : LeftContext) (block : ℕ) (admitted : IsPage page) (is : IsSketch (node_of page) sketch) where
  pub wrong_to : (n : ℕ) → IsWrongSketch keys sketch root s block n → IsWrong keys (node_of page) root s block n
  wrong_to n (linked_wrongly k differs) = linked_wrongly k (λ e. differs (is.left ∙ e))
  wrong_to n (still_there k deleted) = still_there k (sym is.state ∙ deleted)
  wrong_to n (too_low k live low) = too_low k (sym is.state ∙ live) (λ rises. low (subst (Rises s.low) (sym is.high) rises))
  wrong_to n (wrong_item k wrong) = wrong_item k (least_wrong s.low page admitted (λ beyond. wrong (subst (IsNoneOrBeyond s.low) (sym is.least) beyond)))
  wrong_to n (too_much k much) = too_much k much
  wrong_to n (half_dead_after k dead after) = half_dead_after k (sym is.state ∙ dead) after
  wrong_to n (wrong_keys k seen shared) = wrong_keys k seen (λ unique. not_both sketch.unique (is.unique.1 unique) shared)

  pub wrong_from : (n : ℕ) → IsWrong keys (node_of page) root s block n → IsWrongSketch keys sketch root s block n
  wrong_from n (linked_wrongly k differs) = linked_wrongly k (λ e. differs (sym is.left ∙ e))
  wrong_from n (still_there k deleted) = still_there k (is.state ∙ deleted)
  wrong_from n (too_low k live low) = too_low k (is.state ∙ live) (λ rises. low (subst (Rises s.low) is.high rises))
  wrong_from n (wrong_item k wrong) = wrong_item k (λ beyond. least_right s.low page admitted (subst (IsNoneOrBeyond s.low) is.least beyond) wrong)
  wrong_from n (too_much k much) = too_much k much
  wrong_from n (half_dead_after k dead after) = half_dead_after k (is.state ∙ dead) after
  wrong_from n (wrong_keys k seen shared) = wrong_keys k seen (bool_so sketch.unique (λ unique. shared (is.unique.0 unique)))

  pub least_told : (o : Option ℕ) → IsLeastNumber (IsWrongSketch keys sketch root s block) o → IsLeastNumber (IsWrong keys (node_of page) root s block) o
  least_told None least = λ n w. least n (wrong_from n w)
  least_told (Some n) least = (wrong_to n least.0, λ m lt w. least.1 m lt (wrong_from m w))

pub least_six : (keys : Bool) (sketch : Sketch) (root : Option ℕ) (s : LeftContext) (block : ℕ) → ((sketch.left ≢ s.left) → ⊥) → (sketch.state ≡ Deleted → ⊥)
    → ((sketch.state ≡ Live) × (Rises s.low sketch.high → ⊥) → ⊥)
    → (IsNoneOrBeyond s.low sketch.least → ⊥) → IsLeastNumber (IsWrongSketch keys sketch root s block) (Some 6)
least_six keys sketch root s block linked stands rises wrong = (wrong_item refl wrong, less)
  where
    less : (m : ℕ) → m < 6 → IsWrongSketch keys sketch root s block m → ⊥
    less m lt (linked_wrongly k differs) = linked differs
    less m lt (still_there k deleted) = stands deleted
    less m lt (too_low k live low) = rises (live, low)
    less m lt (wrong_item k wrong') = omega (arith, k, lt)
    less m lt (too_much k much) = omega (arith, k, lt)
    less m lt (half_dead_after k dead after) = omega (arith, k, lt)
    less m lt (wrong_keys k seen shared) = omega (arith, k, lt)
