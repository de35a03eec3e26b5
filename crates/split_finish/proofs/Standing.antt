-- Where a call stands, in a tree.
use Rattle.std.proofs.Common.{◌≡◌, ◌⊎◌, ℕ, zero, suc, ◌<◌, ◌≤◌, Bool, true, false, true≢false, Option, Some, None, List, [], ◌∷◌, ◌++◌, length, slice_get, refl, sym, ap, subst, inl, inr, ◌∙◌, arith, length-append}
use Rattle.page_codec.proofs.Again.{slot_widens}
use Rattle.index_model.specs.declared.entry.Entry.{Entry}
use Rattle.tree_acts.proofs.Lasting.{fresh_free}
use Rattle.tree_acts.specs.Ways.{RootIsThere}
use Rattle.split_finish.proofs.Imports.{Bound, Page, IsPage, IsOfKind, IsLeafIn, IsBlock, IsBoundIn, Two, Items, Meta, Entries, Downlinks, PageState, Live, HalfDead, Deleted, IsSome, IfSome}
use Rattle.split_finish.proofs.Imports.{State, Holding, HasRoom, holding_of, nothing_held, stored_page, IsMetaOf, Node, bound_aim, IsFresh, node_there, HasTree, LeadsTo, IsIncompleteSplit, false≢true}
use Rattle.split_finish.proofs.Imports.{metapage_shows, live_shows, high_key_shows, trail_begins_here, IsOnDescent, position_from, Position, targets_of, IsTarget, FinishStands, FinishInvariant, Popped}
use Rattle.split_finish.proofs.Imports.{Pushed, Retaken, FinishAt, Down, FinishOp, Going, Target, slice_get_within}

-- the metapage that is read is the tree's
pub meta_same : (st : State) (start level : ℕ) (aim : Bound → Bool) (clear : Bool) (block : ℕ) (meta : Page) → LeadsTo st start level aim clear block
    → slice_get st.pages 0 ≡ Some meta → level ≤ meta.level
meta_same st start level aim clear block meta place found =
    let same : place.tree.meta ≡ meta = (let k : Some place.tree.meta ≡ Some meta = sym place.tree.meta_at ∙ found in cc) in
    subst (λ (m : Page). level ≤ m.level) same place.in_tree

-- the same targets, and another step
pub fits_moved : (st : State) (op : FinishOp) (at : FinishAt) (fits : FinishInvariant st op) → FinishStands st fits.start op.target at → FinishInvariant st (record op { at = at })
fits_moved st op at fits stands = record {
  session = fits.session;
  free = fits.free;
  start = fits.start;
  running = fits.running;
  newest = fits.newest;
  below = fits.below;
  stands = stands;
}

-- from the metapage to the root
pub starts_down : (st : State) (start : ℕ) (target : Target) (meta : Page) (position : Position) → HasTree st → slice_get st.pages 0 ≡ Some meta → target.level < meta.level
    → ((root : ℕ) → IsMetaOf meta root meta.level → Some position ≡ Some (position_from root meta.level)) → FinishStands st start target (Down position)
starts_down st start target meta position h found lower named =
    by (metapage_shows st start (bound_aim target.separator) true meta h found)
  where
    by : RootIsThere st start (bound_aim target.separator) true meta → FinishStands st start target (Down position)
    by r =
        let same : position_from r.root meta.level ≡ position = (let k = named r.root r.names in cc) in
        subst (IsOnDescent st start (bound_aim target.separator) true (suc target.level)) same (record {
          not_below = omega arith;
          place = r.place;
          trail = trail_begins_here st start meta.level (bound_aim target.separator) true r.root h r.place;
        })

-- an item of a list and one more
get_last : (xs : List Target) (y : Target) (i : ℕ) (t : Target) → slice_get (xs ++ y ∷ []) i ≡ Some t → (slice_get xs i ≡ Some t) ⊎ ((i ≡ length xs) × (y ≡ t))
get_last [] y zero t h = inr (refl, (let k : y ≡ t = cc in k))
get_last [] y (suc i) t h = absurd cc
get_last (x ∷ xs) y zero t h = inl h
get_last (x ∷ xs) y (suc i) t h =
    elim (get_last xs y i t h) [
      | inl k ↦ inl k
      | inr k ↦ inr (ap suc k.0, k.1)
    ]

pub get_at_end : (xs : List Target) (y : Target) → slice_get (xs ++ y ∷ []) (length xs) ≡ Some y
get_at_end [] y = refl
get_at_end (x ∷ xs) y = get_at_end xs y

pub get_before : (xs : List Target) (y : Target) (i : ℕ) (t : Target) → slice_get xs i ≡ Some t → slice_get (xs ++ y ∷ []) i ≡ Some t
get_before [] y i t h = absurd cc
get_before (x ∷ xs) y zero t h = h
get_before (x ∷ xs) y (suc i) t h = get_before xs y i t h

-- each of the targets is one, the newest too
pub each_target : (st : State) (op : FinishOp) (fits : FinishInvariant st op) (i : ℕ) (t : Target) → slice_get (targets_of op) i ≡ Some t → IsTarget st fits.start i t
each_target st op fits i t h =
    elim (get_last op.below.items op.target i t h) [
      | inl k ↦ fits.below i t k
      | inr k ↦ subst (λ (n : ℕ). IsTarget st fits.start n t) (sym k.0) (subst (IsTarget st fits.start (length op.below.items)) k.1 fits.newest)
    ]

-- a page with an incomplete split with a high key, on the way, as a newer target
pub rises_to : (st : State) (op after : FinishOp) (position : Position) (page : Page) (separator : Bound) → HasTree st → (fits : FinishInvariant st op)
    → Pushed (record { block = position.block; level = position.level; separator = separator }) op after → FinishStands st fits.start op.target (Down position)
    → slice_get st.pages position.block ≡ Some page → page.state ≡ Live → page.high ≡ Some separator → FinishInvariant st after
rises_to st op after position page separator h fits pushed on found alive high =
    let there : page.block ≡ position.block = (stored_page st.format position.block st.pages page h.stored found).block_is in
    let found_there : slice_get st.pages page.block ≡ Some page = subst (λ (b : ℕ). slice_get st.pages b ≡ Some page) (sym there) found in
    let place_there = subst (LeadsTo st fits.start position.level (bound_aim op.target.separator) true) (sym there) on.place in
    let newer : Target = record { block = position.block; level = position.level; separator = separator } in
    let place : LeadsTo st fits.start position.level (bound_aim separator) true position.block =
    subst (LeadsTo st fits.start position.level (bound_aim separator) true) there
    (high_key_shows st fits.start position.level (bound_aim op.target.separator) true page separator h found_there place_there alive high) in
    let count : length after.below.items ≡ suc (length op.below.items) = ap length pushed.below_is ∙ length-append op.below.items (op.target ∷ []) ∙ omega arith in
    record {
      session = subst (λ (s : ℕ). s < 64) (sym pushed.session) fits.session;
      free = rw pushed.session fits.free;
      start = fits.start;
      running = rw pushed.session fits.running;
      newest = subst (IsTarget st fits.start (length after.below.items)) (sym pushed.target_is) (record {
        high_enough = (let a = fits.newest.high_enough in let b = on.not_below in omega arith);
        place = place;
      });
      below = λ i t is. each_target st op fits i t (subst (λ (xs : List Target). slice_get xs i ≡ Some t) pushed.below_is is);
      stands = subst (FinishStands st fits.start after.target) (sym pushed.at_is) tt;
    }

-- a live page that is a place is on its level
pub live_level : (st : State) (start level : ℕ) (aim : Bound → Bool) (clear : Bool) (block : ℕ) (page : Page) → HasTree st
    → LeadsTo st start level aim clear block → slice_get st.pages block ≡ Some page
    → page.state ≡ Live → page.level ≡ level
live_level st start level aim clear block page h place found alive =
    let there : page.block ≡ block = (stored_page st.format block st.pages page h.stored found).block_is in
    (live_shows st start level aim clear page h (subst (λ (b : ℕ). slice_get st.pages b ≡ Some page) (sym there) found) (subst (LeadsTo st start level aim clear) (sym there) place) alive).level_is

some_none : {A : Type 0} (x : Option A) → IsSome x → x ≡ None → ⊥
some_none None h is = cc
some_none (Some x) h is = cc

-- a page with an incomplete split has a high key, by the format, and is live
pub incomplete_has : (page : Page) → IsPage page → page.split ≡ true → (page.high ≡ None → ⊥) × (page.state ≡ Live) × (page.right ≡ None → ⊥)
incomplete_has page admitted incomplete = by page.items refl admitted.kind
  where
    leaf : (es : List Entry) (state : PageState) → page.state ≡ state → IsLeafIn state page es → (page.high ≡ None → ⊥) × (page.state ≡ Live) × (page.right ≡ None → ⊥)
    leaf es Live is h = ((λ none. some_none page.high (h.high.1 (h.split incomplete)) none), is, (λ none. some_none page.right (h.split incomplete) none))
    leaf es HalfDead is h = absurd (false≢true (sym h.split ∙ incomplete))
    leaf es Deleted is h = absurd (false≢true (sym h.split ∙ incomplete))

    by : (items : Items) → page.items ≡ items → IsOfKind page items → (page.high ≡ None → ⊥) × (page.state ≡ Live) × (page.right ≡ None → ⊥)
    by Meta is h = absurd (false≢true (sym h.split ∙ incomplete))
    by (Entries v) is h = leaf v.items page.state refl h.rest
    by (Downlinks v) is h = ((λ none. some_none page.high (h.high.1 (h.split incomplete)) none), h.state, (λ none. some_none page.right (h.split incomplete) none))

pub incomplete_in : (st : State) (block : ℕ) (page : Page) → HasTree st → slice_get st.pages block ≡ Some page → page.split ≡ true → (page.high ≡ None → ⊥) × (page.state ≡ Live) × (page.right ≡ None → ⊥)
incomplete_in st block page h found = incomplete_has page (stored_page st.format block st.pages page h.stored found).storable.admitted

-- in a tree a page that is not both live and with an incomplete split has no incomplete split
pub not_incomplete : (st : State) (block : ℕ) (page : Page) → HasTree st → slice_get st.pages block ≡ Some page → (page.state ≡ Live → page.split ≡ false) → page.split ≡ false
not_incomplete st block page h found whole = by page.split refl
  where
    by : (b : Bool) → page.split ≡ b → page.split ≡ false
    by false is = is
    by true is = absurd (true≢false (sym is ∙ whole (incomplete_in st block page h found is).1))

-- after the newest target the ones below it are left
pub fits_popped : (st : State) (before after : FinishOp) (start : ℕ) → Popped before after Going → before.session < 64 → holding_of st.table before.session ≡ nothing_held
    → slice_get st.running before.session ≡ Some (Some start) → ((i : ℕ) (t : Target) → slice_get before.below.items i ≡ Some t → IsTarget st start i t) → FinishInvariant st after
fits_popped st before after start popped session free running below = record {
  session = subst (λ (s : ℕ). s < 64) (sym popped.session) session;
  free = rw popped.session free;
  start = start;
  running = rw popped.session running;
  newest = below (length after.below.items) after.target (rw popped.list_is (get_at_end after.below.items after.target));
  below = λ i t is. below i t (rw popped.list_is (get_before after.below.items after.target i t is));
  stands = subst (FinishStands st start after.target) (sym popped.at_is) tt;
}

-- the newest target as its page is now
pub fits_retaken : (st : State) (op after : FinishOp) (separator : Bound) (at : FinishAt) (page : Page) → HasTree st → (fits : FinishInvariant st op) → Retaken separator at op after
    → slice_get st.pages op.target.block ≡ Some page → page.state ≡ Live → page.high ≡ Some separator → FinishStands st fits.start after.target at → FinishInvariant st after
fits_retaken st op after separator at page h fits taken found alive high stands =
    let there : page.block ≡ op.target.block = (stored_page st.format op.target.block st.pages page h.stored found).block_is in
    let found_there : slice_get st.pages page.block ≡ Some page = subst (λ (b : ℕ). slice_get st.pages b ≡ Some page) (sym there) found in
    let place_there = subst (LeadsTo st fits.start op.target.level (bound_aim op.target.separator) true) (sym there) fits.newest.place in
    let place : LeadsTo st fits.start op.target.level (bound_aim separator) true op.target.block =
    subst (LeadsTo st fits.start op.target.level (bound_aim separator) true) there
    (high_key_shows st fits.start op.target.level (bound_aim op.target.separator) true page separator h found_there place_there alive high) in
    record {
      session = subst (λ (s : ℕ). s < 64) (sym taken.session) fits.session;
      free = rw taken.session fits.free;
      start = fits.start;
      running = rw taken.session fits.running;
      newest = rw (taken.target_is, taken.below_is) (record { high_enough = fits.newest.high_enough; place = place });
      below = λ i t is. fits.below i t (subst (λ (v : _). slice_get v.items i ≡ Some t) taken.below_is is);
      stands = subst (FinishStands st fits.start after.target) (sym taken.at_is) stands;
    }

-- the split of a page with an incomplete split that is a place is to be finished
pub record ToFinish (st : State) (start level : ℕ) (page : Page) : Type 0 where
  pub separator : Bound
  pub new : ℕ
  pub is : IsIncompleteSplit st start level separator page new

some_is : {A : Type 0} (x : Option A) → (x ≡ None → ⊥) → (a : A) × (x ≡ Some a)
some_is None h = absurd (h refl)
some_is (Some a) h = (a, refl)

pub to_finish : (st : State) (start level : ℕ) (aim : Bound → Bool) (block : ℕ) (page : Page) → HasTree st → LeadsTo st start level aim true block
    → slice_get st.pages block ≡ Some page → page.split ≡ true
    → ToFinish st start level page
to_finish st start level aim block page h place found incomplete =
    let has = incomplete_in st block page h found incomplete in
    let high = some_is page.high has.0 in
    let right = some_is page.right has.2 in
    let there : page.block ≡ block = (stored_page st.format block st.pages page h.stored found).block_is in
    let found_there : slice_get st.pages page.block ≡ Some page = subst (λ (b : ℕ). slice_get st.pages b ≡ Some page) (sym there) found in
    record {
      separator = high.0;
      new = right.0;
      is = record {
        found = found_there;
        place = high_key_shows st start level aim true page high.0 h found_there (subst (LeadsTo st start level aim true) (sym there) place) has.1 high.1;
        incomplete = incomplete;
        high_is = high.1;
        right_is = right.1;
      };
    }

-- there is a metapage
pub meta_inside : (st : State) → HasTree st → 0 < length st.pages
meta_inside st h = slice_get_within st.pages 0 h.tree.meta h.tree.meta_at

-- a session that holds nothing may latch a page
pub has_room : (st : State) (op : FinishOp) → FinishInvariant st op → HasRoom st.table op.session
has_room st op fits = subst (λ (held : Holding). length held.latches < 8) (sym fits.free) (omega arith)

-- a page with an incomplete split isn't the metapage, by the format
pub incomplete_block : (page : Page) → IsPage page → page.split ≡ true → IsBlock page.block
incomplete_block page admitted incomplete = by page.items refl admitted.kind
  where
    by : (items : Items) → page.items ≡ items → IsOfKind page items → IsBlock page.block
    by Meta is h = absurd (false≢true (sym h.split ∙ incomplete))
    by (Entries v) is h = h.block
    by (Downlinks v) is h = h.block

if_some : {A : Type 0} (P : A → Type 0) (x : Option A) (a : A) → IfSome x P → x ≡ Some a → P a
if_some P None a h is = absurd cc
if_some P (Some b) a h is = subst P (let k : b ≡ a = cc in k) h

pub right_block : (page : Page) (new : ℕ) → IsPage page → page.right ≡ Some new → IsBlock new
right_block page new admitted is = if_some IsBlock page.right new admitted.right is

-- the high key of a page of either layout is a bound of the second
pub high_bound : (page : Page) (high : Bound) → IsPage page → page.high ≡ Some high → IsBoundIn Two high
high_bound page high admitted is = if_some (IsBoundIn Two) page.high high (slot_widens page.layout page.high admitted.high) is

-- a fresh block isn't that of a live page
pub fresh_not_live : (st : State) (fresh block : ℕ) (page : Page) → HasTree st → IsFresh st fresh → slice_get st.pages block ≡ Some page → page.state ≡ Live → block ≡ fresh → ⊥
fresh_not_live st fresh block page h new found alive same =
    let free = fresh_free st fresh h new in
    let gone = free.not_in_use (subst (λ (b : ℕ). b < length st.pages) same (slice_get_within st.pages block page found)) in
    live_deleted (sym alive ∙ sym (ap (λ (n : Node). n.state) (node_there st.pages fresh page (subst (λ (b : ℕ). slice_get st.pages b ≡ Some page) same found))) ∙ gone)
  where
    live_deleted : Live ≡ Deleted → ⊥
    live_deleted e = cc
