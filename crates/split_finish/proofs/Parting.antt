-- A full parent is split.
use Rattle.std.proofs.Common.{◌≡◌, ◌≢◌, ℕ, suc, ◌+◌, ◌<◌, ◌≤◌, ◌&&◌, ◌==◌, not, Bool, true, false, true≢false, Option, Some, None, Ok, List, [], ◌∷◌, ◌++◌, length, slice_get, refl, sym, ap, subst, inl, inr, ◌∙◌, arith, eq-eqb}
use Rattle.tree_acts.specs.Acts.IsMended.{rightmost, neighbour}
use Rattle.tree_shape.specs.Halves.{left_count}
use Rattle.split_finish.proofs.Standing.{incomplete_has}
use Rattle.descent.proofs.Mended.{fresh_apart, RightMay, right_may}
use Rattle.split_finish.proofs.Imports.{cases_eq, and_parts, eqb-true, ne_eqb, Shape, Bound, is_held_by_another, Exclusive, IsBlock, IsPage, count_of, Page, Live, Deleted, IsFresh, State, not-true, or_right}
use Rattle.split_finish.proofs.Imports.{Continues, after_act, IsWritable, IsApartFrom, AreActable, Ghosts, Two, writable, LinkSplit, HasLinks, Node, node_of, links_of, is_live, bound_aim, same_Some, slice_get_within}
use Rattle.split_finish.proofs.Imports.{is_within, bound_falls, ParentIsSplit, IsMended, IsClear, FlagsMove, flag_after, LeadsTo, IsStart, parent_split_lasts, parent_edit, parent_split_leaves}
use Rattle.split_finish.proofs.Imports.{parent_split_flags, parent_split_weighs, pages_first, node_there, IsOnDescent, high_key_shows, neighbour_shows, IsInOrder, StepEffect}
use Rattle.split_finish.proofs.Imports.{is_incomplete, RightIsMendable, RightIsStored, RightIsFound, mended_to, Position, AreFree, does_finish, one_act, IsReadToChange, FinishActs, halves_and}
use Rattle.split_finish.proofs.Imports.{targets_of, is_among_targets, OnlyTargetsAreIncomplete, IsTarget, FinishStands, FinishInvariant, is_ready, IsReadyToLink, Start, Link, FinishOp, Going}
use Rattle.split_finish.proofs.Imports.{Target}
use Rattle.split_finish.proofs.InPlace.{links_count}
use Rattle.split_finish.proofs.Linking.{live_is}
use Rattle.split_finish.proofs.Turning.{among_more, among_fewer}

-- what a parent is that is ready
pub record ReadyParent (page : Page) (level : ℕ) (separator : Bound) : Type 0 where
  pub alive : page.state ≡ Live
  pub whole : page.split ≡ false
  pub level_is : page.level ≡ level
  pub within : is_within (bound_aim separator) page.high ≡ true

pub ready_parent : (page : Page) (level : ℕ) (separator : Bound) → is_ready (node_of page) level separator ≡ true → ReadyParent page level separator
ready_parent page level separator h =
    let c = and_parts (is_live page.state && not page.split && (page.level == level)) (is_within (bound_aim separator) page.high) h in
    let b = and_parts (is_live page.state && not page.split) (page.level == level) c.0 in
    let a = and_parts (is_live page.state) (not page.split) b.0 in
    record {
      alive = live_is page.state a.0;
      whole = not-true page.split a.1;
      level_is = eqb-true page.level level b.1;
      within = c.1;
    }

-- the page to the right, with its left link mended
pub mends_right : (st : State) (session new : ℕ) (link : Option ℕ) (right : Option Page) → RightIsStored st session link right → RightIsFound st link right → IsMended st new link (mended_to new right)
mends_right st session new None None stored found = rightmost
mends_right st session new None (Some page) stored found = absurd stored
mends_right st session new (Some r) None stored found = absurd stored
mends_right st session new (Some r) (Some page) stored found = neighbour page (record page { layout = Two; left = Some new }) found stored.0.block_is refl

free_beside : (st : State) (session new : ℕ) (link : Option ℕ) (right : Option Page) (rest : List Page) → RightIsStored st session link right
    → AreFree st session rest → AreFree st session (mended_to new right ++ rest)
free_beside st session new None None rest stored free = free
free_beside st session new None (Some page) rest stored free = absurd stored
free_beside st session new (Some r) None rest stored free = absurd stored
free_beside st session new (Some r) (Some page) rest stored free =
    (subst (λ (b : ℕ). is_held_by_another st.table session b Exclusive ≡ false) (sym stored.0.block_is) stored.2, free)

among_end : (ts : List Target) (t : Target) (b : ℕ) → t.block ≡ b → is_among_targets (ts ++ t ∷ []) b ≡ true
among_end [] t b is = rw (eq-eqb t.block b is) refl
among_end (x ∷ ts) t b is = or_right (x.block == b) (is_among_targets (ts ++ t ∷ []) b) (among_end ts t b is)

raised_block : (q p b : ℕ) (was : Bool) → b ≢ q → flag_after (Some q) (Some p) b was ≡ true → (b ≢ p) × (was ≡ true)
raised_block q p b was not_q h = elim (cases_eq b p) [
  | inl is_p ↦ absurd (true≢false (sym h ∙ rw (ne_eqb b q not_q, eq-eqb b p is_p) refl))
  | inr not_p ↦ (not_p, sym (rw (ne_eqb b q not_q, ne_eqb b p not_p) refl) ∙ h)
]

-- the parts of an act that splits a parent
pub record PartsParent (st : State) (honest : Bool) (session : ℕ) (op : FinishOp) (position : Position) (page parent left half clear : Page) (right : Option Page) (new : ℕ) : Type 0 where
  pub read : IsReadToChange st honest session op.target.block page
  pub read_parent : IsReadToChange st honest session position.block parent
  pub ready : IsReadyToLink page parent op op
  pub right_is : page.right ≡ Some new
  pub split : LinkSplit (node_of parent) parent.block half.block page.block new op.target.separator (node_of left) (node_of half)
  pub left_layout : left.layout ≡ Two
  pub half_layout : half.layout ≡ Two
  pub left_block : left.block ≡ parent.block
  pub fresh : IsFresh st half.block
  pub free : is_held_by_another st.table session half.block Exclusive ≡ false
  pub right_stored : RightIsStored st session parent.right right
  pub right_found : honest ≡ true → RightIsFound st parent.right right
  pub clears : IsClear page clear

-- the act that splits the parent, in a tree
pub parent_split : (st : State) (session : ℕ) (op : FinishOp) (position : Position) (page parent left half clear : Page) (right : Option Page) (new : ℕ)
    (order : IsInOrder st) (fits : FinishInvariant st op) → op.at ≡ Link position
    → PartsParent st true session op position page parent left half clear right new → AreActable st.format (length st.pages) (halves_and left half right clear)
    → ParentIsSplit st fits.start op.target.level op.target.separator page parent clear left half (mended_to half.block right) new
parent_split st session op position page parent left half clear right new order fits at_is h may =
    let ready = ready_parent parent (suc op.target.level) op.target.separator h.ready.ready in
    let stands = subst (FinishStands st fits.start op.target) at_is fits.stands in
    let at_page : page.block ≡ op.target.block = h.read.stored.block_is in
    let at_parent : parent.block ≡ position.block = h.read_parent.stored.block_is in
    record {
      unfinished = record {
        found = subst (λ (b : ℕ). slice_get st.pages b ≡ Some page) (sym at_page) (h.read.found refl);
        place = subst (LeadsTo st fits.start op.target.level (bound_aim op.target.separator) true) (sym at_page) fits.newest.place;
        incomplete = h.ready.incomplete;
        high_is = h.ready.high_is;
        right_is = h.right_is;
      };
      found = subst (λ (b : ℕ). slice_get st.pages b ≡ Some parent) (sym at_parent) (h.read_parent.found refl);
      place = subst (LeadsTo st fits.start (suc op.target.level) (bound_aim op.target.separator) true) (sym at_parent)
          (subst (λ (l : ℕ). LeadsTo st fits.start l (bound_aim op.target.separator) true position.block) stands.0 stands.1.place);
      alive = ready.alive;
      whole = ready.whole;
      links = h.split.added;
      added = h.split.put;
      halves = h.split.halves;
      left_block = h.left_block;
      fresh = h.fresh;
      mends = mends_right st session half.block parent.right right h.right_stored (h.right_found refl);
      clear = h.clears;
      may = may;
    }

-- the act is done
pub parts : {S : Type 0} (g : Ghosts S) (before after : FinishOp) (old new : S) (position : Position) (page parent left half clear : Page) (right : Option Page) (new_block : ℕ) (target : Target)
    → Continues g.follows old new → before.at ≡ Link position → ((g.backing new).honest ≡ true → (g.backing old).honest ≡ true)
    → PartsParent (g.state old) (g.backing old).honest before.session before position page parent left half clear right new_block
    → AreActable (g.state old).format (length (g.state old).pages) (halves_and left half right clear)
    → g.state new ≡ after_act (halves_and left half right clear) (g.state old)
    → after ≡ record before { target = target; at = Start } → target.block ≡ left.block → target.level ≡ left.level → left.high ≡ Some target.separator
    → FinishActs g before after old new (Ok Going)
parts g before after old new position page parent left half clear right new_block target steps at_is honest_before h may now after_is t_block t_level t_high = record {
  steps = steps;
  session = ap (λ (o : FinishOp). o.session) after_is;
  kept = one_act st (g.state new) changed now;
  table = ap (λ (s : State). s.table) now;
  refused = tt;
  less = λ honest is acts. absurd (let k : suc st.acts ≡ st.acts = sym (ap (λ (s : State). s.acts) now) ∙ acts in omega arith);
  over = λ honest is. absurd cc;
  stepped = λ honest order fits.
      let here : PartsParent st true before.session before position page parent left half clear right new_block =
      subst (λ (b : Bool). PartsParent st b before.session before position page parent left half clear right new_block) (honest_before honest) h in
      let split = parent_split st before.session before position page parent left half clear right new_block order fits at_is here may in
      let level = before.target.level in
      let s = before.target.separator in
      let mended = mended_to half.block right in
      let lasts = parent_split_lasts st fits.start level s page parent clear left half mended new_block order.tree split in
      let moves = parent_split_flags st fits.start level s page parent clear left half mended new_block order.tree split in
      let weighs = parent_split_weighs st fits.start level s page parent clear left half mended new_block order.tree split in
      let edit = parent_edit st fits.start level s page parent clear left half mended new_block order.tree split in
      let added_to : State = after_act changed st in
      let left_there : slice_get added_to.pages parent.block ≡ Some left = subst (λ (b : ℕ). slice_get added_to.pages b ≡ Some left) h.left_block
      (pages_first st.format (length st.pages) st.pages left (half ∷ mended ++ clear ∷ []) may (omega arith)) in
      let left_live : left.state ≡ Live = ap (λ (n : Node). n.state) h.split.halves.left_is in
      let left_level : left.level ≡ suc level = ap (λ (n : Node). n.level) h.split.halves.left_is ∙ (ready_parent parent (suc level) s h.ready.ready).level_is in
      let start : IsStart st.running fits.start = record { session = before.session; is = fits.running } in
      let place : LeadsTo added_to fits.start (suc level) (bound_aim s) true parent.block = lasts.0.places fits.start (suc level) (bound_aim s) true parent.block start (bound_falls s) split.place in
      let left_found : slice_get added_to.pages left.block ≡ Some left = subst (λ (b : ℕ). slice_get added_to.pages b ≡ Some left) (sym h.left_block) left_there in
      let high : LeadsTo added_to fits.start (suc level) (bound_aim target.separator) true left.block =
      high_key_shows added_to fits.start (suc level) (bound_aim s) true left target.separator lasts.0.has left_found
      (subst (LeadsTo added_to fits.start (suc level) (bound_aim s) true) (sym h.left_block) place) left_live t_high in
      let newest : IsTarget added_to fits.start (length before.below.items) target = record {
        high_enough = (let a = fits.newest.high_enough in let b = t_level ∙ left_level in omega arith);
        place = subst (λ (b : ℕ). LeadsTo added_to fits.start target.level (bound_aim target.separator) true b) (sym t_block)
            (subst (λ (l : ℕ). LeadsTo added_to fits.start l (bound_aim target.separator) true left.block) (sym (t_level ∙ left_level)) high);
      } in
      record {
        effect = Some Shape;
        shapes = inr refl;
        does = subst (λ (x : State). StepEffect before.session (Some Shape) st x) (sym now)
            (does_finish st before.session changed order may lasts.0 lasts.1
            (parent_split_leaves st fits.start level s page parent clear left half mended new_block order.tree split)
            (record {
              cleared = page.block;
              was = ap (λ (n : Node). n.split) (node_there st.pages page.block page split.unfinished.found) ∙ split.unfinished.incomplete;
              raised = Some parent.block;
              higher = (
                ap (λ (n : Node). n.split) (node_there st.pages parent.block parent split.found) ∙ split.whole,
                ap (λ (n : Node). n.level) edit.halves.left_is ∙ edit.parent_level ∙ ap suc (sym (ap (λ (n : Node). n.level) edit.cleared_is)),
              );
              moves = moves;
              less = weighs;
            }) (
              subst (λ (b : ℕ). is_held_by_another st.table before.session b Exclusive ≡ false) (sym (h.left_block ∙ h.read_parent.stored.block_is)) h.read_parent.free,
              (
                h.free,
                free_beside st before.session half.block parent.right right (clear ∷ []) h.right_stored
                    (subst (λ (b : ℕ). is_held_by_another st.table before.session b Exclusive ≡ false) (sym (h.clears.block_is ∙ h.read.stored.block_is)) h.read.free, tt),
              ),
            ));
        table = ap (λ (x : State). x.table) now;
        fits = subst (λ (x : State). FinishInvariant x after) (sym now) (subst (FinishInvariant added_to) (sym after_is) (record {
          session = fits.session;
          free = fits.free;
          start = fits.start;
          running = fits.running;
          newest = newest;
          below = λ i t is. record {
            high_enough = (fits.below i t is).high_enough;
            place = lasts.0.places fits.start t.level (bound_aim t.separator) true t.block start (bound_falls t.separator) (fits.below i t is).place;
          };
          stands = tt;
        }));
        flags = λ only. subst (λ (x : State). OnlyTargetsAreIncomplete x (targets_of after)) (sym now) (subst (λ (o : FinishOp). OnlyTargetsAreIncomplete added_to (targets_of o)) (sym after_is)
            (λ b incomplete. only_targets only moves b incomplete));
      };
}
  where
    st : State
    st = g.state old

    changed : List Page
    changed = halves_and left half right clear

    only_targets : OnlyTargetsAreIncomplete st (targets_of before) → FlagsMove (Some parent.block) (Some page.block) st (after_act changed st) → (b : ℕ) → is_incomplete (after_act changed st) b ≡ true
        → is_among_targets (before.below.items ++ target ∷ []) b ≡ true
    only_targets only moves b incomplete = elim (cases_eq b parent.block) [
      | inl is_q ↦ among_end before.below.items target b (t_block ∙ h.left_block ∙ sym is_q)
      | inr not_q ↦ (
          let was = raised_block parent.block page.block b (is_incomplete st b) not_q (sym (moves b) ∙ incomplete) in
          among_more before.below.items (target ∷ []) b
          (among_fewer before.below.items before.target b (only b was.1) (λ same. was.0 (sym same ∙ sym h.read.stored.block_is))))
    ]

apart_append : (b : ℕ) (xs : List Page) (page : Page) → IsApartFrom b xs → page.block ≢ b → IsApartFrom b (xs ++ page ∷ [])
apart_append b [] page h ne = (ne, tt)
apart_append b (x ∷ xs) page h ne = (h.0, apart_append b xs page h.1 ne)

-- the page to the right, and the page whose split is finished
beside_may : (st : State) (session new : ℕ) (link : Option ℕ) (right : Option Page) (clear : Page) → RightIsStored st session link right
    → AreActable st.format (length st.pages) (mended_to new right) → IsWritable st.format clear → clear.block ≤ length st.pages → clear.block < st.format.pages → link ≢ Some clear.block
    → AreActable st.format (length st.pages) (mended_to new right ++ clear ∷ [])
beside_may st session new None None clear stored may storable low inside differ = (storable, (low, inside), tt, tt)
beside_may st session new None (Some page) clear stored may storable low inside differ = absurd stored
beside_may st session new (Some r) None clear stored may storable low inside differ = absurd stored
beside_may st session new (Some r) (Some page) clear stored may storable low inside differ =
    (may.0, may.1, ((λ same. differ (ap Some (sym stored.0.block_is ∙ sym same))), tt), (storable, (low, inside), tt, tt))

-- the pages of the act may be written
pub parts_may : (st : State) (session : ℕ) (op : FinishOp) (position : Position) (page parent left half clear : Page) (right : Option Page) (new : ℕ)
    (order : IsInOrder st) (fits : FinishInvariant st op) → op.at ≡ Link position
    → PartsParent st true session op position page parent left half clear right new → length st.pages ≤ st.format.pages
    → IsPage left → IsPage half → HasLinks left.items → HasLinks half.items → HasLinks parent.items → 4 ≤ length (links_of parent.items)
    → length (links_of left.items) ≡ left_count (length (links_of parent.items)) → length (links_of left.items) + length (links_of half.items) ≡ length (links_of parent.items) + 1
    → IsBlock half.block → IsPage clear → count_of clear.items ≤ st.format.items → RightIsMendable st parent.right → parent.right ≢ Some parent.block → parent.right ≢ Some page.block
    → AreActable st.format (length st.pages) (halves_and left half right clear)
parts_may st session op position page parent left half clear right new order fits at_is h few left_page half_page left_links half_links parent_links some
    kept moved block clear_page clear_few mendable apart_q apart_p =
    let ready = ready_parent parent (suc op.target.level) op.target.separator h.ready.ready in
    let at_page : page.block ≡ op.target.block = h.read.stored.block_is in
    let at_parent : parent.block ≡ position.block = h.read_parent.stored.block_is in
    let found : slice_get st.pages page.block ≡ Some page = subst (λ (b : ℕ). slice_get st.pages b ≡ Some page) (sym at_page) (h.read.found refl) in
    let found_parent : slice_get st.pages parent.block ≡ Some parent = subst (λ (b : ℕ). slice_get st.pages b ≡ Some parent) (sym at_parent) (h.read_parent.found refl) in
    let used : page.block < length st.pages = slice_get_within st.pages page.block page found in
    let used_parent : parent.block < length st.pages = slice_get_within st.pages parent.block parent found_parent in
    let alive = (incomplete_has page h.read.stored.storable.admitted h.ready.incomplete).1 in
    let beside : RightMay st parent.block half.block right = right_may st session parent.block half.block parent.right right few h.fresh block mendable apart_q h.right_stored in
    let clear_is : clear.block ≡ page.block = h.clears.block_is in
    let levels : page.block ≢ parent.block = λ same. two_levels (subst (λ (b : ℕ). slice_get st.pages b ≡ Some parent) (sym same) found_parent) found ready.level_is h.ready.level_is in
    let all : length (links_of parent.items) ≤ st.format.items = subst (λ (n : ℕ). n ≤ st.format.items) (links_count parent.items parent_links) h.read_parent.stored.storable.few in
    let not_new : page.block ≢ half.block = fresh_apart st half.block page.block page h.fresh found (λ gone. live_not_deleted (sym alive ∙ gone)) in
    let not_new_parent : parent.block ≢ half.block = fresh_apart st half.block parent.block parent h.fresh found_parent (λ gone. live_not_deleted (sym ready.alive ∙ gone)) in (
      writable st.format left h.left_layout left_page (subst (λ (n : ℕ). n ≤ st.format.items) (sym (links_count left.items left_links)) (omega (arith, kept, all, some))),
      (subst (λ (b : ℕ). b ≤ length st.pages) (sym h.left_block) (omega (arith, used_parent)), subst (λ (b : ℕ). b < st.format.pages) (sym h.left_block) (omega (arith, used_parent, few))),
      (
        (λ same. not_new_parent (sym h.left_block ∙ sym same)),
        subst (λ (b : ℕ). IsApartFrom b (mended_to half.block right ++ clear ∷ [])) (sym h.left_block)
            (apart_append parent.block (mended_to half.block right) clear beside.apart (λ same. levels (sym clear_is ∙ same))),
      ),
      (
        writable st.format half h.half_layout half_page (subst (λ (n : ℕ). n ≤ st.format.items) (sym (links_count half.items half_links)) (omega (arith, kept, moved, all, some))),
        (h.fresh.within, h.fresh.inside),
        apart_append half.block (mended_to half.block right) clear beside.apart_new (λ same. not_new (sym clear_is ∙ same)),
        beside_may st session half.block parent.right right clear h.right_stored beside.may (writable st.format clear (ap (λ (p : Page). p.layout) h.clears.only) clear_page clear_few)
            (subst (λ (b : ℕ). b ≤ length st.pages) (sym clear_is) (omega (arith, used))) (subst (λ (b : ℕ). b < st.format.pages) (sym clear_is) (omega (arith, used, few)))
            (λ same. apart_p (same ∙ ap Some clear_is)),
      ),
    )
  where
    live_not_deleted : Live ≡ Deleted → ⊥
    live_not_deleted e = cc

    two_levels : slice_get st.pages page.block ≡ Some parent → slice_get st.pages page.block ≡ Some page → parent.level ≡ suc op.target.level → page.level ≡ op.target.level → ⊥
    two_levels one two up down =
        let same : parent ≡ page = (let k : Some parent ≡ Some page = sym one ∙ two in cc) in
        let levels : suc op.target.level ≡ op.target.level = sym up ∙ ap (λ (x : Page). x.level) same ∙ down in omega arith

-- what the parent's right link leads to
pub record BesideParent (st : State) (page parent : Page) : Type 0 where
  pub mendable : RightIsMendable st parent.right
  pub apart_parent : parent.right ≢ Some parent.block
  pub apart_page : parent.right ≢ Some page.block

pub beside_parent : (st : State) (session : ℕ) (honest : Bool) (op : FinishOp) (position : Position) (page parent : Page) (order : IsInOrder st) (fits : FinishInvariant st op) → op.at ≡ Link position → honest ≡ true
    → IsReadToChange st honest session op.target.block page → IsReadToChange st honest session position.block parent → IsReadyToLink page parent op op → BesideParent st page parent
beside_parent st session honest op position page parent order fits at_is kept_model read read_parent ready_to =
    by parent.right refl
  where
    ready : ReadyParent parent (suc op.target.level) op.target.separator
    ready = ready_parent parent (suc op.target.level) op.target.separator ready_to.ready

    found : slice_get st.pages page.block ≡ Some page
    found = subst (λ (b : ℕ). slice_get st.pages b ≡ Some page) (sym read.stored.block_is) (read.found kept_model)

    found_parent : slice_get st.pages parent.block ≡ Some parent
    found_parent = subst (λ (b : ℕ). slice_get st.pages b ≡ Some parent) (sym read_parent.stored.block_is) (read_parent.found kept_model)

    stands : (position.level ≡ suc op.target.level) × IsOnDescent st fits.start (bound_aim op.target.separator) true (suc op.target.level) position
    stands = subst (FinishStands st fits.start op.target) at_is fits.stands

    place : LeadsTo st fits.start (suc op.target.level) (bound_aim op.target.separator) true parent.block
    place = subst (LeadsTo st fits.start (suc op.target.level) (bound_aim op.target.separator) true) (sym read_parent.stored.block_is)
        (subst (λ (l : ℕ). LeadsTo st fits.start l (bound_aim op.target.separator) true position.block) stands.0 stands.1.place)

    none_some : (b : ℕ) → None ≡ Some b → ⊥
    none_some b k = cc

    by : (link : Option ℕ) → parent.right ≡ link → BesideParent st page parent
    by None is = record {
      mendable = subst (RightIsMendable st) (sym is) tt;
      apart_parent = λ k. none_some parent.block (sym is ∙ k);
      apart_page = λ k. none_some page.block (sym is ∙ k);
    }
    by (Some r) is =
        let n = neighbour_shows st fits.start (suc op.target.level) (bound_aim op.target.separator) true parent r order.tree found_parent place ready.alive is in
        record {
          mendable = subst (RightIsMendable st) (sym is) (record { page = n.page; found = n.found; mends = n.mends });
          apart_parent = λ k. n.apart (same_Some r parent.block (sym is ∙ k));
          apart_page = λ k.
              let same : n.page ≡ page = (let e : Some n.page ≡ Some page = sym n.found ∙ ap (slice_get st.pages) (same_Some r page.block (sym is ∙ k)) ∙ found in cc) in
              let levels : suc op.target.level ≡ op.target.level = sym n.level_is ∙ ap (λ (x : Page). x.level) same ∙ ready_to.level_is in omega arith;
        }

-- the split as it is made: of the parent that has a downlink to the page
pub split_as_read : (parent : Page) (fresh child page new : ℕ) (separator : Bound) (left half : Page) → child ≡ page → half.block ≡ fresh
    → LinkSplit (node_of parent) parent.block fresh child new separator (node_of left) (node_of half)
    → LinkSplit (node_of parent) parent.block half.block page new separator (node_of left) (node_of half)
split_as_read parent fresh child page new separator left half leads is_new h =
    subst (λ (b : ℕ). LinkSplit (node_of parent) parent.block b page new separator (node_of left) (node_of half)) (sym is_new)
    (subst (λ (c : ℕ). LinkSplit (node_of parent) parent.block fresh c new separator (node_of left) (node_of half)) leads h)
