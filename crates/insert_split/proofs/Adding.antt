-- An insert that adds its entry to the leaf that it holds.
use Rattle.std.proofs.Common.{◌≡◌, ◌≢◌, ℕ, zero, suc, ◌<◌, ◌≤◌, Bool, true, false, true≢false, ◌||◌, ◌==◌, Option, Some, None, Result, Ok, Err, List, [], ◌∷◌, ◌++◌, length, slice_get, refl, sym, ap, subst, inl, inr, ◌∙◌, arith}
use Rattle.index_model.specs.Row.{Row}
use Rattle.index_model.proofs.Ascending.{same_entry-is}
use Rattle.tree_acts.proofs.Uniques.{key_shows}
use Rattle.insert_split.proofs.Imports.{le-leb, cases_Bool, eq-eqb, lt-leb, Add, HasCause, is_among, same_entry, Entry, Fault, Exists, KeyExists, Holding, Table, HasRoom, has_pin, holding_of}
use Rattle.insert_split.proofs.Imports.{nothing_held, latches_exclude, Shared, Exclusive, entries_of, IsPage, Page, Live, pinned_blocks, causes_of_read, with_row, entry_on_live_leaf, State, or_left, or_right}
use Rattle.insert_split.proofs.Imports.{Backing, Continues, after_act, AreActable, Ghosts, entry_aim, is_within, EntryIsPut, KeyMayEnter, FlagsMove, HasTree, LeadsTo, HasCover, putting_lasts}
use Rattle.insert_split.proofs.Imports.{putting_leaves, putting_flags, putting_weighs, live_shows, leaf_shows, IsInOrder, StepEffect, is_incomplete, causes_of_working, HoldsAlone, does_add}
use Rattle.insert_split.proofs.Imports.{one_act, any_excluded, working_later, read_pinned_cause, IfOk, IfErr, OnErr, OnlyTargetsAreIncomplete, is_among_targets, leaf_held, IsLeafFor}
use Rattle.insert_split.proofs.Imports.{InsertInvariant, InsertStands, InsertSteps, IsToCome, blocks_halved, images_at, frames_at, takes_block_at, targets_at, IsLeft, causes_of_inserting}
use Rattle.insert_split.proofs.Imports.{straight_steps, EntryPut, PutsEntry, PlaceRefused, InsertAt, Coming, Holds, InsertOp, InsertStep, Going, Added}
use Rattle.insert_split.proofs.Steps.{runs_no_more, refuses}
use Rattle.insert_split.proofs.Walking.{as_inserting, leaf_items, up_to_within, place_in_use}

-- what holds of an insert that holds its leaf
pub leaf_there : (st : State) (op : InsertOp) (block : ℕ) → op.at ≡ Coming (Holds block) → (fits : InsertInvariant st op)
    → (holding_of st.table op.session ≡ leaf_held block) × IsLeafFor st fits.start op.entry block
leaf_there st op block at_is fits = subst (InsertStands st op.session fits.start op.entry) at_is fits.stands

pub none_added : (op : InsertOp) (block : ℕ) → op.at ≡ Coming (Holds block) → IsToCome op.at op.added → op.added ≡ None
none_added op block at_is h = subst (λ (a : InsertAt). IsToCome a op.added) at_is h

pub no_targets : (op : InsertOp) (block : ℕ) (st : State) → op.at ≡ Coming (Holds block) → OnlyTargetsAreIncomplete st (targets_at op.at) → (b : ℕ) → is_incomplete st b ≡ true → ⊥
no_targets op block st at_is only b incomplete =
    (let k : false ≡ true = subst (λ (a : InsertAt). is_among_targets (targets_at a) b ≡ true) at_is (only b incomplete) in true≢false (sym k))

-- the leaf as it was read
pub same_leaf : (st : State) (start : ℕ) (e : Entry) (block : ℕ) (page : Page) → slice_get st.pages block ≡ Some page → (leaf : IsLeafFor st start e block) → leaf.page ≡ page
same_leaf st start e block page found leaf = (let k : Some leaf.page ≡ Some page = sym leaf.found ∙ found in cc)

pub room_held : (st : State) (session block : ℕ) → holding_of st.table session ≡ leaf_held block → HasRoom st.table session
room_held st session block held = subst (λ (h : Holding). length h.latches < 8) (sym held) (omega arith)

pin_right : (xs ys : List ℕ) (b : ℕ) → has_pin ys b ≡ true → has_pin (xs ++ ys) b ≡ true
pin_right [] ys b h = h
pin_right (x ∷ xs) ys b h = or_right (x == b) (has_pin (xs ++ ys) b) (pin_right xs ys b h)

or_split : (a b c : Bool) → (b ≡ true → c ≡ true) → (a || b) ≡ true → (a || c) ≡ true
or_split true b c f h = refl
or_split false b c f h = f h

pin_left : (xs ys : List ℕ) (b : ℕ) → has_pin xs b ≡ true → has_pin (xs ++ ys) b ≡ true
pin_left [] ys b h = absurd cc
pin_left (x ∷ xs) ys b h = or_split (x == b) (has_pin xs b) (has_pin (xs ++ ys) b) (λ k. pin_left xs ys b k) h

same_block : (b : ℕ) → has_pin (b ∷ []) b ≡ true
same_block b = or_left (b == b) false (eq-eqb b b refl)

-- the leaf that a session holds is pinned
pub pinned_leaf : (table : Table) (session block : ℕ) → holding_of table session ≡ leaf_held block → has_pin (pinned_blocks table) block ≡ true
pinned_leaf [] session block held = absurd (none session held)
  where
    none : (s : ℕ) → holding_of [] s ≡ leaf_held block → ⊥
    none s h = (let k : length (nothing_held.pins) ≡ 1 = ap (λ (x : Holding). length x.pins) h in omega arith)
pinned_leaf (h ∷ table) zero block held = pin_left h.pins (pinned_blocks table) block (subst (λ (x : Holding). has_pin x.pins block ≡ true) (sym held) (same_block block))
pinned_leaf (h ∷ table) (suc session) block held = pin_right h.pins (pinned_blocks table) block (pinned_leaf table session block held)

-- the session holds it alone
pub holds_leaf : (st : State) (session block : ℕ) → holding_of st.table session ≡ leaf_held block → HoldsAlone st.table session block
holds_leaf st session block held = subst (λ (h : Holding). latches_exclude h.latches block Shared ≡ true) (sym held) (own block)
  where
    own : (b : ℕ) → latches_exclude (leaf_held b).latches b Shared ≡ true
    own b = rw (eq-eqb b b refl) refl

-- no other session holds it
pub not_the_leaf : (st : State) (session other block : ℕ) → IsInOrder st → holding_of st.table session ≡ leaf_held block → other ≢ session → HoldsAlone st.table other block → ⊥
not_the_leaf st session other block order held differ alone =
    let mine : HoldsAlone st.table session block = holds_leaf st session block held in
    let free : latches_exclude (holding_of st.table other).latches block Exclusive ≡ false = order.apart session other block (λ same. differ (sym same)) mine in
    true≢false (sym (any_excluded (holding_of st.table other).latches block Exclusive alone) ∙ free)

-- how many images and frames a leaf takes that is full, or isn't, and whether a block
pub full_is : (st : State) (block : ℕ) (page : Page) → slice_get st.pages block ≡ Some page → st.format.items ≤ length (entries_of page.items)
    → (images_at st (Coming (Holds block)) ≡ block ∷ blocks_halved st page.right)
    × (frames_at st (Coming (Holds block)) ≡ length (blocks_halved st page.right)) × (takes_block_at st (Coming (Holds block)) ≡ true)
full_is st block page found le =
    let full = le-leb st.format.items (length (entries_of page.items)) le in
    (rw (found, full) refl, rw (found, full) refl, rw (found, full) refl)

pub roomy_is : (st : State) (block : ℕ) (page : Page) → slice_get st.pages block ≡ Some page → length (entries_of page.items) < st.format.items
    → (images_at st (Coming (Holds block)) ≡ block ∷ []) × (frames_at st (Coming (Holds block)) ≡ 0) × (takes_block_at st (Coming (Holds block)) ≡ false)
roomy_is st block page found lt =
    let roomy = lt-leb st.format.items (length (entries_of page.items)) lt in
    (rw (found, roomy) refl, rw (found, roomy) refl, rw (found, roomy) refl)

pub holding_cause : (st : State) (old new : Backing) (op : InsertOp) (block : ℕ) (images : List ℕ) (frames : ℕ) (takes : Bool) (fault : Fault) → op.at ≡ Coming (Holds block)
    → (images_at st (Coming (Holds block)) ≡ images) × (frames_at st (Coming (Holds block)) ≡ frames) × (takes_block_at st (Coming (Holds block)) ≡ takes)
    → HasCause (causes_of_working st old new op.session images frames takes false) fault → HasCause (causes_of_inserting st old new op.session op.entry op.at) fault
holding_cause st old new op block images frames takes fault at_is counts h =
    subst (λ (a : InsertAt). HasCause (causes_of_inserting st old new op.session op.entry a) fault) (sym at_is)
    (as_inserting st old new op.session op.entry (Coming (Holds block)) (images_at st (Coming (Holds block))) (frames_at st (Coming (Holds block)))
    (takes_block_at st (Coming (Holds block))) false fault refl
    (subst (λ (blocks : List ℕ). HasCause (causes_of_working st old new op.session blocks (frames_at st (Coming (Holds block))) (takes_block_at st (Coming (Holds block))) false) fault) (sym counts.0)
    (subst (λ (n : ℕ). HasCause (causes_of_working st old new op.session images n (takes_block_at st (Coming (Holds block))) false) fault) (sym counts.1)
    (subst (λ (b : Bool). HasCause (causes_of_working st old new op.session images frames b false) fault) (sym counts.2) h))))

-- what the leaf of an entry is, as it was read
pub covers_there : (st : State) (start : ℕ) (e : Entry) (block : ℕ) (page : Page) → HasTree st → page.block ≡ block → slice_get st.pages block ≡ Some page → (leaf : IsLeafFor st start e block)
    → HasCover st 0 (entry_aim e) page.block
covers_there st start e block page tree block_is found leaf =
    let same = same_leaf st start e block page found leaf in
    let there : slice_get st.pages page.block ≡ Some page = subst (λ (b : ℕ). slice_get st.pages b ≡ Some page) (sym block_is) found in
    let place = subst (LeadsTo st start 0 (entry_aim e) true) (sym block_is) leaf.place in
    (live_shows st start 0 (entry_aim e) true page tree there place (subst (λ (p : Page). p.state ≡ Live) same leaf.alive)).covers
    (subst (λ (p : Page). is_within (entry_aim e) p.high ≡ true) same leaf.within)

-- a step that puts the entry
pub puts : {S : Type 0} (g : Ghosts S) (op : InsertOp) (old mid new : S) (block : ℕ) (page : Page) (result : Result InsertStep Fault)
    → Continues g.follows old new → g.state mid ≡ g.state old → (g.backing old).stopped ≡ false → op.at ≡ Coming (Holds block) → page.block ≡ block
    → ((g.backing new).honest ≡ true → slice_get (g.state old).pages block ≡ Some page)
    → (g.backing old).failures ≤ (g.backing mid).failures → ((g.backing mid).stopped ≡ true → (g.backing old).stopped ≡ true) → (g.backing mid).promised ≡ (g.backing old).promised
    → is_among (entries_of page.items) op.entry ≡ false → KeyMayEnter (g.state old) page op.entry → length (entries_of page.items) < (g.state old).format.items
    → IfOk result (PutsEntry page op.entry (g.state mid) (g.state new)) → OnErr result (g.state new ≡ g.state mid)
    → (has_pin (pinned_blocks (g.state mid).table) page.block ≡ true
    → IfErr result (HasCause (causes_of_working (g.state mid) (g.backing mid) (g.backing new) op.session (page.block ∷ []) 0 false false)))
    → InsertSteps g op op old new result
puts g op old mid new block page (Ok Going) steps same alive at_is block_is found le later promised absent alone room told refused cause = absurd told
puts g op old mid new block page (Ok (Added action unfinished)) steps same alive at_is block_is found le later promised absent alone room told refused cause = record {
  steps = steps;
  session = refl;
  entry = refl;
  kept = one_act st (g.state new) (put.after ∷ []) now;
  refused = tt;
  stopped = λ h. runs_no_more (g.backing old).stopped alive h;
  less = λ honest is. absurd cc;
  stepped = λ honest order fits.
      let there = leaf_there st op block at_is fits in
      let leaf = there.1 in
      let same_page = same_leaf st fits.start op.entry block page (found honest) leaf in
      let at_page : slice_get st.pages page.block ≡ Some page = subst (λ (b : ℕ). slice_get st.pages b ≡ Some page) (sym block_is) (found honest) in
      let live : page.state ≡ Live = subst (λ (p : Page). p.state ≡ Live) same_page leaf.alive in
      let is_put : EntryIsPut st fits.start op.entry page put.after = record {
        found = at_page;
        alive = live;
        leaf = subst (λ (p : Page). p.level ≡ 0) same_page leaf.leaf;
        place = subst (LeadsTo st fits.start 0 (entry_aim op.entry) true) (sym block_is) leaf.place;
        within = subst (λ (p : Page). is_within (entry_aim op.entry) p.high ≡ true) same_page leaf.within;
        put = put.put;
        after_is = put.node_is;
        block_is = put.block_is;
        cycle_is = put.cycle_is;
        alone = alone;
        may = subst (λ (s : State). AreActable s.format (length s.pages) (put.after ∷ [])) same put.may;
      } in
      let lasts = putting_lasts st fits.start op.entry page put.after order.tree is_put in
      let moves = putting_flags st fits.start op.entry page put.after order.tree is_put in
      let weighs = putting_weighs st fits.start op.entry page put.after order.tree is_put in
      let was : entry_on_live_leaf st.pages op.entry ≡ false =
      leaf_shows st op.entry page order.tree at_page (covers_there st fits.start op.entry block page order.tree block_is (found honest) leaf) ∙ absent in
      record {
        effect = Some (Add op.entry);
        does = subst (λ (s : State). StepEffect op.session (Some (Add op.entry)) st s) (sym now)
            (does_add st op.session op.entry (put.after ∷ []) st.table order is_put.may lasts.0 lasts.1 (putting_leaves st fits.start op.entry page put.after order.tree is_put) was
            (record { raised = None; leaf = tt; moves = moves; most = omega (arith, weighs) })
            (λ other b differ alone. ((λ is_b. not_the_leaf st op.session other block order there.0 differ (subst (HoldsAlone st.table other) (sym is_b ∙ put.block_is ∙ block_is) alone)), tt))
            order.apart order.holdings (λ other differ. refl));
        noted = (refl, none_added op block at_is fits.to_come, ap Some (put.number ∙ ap (λ (s : State). suc s.acts) same));
        left = subst (λ (u : Option Fault). IsLeft st (g.backing old) (g.state new) (g.backing new) op (Some (Add op.entry)) u) (sym told.0)
            (λ only b. whole only moves b);
      };
  straight = λ honest order fits whole_pages on room. (subst (λ (a : InsertAt). straight_steps st.pages a ≡ 1) (sym at_is) refl, told.0);
}
  where
    st : State
    st = g.state old

    put : EntryPut page op.entry (g.state mid) (g.state new) action
    put = told.1

    now : g.state new ≡ after_act (put.after ∷ []) st
    now = put.state ∙ ap (after_act (put.after ∷ [])) same

    whole : OnlyTargetsAreIncomplete st (targets_at op.at) → FlagsMove None None st (after_act (put.after ∷ []) st) → (b : ℕ) → is_incomplete (g.state new) b ≡ false
    whole only moves b =
        elim (cases_Bool (is_incomplete st b)) [
          | inl incomplete ↦ absurd (no_targets op block st at_is only b incomplete)
          | inr clear ↦ ap (λ (s : State). is_incomplete s b) now ∙ moves b ∙ clear
        ]
puts g op old mid new block page (Err fault) steps same alive at_is block_is found le later promised absent alone room told refused cause =
    refuses g op old new fault steps (refused ∙ same) alive
    (λ honest order fits.
    let there = leaf_there st op block at_is fits in
    let pin : has_pin (pinned_blocks (g.state mid).table) page.block ≡ true =
    subst (λ (s : State). has_pin (pinned_blocks s.table) page.block ≡ true) (sym same)
    (subst (λ (b : ℕ). has_pin (pinned_blocks st.table) b ≡ true) (sym block_is) (pinned_leaf st.table op.session block there.0)) in
    holding_cause st (g.backing old) (g.backing new) op block (block ∷ []) 0 false fault at_is (roomy_is st block page (found honest) room)
    (working_later st (g.backing old) (g.backing mid) (g.backing new) op.session (block ∷ []) 0 false false fault le later promised
    (subst (λ (b : ℕ). HasCause (causes_of_working st (g.backing mid) (g.backing new) op.session (b ∷ []) 0 false false) fault) block_is
    (subst (λ (s : State). HasCause (causes_of_working s (g.backing mid) (g.backing new) op.session (page.block ∷ []) 0 false false) fault) same (cause pin)))))
  where
    st : State
    st = g.state old

-- why the leaf isn't read
pub reads_leaf : (st : State) (old new : Backing) (op : InsertOp) (block : ℕ) (fault : Fault) → new.honest ≡ true → IsInOrder st → op.at ≡ Coming (Holds block) → InsertInvariant st op
    → HasCause (causes_of_read st old new block) fault → HasCause (causes_of_inserting st old new op.session op.entry op.at) fault
reads_leaf st old new op block fault honest order at_is fits h =
    let there = leaf_there st op block at_is fits in
    let used = place_in_use st order.tree fits.start 0 (entry_aim op.entry) true block there.1.place in
    holding_cause st old new op block (images_at st (Coming (Holds block))) (frames_at st (Coming (Holds block))) (takes_block_at st (Coming (Holds block))) fault at_is (refl, refl, refl)
    (read_pinned_cause st old new op.session (images_at st (Coming (Holds block))) (frames_at st (Coming (Holds block)))
    (takes_block_at st (Coming (Holds block))) false block fault honest used.1 (pinned_leaf st.table op.session block there.0) h)

-- the entry of another row of its key is another entry
apart_rows : (e : Entry) (r : Row) → r ≢ e.row → same_entry (with_row e r) e ≡ false
apart_rows e r differ = elim (cases_Bool (same_entry (with_row e r) e)) [
  | inl is ↦ absurd (differ (ap (λ (x : Entry). x.row) (same_entry-is (with_row e r) e is)))
  | inr is ↦ is
]

-- why the leaf gives no place: the entry is there, or on a unique index one of its key
pub no_place : (st : State) (old new : Backing) (op : InsertOp) (block : ℕ) (page : Page) (fault : Fault) → IsInOrder st → op.at ≡ Coming (Holds block) → InsertInvariant st op
    → slice_get st.pages block ≡ Some page → page.block ≡ block → IsPage page → PlaceRefused page op.entry st.format.unique fault
    → HasCause (causes_of_inserting st old new op.session op.entry op.at) fault
no_place st old new op block page fault order at_is fits found block_is admitted (inl damaged) =
    let there = leaf_there st op block at_is fits in
    let leaf = there.1 in
    let same_page = same_leaf st fits.start op.entry block page found leaf in
    let used = place_in_use st order.tree fits.start 0 (entry_aim op.entry) true block leaf.place in
    absurd (damaged.1 (record {
      leaf = leaf_items page admitted (subst (λ (p : Page). p.level ≡ 0) same_page leaf.leaf) (subst (λ (b : ℕ). 0 < b) (sym block_is) used.0);
      alive = subst (λ (p : Page). p.state ≡ Live) same_page leaf.alive;
      whole = subst (λ (p : Page). p.split ≡ false) same_page leaf.whole;
      within = up_to_within page.high op.entry (subst (λ (p : Page). is_within (entry_aim op.entry) p.high ≡ true) same_page leaf.within);
    }))
no_place st old new op block page fault order at_is fits found block_is admitted (inr (inl exists)) =
    let there = leaf_there st op block at_is fits in
    let at_page : slice_get st.pages page.block ≡ Some page = subst (λ (b : ℕ). slice_get st.pages b ≡ Some page) (sym block_is) found in
    let is_there : entry_on_live_leaf st.pages op.entry ≡ true =
    leaf_shows st op.entry page order.tree at_page (covers_there st fits.start op.entry block page order.tree block_is found there.1) ∙ exists.1 in
    subst (HasCause (causes_of_inserting st old new op.session op.entry op.at)) (sym exists.0)
    (subst (λ (a : InsertAt). HasCause (causes_of_inserting st old new op.session op.entry a) Exists) (sym at_is) is_there)
no_place st old new op block page fault order at_is fits found block_is admitted (inr (inr key)) =
    let there = leaf_there st op block at_is fits in
    let at_page : slice_get st.pages page.block ≡ Some page = subst (λ (b : ℕ). slice_get st.pages b ≡ Some page) (sym block_is) found in
    let x : Entry = record { key = op.entry.key; row = key.row } in
    let is_there : entry_on_live_leaf st.pages x ≡ true =
    key_shows st op.entry x page order.tree key.asked at_page (covers_there st fits.start op.entry block page order.tree block_is found there.1) refl ∙ key.there in
    subst (HasCause (causes_of_inserting st old new op.session op.entry op.at)) (sym key.is)
    (subst (λ (a : InsertAt). HasCause (causes_of_inserting st old new op.session op.entry a) (KeyExists key.row)) (sym at_is)
    (rw key.asked (rw (apart_rows op.entry key.row (key.other admitted)) is_there)))
