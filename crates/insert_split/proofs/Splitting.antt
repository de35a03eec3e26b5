-- An insert that splits its leaf.
use Rattle.std.proofs.Common.{◌≡◌, ◌≢◌, ℕ, suc, ◌<◌, ◌≤◌, Bool, true, false, true≢false, ◌||◌, Option, Some, None, Result, Ok, Err, List, [], ◌∷◌, length, slice_get, refl, sym, ap, subst, inl, inr, ◌∙◌, arith}
use Rattle.split_finish.proofs.Parting.{mends_right}
use Rattle.insert_split.proofs.Adding.{leaf_there, none_added, no_targets, same_leaf, room_held, pinned_leaf, not_the_leaf, full_is, holding_cause, covers_there}
use Rattle.insert_split.proofs.Meeting.{one_target_fits, read_at}
use Rattle.insert_split.proofs.Imports.{cases_eq, eq-eqb, ne_eqb, IfOk, IfErr, OnOk, OnErr, Add, HasCause, is_among, Bound, Fault, Two, Holding, Table, latches_exclude, HasRoom, has_pin}
use Rattle.insert_split.proofs.Imports.{holding_of, nothing_held, released, unpinned, without_latch, without_pin, is_held_by_another, Shared, Exclusive, length-released, length-unpinned}
use Rattle.insert_split.proofs.Imports.{holding_of-released, holding_of-unpinned, holding_of-released_other, holding_of-unpinned_other, entries_of, Page, Live, pinned_blocks, entry_on_live_leaf}
use Rattle.insert_split.proofs.Imports.{State, Continues, with_table, after_act, IsStored, IsApartFrom, AreActable, Ghosts, Node, entry_aim, is_within, LeafIsSplit, KeyMayEnter, FlagsMove}
use Rattle.insert_split.proofs.Imports.{flag_after, HasTree, LeadsTo, leaf_split_lasts, leaf_split_leaves, leaf_split_flags, leaf_split_weighs, pages_first, leaf_shows, neighbour_shows}
use Rattle.insert_split.proofs.Imports.{StepEffect, is_incomplete, level_in, causes_of_working, RightIsMendable, RightIsStored, RightIsFound, mended_to, HoldsAlone, AreApart, does_add}
use Rattle.insert_split.proofs.Imports.{one_act_else, apart_from_held, working_later, OnlyTargetsAreIncomplete, is_among_targets, targets_of, FinishOp, Target, leaf_held, blocks_halved}
use Rattle.insert_split.proofs.Imports.{InsertInvariant, InsertSteps, targets_at, IsSplittable, SplitsLeaf, InsertAt, Coming, Holds, InsertOp, InsertStep, Going, Added, bound_falls, bound_of}
use Rattle.insert_split.proofs.Imports.{IsFresh}
use Rattle.insert_split.proofs.Steps.{refuses, runs_no_more}

or_true : {a : Bool} → a ≡ true → (a || false) ≡ true
or_true h = rw h refl

-- the leaf is let go
abbrev pub let_go : Table → ℕ → ℕ → Table
let_go table session block = unpinned (released table session block) session block

let_go_leaf : (b : ℕ) → (let h : Holding = record { latches = without_latch (leaf_held b).latches b; pins = without_pin (leaf_held b).pins b } in h) ≡ nothing_held
let_go_leaf b = rw (eq-eqb b b refl) refl

pub none_held : (table : Table) (session block : ℕ) → session < length table → holding_of table session ≡ leaf_held block → holding_of (let_go table session block) session ≡ nothing_held
none_held table session block low held =
    let mid : session < length (released table session block) = (let l = length-released table session block in omega arith) in
    holding_of-unpinned (released table session block) session block mid
    ∙ ap (λ (h : Holding). let k : Holding = record { latches = h.latches; pins = without_pin h.pins block } in k)
    (holding_of-released table session block low ∙ ap (λ (h : Holding). let k : Holding = record { latches = without_latch h.latches block; pins = h.pins } in k) held)
    ∙ let_go_leaf block

pub others_held : (table : Table) (session block other : ℕ) → other ≢ session → holding_of (let_go table session block) other ≡ holding_of table other
others_held table session block other differ = holding_of-unpinned_other (released table session block) session other block differ ∙ holding_of-released_other table session other block differ

pub many_held : (table : Table) (session block : ℕ) → length (let_go table session block) ≡ length table
many_held table session block = length-unpinned (released table session block) session block ∙ length-released table session block

pub apart_let_go : (table table' : Table) (session : ℕ) → AreApart table → holding_of table' session ≡ nothing_held
    → ((other : ℕ) → other ≢ session → holding_of table' other ≡ holding_of table other) → AreApart table'
apart_let_go table table' session apart none kept one two block differ alone =
    elim (cases_eq one session) [
      | inl is_one ↦ absurd (true≢false (sym alone ∙ ap (λ (h : Holding). latches_exclude h.latches block Shared) (ap (holding_of table') is_one ∙ none)))
      | inr not_one ↦ (
          let was : HoldsAlone table one block = sym (ap (λ (h : Holding). latches_exclude h.latches block Shared) (kept one not_one)) ∙ alone in
          elim (cases_eq two session) [
            | inl is_two ↦ ap (λ (h : Holding). latches_exclude h.latches block Exclusive) (ap (holding_of table') is_two ∙ none)
            | inr not_two ↦ ap (λ (h : Holding). latches_exclude h.latches block Exclusive) (kept two not_two) ∙ apart one two block differ was
          ])
    ]

-- no other session holds it
pub right_free : (st : State) (session new other block : ℕ) (link : Option ℕ) (right : Option Page) → other ≢ session
    → HoldsAlone st.table other block → RightIsStored st session link right → IsApartFrom block (mended_to new right)
right_free st session new other block None None differ alone stored = tt
right_free st session new other block None (Some page) differ alone stored = absurd stored
right_free st session new other block (Some r) None differ alone stored = absurd stored
right_free st session new other block (Some r) (Some page) differ alone stored =
    apart_from_held st session other block (record page { layout = Two; left = Some new } ∷ []) differ alone
    (subst (λ (b : ℕ). is_held_by_another st.table session b Exclusive ≡ false) (sym stored.0.block_is) stored.2, tt)

one_among : (op : FinishOp) (target : Target) (b : ℕ) → op.below.items ≡ [] → op.target ≡ target → target.block ≡ b → is_among_targets (targets_of op) b ≡ true
one_among op target b below is block = rw (below, is, block) (or_true (eq-eqb b b refl))

flag_other : (b c : ℕ) (was : Bool) → b ≢ c → flag_after (Some c) None b was ≡ was
flag_other b c was differ = rw (ne_eqb b c differ) refl

-- a step that splits the leaf
pub splits : {S : Type 0} (g : Ghosts S) (before after : InsertOp) (old mid new : S) (block : ℕ) (page : Page) (result : Result InsertStep Fault)
    → Continues g.follows old new → g.state mid ≡ g.state old → (g.backing old).stopped ≡ false → before.at ≡ Coming (Holds block) → page.block ≡ block
    → ((g.backing new).honest ≡ true → slice_get (g.state old).pages block ≡ Some page) → IsStored (g.state old).format page.block page → length (g.state old).pages ≤ (g.state old).format.pages
    → (g.backing old).failures ≤ (g.backing mid).failures → ((g.backing mid).stopped ≡ true → (g.backing old).stopped ≡ true) → (g.backing mid).promised ≡ (g.backing old).promised
    → is_among (entries_of page.items) before.entry ≡ false → KeyMayEnter (g.state old) page before.entry → (g.state old).format.items ≤ length (entries_of page.items)
    → IfOk result (λ step. step ≡ Going) → OnOk result (SplitsLeaf (g.backing new).honest page before after (g.state mid) (g.state new))
    → OnErr result (g.state new ≡ g.state mid) → OnErr result (after ≡ before)
    → ((g.backing new).honest ≡ true → HasRoom (g.state mid).table before.session → IsSplittable (g.state mid) page → has_pin (pinned_blocks (g.state mid).table) page.block ≡ true
    → IfErr result (HasCause
    (causes_of_working (g.state mid) (g.backing mid) (g.backing new) before.session (page.block ∷ blocks_halved (g.state mid) page.right)
    (length (blocks_halved (g.state mid) page.right)) true false)))
    → InsertSteps g before after old new result
splits g before after old mid new block page (Ok Going) steps same alive at_is block_is found stored few le later promised absent alone full going told refused kept cause = record {
  steps = steps;
  session = ap (λ (o : InsertOp). o.session) h.finishes.after_is;
  entry = ap (λ (o : InsertOp). o.entry) h.finishes.after_is;
  kept = one_act_else st (g.state new) changed table now;
  refused = tt;
  stopped = λ halted. runs_no_more (g.backing old).stopped alive halted;
  less = λ honest is acts. absurd (let k : suc st.acts ≡ st.acts = sym (ap (λ (s : State). s.acts) now) ∙ acts in omega arith);
  stepped = λ honest order fits.
      let there = leaf_there st before block at_is fits in
      let leaf = there.1 in
      let same_page = same_leaf st fits.start before.entry block page (found honest) leaf in
      let at_page : slice_get st.pages page.block ≡ Some page = subst (λ (b : ℕ). slice_get st.pages b ≡ Some page) (sym block_is) (found honest) in
      let live : page.state ≡ Live = subst (λ (p : Page). p.state ≡ Live) same_page leaf.alive in
      let ground : page.level ≡ 0 = subst (λ (p : Page). p.level ≡ 0) same_page leaf.leaf in
      let is_split : LeafIsSplit st fits.start before.entry page h.left h.half (mended_to h.half.block h.right) = record {
        found = at_page;
        alive = live;
        leaf = ground;
        whole = subst (λ (p : Page). p.split ≡ false) same_page leaf.whole;
        place = subst (LeadsTo st fits.start 0 (entry_aim before.entry) true) (sym block_is) leaf.place;
        within = subst (λ (p : Page). is_within (entry_aim before.entry) p.high ≡ true) same_page leaf.within;
        halves = h.halves;
        cut = λ asked. h.cut;
        alone = alone;
        left_block = h.left_block;
        left_cycle = h.left_cycle ∙ ap (λ (s : State). s.cycle) same;
        right_cycle = h.half_cycle ∙ ap (λ (s : State). s.cycle) same;
        fresh = subst (λ (s : State). IsFresh s h.half.block) same h.fresh;
        mends = mends_right st before.session h.half.block page.right h.right right_stored (subst (λ (s : State). RightIsFound s page.right h.right) same (h.right_found honest));
        may = may;
      } in
      let lasts = leaf_split_lasts st fits.start before.entry page h.left h.half (mended_to h.half.block h.right) order.tree is_split in
      let moves = leaf_split_flags st fits.start before.entry page h.left h.half (mended_to h.half.block h.right) order.tree is_split in
      let weighs = leaf_split_weighs st fits.start before.entry page h.left h.half (mended_to h.half.block h.right) order.tree is_split in
      let was : entry_on_live_leaf st.pages before.entry ≡ false =
      leaf_shows st before.entry page order.tree at_page (covers_there st fits.start before.entry block page order.tree block_is (found honest) leaf) ∙ absent in
      let low : before.session < length st.table = (let m = order.holdings in let l = fits.session in omega arith) in
      let held_page : holding_of st.table before.session ≡ leaf_held page.block = subst (λ (b : ℕ). holding_of st.table before.session ≡ leaf_held b) (sym block_is) there.0 in
      let free = none_held st.table before.session page.block low held_page in
      let others = others_held st.table before.session page.block in
      let added_to : State = after_act changed st in
      let left_there : slice_get added_to.pages page.block ≡ Some h.left = subst (λ (b : ℕ). slice_get added_to.pages b ≡ Some h.left) h.left_block
      (pages_first st.format (length st.pages) st.pages h.left (h.half ∷ mended_to h.half.block h.right) may (omega arith)) in
      let left_live : h.left.state ≡ Live = ap (λ (n : Node). n.state) h.halves.left_is in
      let left_ground : h.left.level ≡ 0 = ap (λ (n : Node). n.level) h.halves.left_is ∙ ground in
      let place : LeadsTo added_to fits.start 0 (entry_aim before.entry) true page.block =
      lasts.0.places fits.start 0 (entry_aim before.entry) true page.block (record { session = before.session; is = fits.running }) (bound_falls (bound_of before.entry)) is_split.place in
      let gone : State = with_table added_to table in
      record {
        effect = Some (Add before.entry);
        does = subst (λ (s : State). StepEffect before.session (Some (Add before.entry)) st s) (sym now)
            (does_add st before.session before.entry changed table order may lasts.0 lasts.1
            (leaf_split_leaves st fits.start before.entry page h.left h.half (mended_to h.half.block h.right) order.tree is_split) was
            (record { raised = Some page.block; leaf = (is_split_whole at_page is_split.whole, raised_level left_there left_ground); moves = moves; most = omega (arith, weighs) })
            (λ other b differ alone. (
              λ is_b. not_the_leaf st before.session other block order there.0 differ (subst (HoldsAlone st.table other) (sym is_b ∙ h.left_block ∙ block_is) alone),
              half_free other b differ alone,
            ))
            (apart_let_go st.table table before.session order.apart free others)
            (many_held st.table before.session page.block ∙ order.holdings) others);
        noted = (refl, none_added before block at_is fits.to_come, ap (λ (o : InsertOp). o.added) h.finishes.after_is ∙ ap (λ (s : State). Some (suc s.acts)) same);
        fits = subst (λ (s : State). InsertInvariant s after) (sym now) (subst (InsertInvariant gone) (sym h.finishes.after_is) (record {
          session = fits.session;
          start = fits.start;
          running = fits.running;
          stands = (
            h.finishes.session,
            one_target_fits gone fits.start before.session (entry_aim before.entry) (record { block = page.block; level = 0; moves = 0 }) h.left h.target h.finishes.op
                (record {
                  tree = lasts.0.has.tree;
                  stored = lasts.0.has.stored;
                  counted = lasts.0.has.counted;
                  within = lasts.0.has.within;
                  lead =
                      lasts.0.has.lead;
                  unique = lasts.0.has.unique;
                }) fits.session free fits.running
                left_there h.left_block (record { tree = place.tree; in_tree = place.in_tree; place = place.place }) left_live h.block_is (h.level_is ∙ left_ground) h.high_is
                h.finishes.session h.finishes.target_is h.finishes.below h.finishes.at,
          );
          to_come = tt;
        }));
        flags = λ only b incomplete. subst (λ (a : InsertAt). is_among_targets (targets_at a) b ≡ true) (sym (ap (λ (o : InsertOp). o.at) h.finishes.after_is))
            (only_target b (only_leaf only moves b (subst (λ (s : State). is_incomplete s b ≡ true) now incomplete)));
      };
  straight = λ honest order fits whole_pages on room.
      let leaf = (leaf_there st before block at_is fits).1 in
      let lt = room page (subst (λ (b : ℕ). slice_get st.pages b ≡ Some page) (sym block_is) (found honest))
      (covers_there st fits.start before.entry block page order.tree block_is (found honest) leaf) in
      absurd (omega (arith, lt, full));
}
  where
    st : State
    st = g.state old

    h : SplitsLeaf (g.backing new).honest page before after (g.state mid) (g.state new)
    h = told

    changed : List Page
    changed = h.left ∷ h.half ∷ mended_to h.half.block h.right

    table : Table
    table = let_go st.table before.session page.block

    now : g.state new ≡ with_table (after_act changed st) table
    now = h.state ∙ ap (λ (s : State). with_table (after_act changed s) (let_go s.table before.session page.block)) same

    may : AreActable st.format (length st.pages) changed
    may = subst (λ (s : State). AreActable s.format (length s.pages) changed) same h.may

    right_stored : RightIsStored st before.session page.right h.right
    right_stored = subst (λ (s : State). RightIsStored s before.session page.right h.right) same h.right_stored

    half_free : (other b : ℕ) → other ≢ before.session → HoldsAlone st.table other b → IsApartFrom b (h.half ∷ mended_to h.half.block h.right)
    half_free other b differ alone = (
      (apart_from_held st before.session other b (h.half ∷ []) differ alone (subst (λ (s : State). is_held_by_another s.table before.session h.half.block Exclusive ≡ false) same h.free, tt)).0,
      right_free st before.session h.half.block other b page.right h.right differ alone right_stored,
    )

    is_split_whole : slice_get st.pages page.block ≡ Some page → page.split ≡ false → is_incomplete st page.block ≡ false
    is_split_whole there whole = ap (λ (n : Node). n.split) (read_at st.pages page.block page there) ∙ whole

    raised_level : slice_get (after_act changed st).pages page.block ≡ Some h.left → h.left.level ≡ 0 → level_in (after_act changed st) page.block ≡ 0
    raised_level there ground = ap (λ (n : Node). n.level) (read_at (after_act changed st).pages page.block h.left there) ∙ ground

    only_leaf : OnlyTargetsAreIncomplete st (targets_at before.at) → FlagsMove (Some page.block) None st (after_act changed st) → (b : ℕ)
        → is_incomplete (with_table (after_act changed st) table) b ≡ true → b ≡ page.block
    only_leaf only moves b incomplete = elim (cases_eq b page.block) [
      | inl is ↦ is
      | inr differ ↦ absurd (no_targets before block st at_is only b
          (sym (moves b ∙ flag_other b page.block (is_incomplete st b) differ) ∙ incomplete))
    ]

    only_target : (b : ℕ) → b ≡ page.block → is_among_targets (targets_of h.finishes.op) b ≡ true
    only_target b is = one_among h.finishes.op h.target b h.finishes.below h.finishes.target_is (h.block_is ∙ sym is)
splits g before after old mid new block page (Ok (Added action unfinished)) steps same alive at_is block_is found stored few le later promised absent
    alone full going told refused kept cause = absurd cc
splits g before after old mid new block page (Err fault) steps same alive at_is block_is found stored few le later promised absent alone full going told refused kept cause =
    subst (λ (o : InsertOp). InsertSteps g before o old new (Err fault)) (sym kept)
    (refuses g before old new fault steps (refused ∙ same) alive
    (λ honest order fits.
    let there = leaf_there st before block at_is fits in
    let leaf = there.1 in
    let same_page = same_leaf st fits.start before.entry block page (found honest) leaf in
    let at_page : slice_get st.pages page.block ≡ Some page = subst (λ (b : ℕ). slice_get st.pages b ≡ Some page) (sym block_is) (found honest) in
    let live : page.state ≡ Live = subst (λ (p : Page). p.state ≡ Live) same_page leaf.alive in
    let place = subst (LeadsTo st fits.start 0 (entry_aim before.entry) true) (sym block_is) leaf.place in
    let right = right_of page.right refl at_page live fits.start (entry_aim before.entry) place order.tree in
    let fits_split : IsSplittable st page = record { found = at_page; stored = stored; few = few; mendable = right.0; apart = right.1 } in
    let pin : has_pin (pinned_blocks st.table) page.block ≡ true = subst (λ (b : ℕ). has_pin (pinned_blocks st.table) b ≡ true) (sym block_is) (pinned_leaf st.table before.session block there.0) in
    holding_cause st (g.backing old) (g.backing new) before block (block ∷ beside st) (length (beside st)) true fault at_is (full_is st block page (found honest) full)
    (working_later st (g.backing old) (g.backing mid) (g.backing new) before.session (block ∷ beside st) (length (beside st)) true false fault le later promised
    (subst (λ (b : ℕ). HasCause (causes_of_working st (g.backing mid) (g.backing new) before.session (b ∷ beside st) (length (beside st)) true false) fault) block_is
    (subst (λ (s : State). HasCause (causes_of_working s (g.backing mid) (g.backing new) before.session (page.block ∷ beside s) (length (beside s)) true false) fault) same
    (cause honest (subst (λ (s : State). HasRoom s.table before.session) (sym same) (room_held st before.session block there.0)) (subst (λ (s : State). IsSplittable s page) (sym same) fits_split)
    (subst (λ (s : State). has_pin (pinned_blocks s.table) page.block ≡ true) (sym same) pin)))))))
  where
    beside : State → List ℕ
    beside s = blocks_halved s page.right

    st : State
    st = g.state old

    right_of : (link : Option ℕ) → page.right ≡ link → slice_get st.pages page.block ≡ Some page → page.state ≡ Live
        → (start : ℕ) (aim : Bound → Bool) → LeadsTo st start 0 aim true page.block → HasTree st
        → RightIsMendable st page.right × (page.right ≢ Some page.block)
    right_of None is there live start aim place tree = (subst (RightIsMendable st) (sym is) tt, λ k. some_is_none (sym is ∙ k))
      where
        some_is_none : None ≡ Some page.block → ⊥
        some_is_none k = cc
    right_of (Some r) is there live start aim place tree =
        let n = neighbour_shows st start 0 aim true page r tree there place live is in (
          subst (RightIsMendable st) (sym is) (record { page = n.page; found = n.found; mends = n.mends }),
          λ k. n.apart (some_same (sym is ∙ k)),
        )
      where
        some_same : Some r ≡ Some page.block → r ≡ page.block
        some_same k = cc
