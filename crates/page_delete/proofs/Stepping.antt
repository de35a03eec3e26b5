-- Steps of a cleanup.
use Rattle.std.proofs.Common.{◌≡◌, ◌≢◌, ℕ, zero, suc, ◌+◌, ◌<◌, ◌≤◌, ◌||◌, inl, inr, Bool, true, false, Option, Some, None, Ok, Err, Result, List, length, slice_get, refl, sym, ap, subst, ◌∙◌, arith}
use Rattle.index_model.specs.Actions.{Shape}
use Rattle.index_model.specs.declared.fault.Fault.TheVariants.{Stopped, PageDamaged}
use Rattle.index_model.specs.declared.stats.VacuumStats.{VacuumStats}
use Rattle.page_action.specs.Causes.{is_at_end}
use Rattle.tree_shape.specs.Tree.{IsMetaOf}
use Rattle.tree_acts.specs.Ways.{RootIsThere}
use Rattle.tree_acts.proofs.Meanings.{metapage_shows, trail_begins_here}
use Rattle.descent.specs.declared.position.NextPage.{NextPage}
use Rattle.descent.specs.declared.position.NextPage.TheVariants.{Going as LeadsOn, Here}
use Rattle.vacuum.proofs.Causes.{or_more}
use Rattle.page_delete.specs.Turns.{TurnsFrom}
use Rattle.page_delete.proofs.Cleaning.{cleaned_past, cleaned_at, cleaned_dying, cleaned_deleted, cleaned_looking, cleaned_all}
use Rattle.page_delete.proofs.Measuring.{look_starts, look_unlinks, look_passes, start_passes, start_goes_down, down_goes_on, down_judges, judge_unlinks, judge_passes, unlink_passes}
use Rattle.page_delete.proofs.Siblings.{trail_in_use, dead_begins_trail}
use Rattle.page_delete.proofs.Sparing.{spared_at, spared_looking, spared_judged, spared_dying, spared_deleted, spared_all, no_root_leaf}
use Rattle.page_delete.proofs.Tallying.{none_deleted, one_deleted}
use Rattle.page_delete.proofs.Trying.{pinned_same}
use Rattle.page_delete.specs.declared.steps.CleanupStep.{CleanupStep}
use Rattle.page_delete.proofs.Imports.{HasCause, Bound, Fault, Holding, HasRoom, holding_of, IsPage, IsOfKind, Items, Meta, Entries, Downlinks, Page, Live, HalfDead, State, Backing, Continues}
use Rattle.page_delete.proofs.Imports.{IsStored, Ghosts, node_from, nodes_of, bound_aim, state_in, LeadsTo, HasTrail, leaf_begins_trail, IsInOrder, IsOnDescent, LeadsToNext, DescentIsShorter}
use Rattle.page_delete.proofs.Imports.{position_from, Position, one_nothing, cleans_nothing, same_page, CleanupIsUnderway, CleanupInvariant, CleanupSteps, causes_of_cleaning, IsEmptyAt, IsFoundEmpty}
use Rattle.page_delete.proofs.Imports.{come_to, IsCleaned, AllIsCleaned, deleted_in, cleanup_counted_out, cleanup_stats, turned_to, moved_past, moved_past_deleted, TurnsAt, unlinks, tries, passes}
use Rattle.page_delete.proofs.Imports.{blocks_judged, blocks_unlinked_at, blocks_written, causes_of_trying, IsTried, DeletesOn, BlocksAreInUse, LeafDies, IsSpared, IsInUse, PageIsDeleted}
use Rattle.page_delete.proofs.Imports.{IsNotDead, left_to, left_root, left_page, left_answer, IsAlone, IsSought, IsSparing, EditsALeaf, cleanup_left, CleanupAt, Look, Start, Down, Judge, Unlink}
use Rattle.page_delete.proofs.Imports.{CleanupOp, Going, Finished}

-- after the look at it the page at the cursor is in use
come_within : (st : State) (op : CleanupOp) (at : CleanupAt) → op.at ≡ at → IsCleaned st op → come_to op.cursor at ≤ length st.pages
come_within st op at is h = subst (λ (a : CleanupAt). come_to op.cursor a ≤ length st.pages) is h.within

or_there : (a b c : Bool) → c ≡ true → (a || (b || c)) ≡ true
or_there true b c h = refl
or_there false true c h = refl
or_there false false c h = h

-- what keeps an act from being done keeps the cleanup from its step
pub working_cause : (st : State) (old new : Backing) (op : CleanupOp) (fault : Fault)
    → HasCause (causes_of_trying st old new op.session (blocks_written op.at op.cursor st)) fault → HasCause (causes_of_cleaning st old new op) fault
working_cause st old new op Stopped h = or_more old.stopped (is_at_end st.acts) (cleanup_counted_out op) h
working_cause st old new op fault h = h

runs_no_more : (b : Bool) {A : Type 0} → b ≡ false → b ≡ true → A
runs_no_more b alive stopped = absurd cc

pub has_room : (st : State) (op : CleanupOp) → CleanupInvariant st op → HasRoom st.table op.session
has_room st op fits = subst (λ (h : Holding). length h.latches < 8) (sym fits.held) (omega arith)

-- a step that is refused
pub refuses : {S : Type 0} (g : Ghosts S) (op : CleanupOp) (old new : S) (fault : Fault) → Continues g.follows old new → g.state new ≡ g.state old
    → ((g.backing old).stopped ≡ true → fault ≡ Stopped)
    → ((g.backing new).honest ≡ true → IsInOrder (g.state old) → CleanupInvariant (g.state old) op → HasCause (causes_of_cleaning (g.state old) (g.backing old) (g.backing new) op) fault)
    → CleanupSteps g op op old new (Err fault)
refuses g op old new fault steps same stops cause = record {
  steps = steps;
  session = refl;
  kept = one_nothing (g.state old) (g.state new) same;
  table = ap (λ (st : State). st.table) same;
  cycle = ap (λ (st : State). st.cycle) same;
  refused = record { state = same; op = refl };
  stopped = λ h. ap Err (stops h);
  stats = tt;
  less = tt;
  pins = λ honest. pinned_same op.session (g.state old) (g.state new) same;
  deletes = λ honest. tt;
  counts = λ honest fits h. subst (λ (st : State). IsCleaned st op) (sym same) h;
  stepped = λ honest order below fits. cause honest order fits;
  spares = λ honest order below fits alone h. subst (λ (st : State). IsSparing st op) (sym same) h;
}

-- the last step
pub ends : {S : Type 0} (g : Ghosts S) (op : CleanupOp) (store : S) (stats : VacuumStats) → (g.backing store).stopped ≡ false → op.at ≡ Look
    → length (g.state store).pages ≤ op.cursor → stats ≡ cleanup_stats (g.state store) op → Continues g.follows store store → CleanupSteps g op op store store (Ok (Finished stats))
ends g op store stats alive at last told steps = record {
  steps = steps;
  session = refl;
  kept = one_nothing (g.state store) (g.state store) refl;
  table = refl;
  cycle = refl;
  refused = tt;
  stopped = λ h. runs_no_more (g.backing store).stopped alive h;
  stats = told;
  less = tt;
  pins = λ honest. pinned_same op.session (g.state store) (g.state store) refl;
  deletes = λ honest. ap (λ (s : VacuumStats). deleted_in (g.state store) + s.pages_newly_deleted) (sym told);
  counts = λ honest fits h. subst (λ (s : VacuumStats). AllIsCleaned (g.state store) s.num_index_tuples) (sym told) (cleaned_all (g.state store) op h last);
  stepped = λ honest order below fits. record { state = refl; op = refl; at = at; last = last };
  spares = λ honest order below fits alone h. spared_all (g.state store) op h last;
}

-- a call that goes on, at another step
pub fits_at : (st : State) (before after : CleanupOp) (fits : CleanupInvariant st before) → after.session ≡ before.session
    → CleanupIsUnderway st fits.start after.cursor after.at → CleanupInvariant st after
fits_at st before after fits session at = record {
  session = subst (λ (s : ℕ). s < 64) (sym session) fits.session;
  start = fits.start;
  running = subst (λ (s : ℕ). slice_get st.running s ≡ Some (Some fits.start)) (sym session) fits.running;
  held = ap (holding_of st.table) session ∙ fits.held;
  at = at;
}

-- a step that goes on without an act
pub moves : {S : Type 0} (g : Ghosts S) (before after : CleanupOp) (old new : S) → Continues g.follows old new → g.state new ≡ g.state old
    → after.session ≡ before.session → after.deleted ≡ before.deleted → (g.backing old).stopped ≡ false
    → cleanup_left (g.state old).format.pages (length (g.state old).pages) after.cursor after.at < cleanup_left (g.state old).format.pages (length (g.state old).pages) before.cursor before.at
    → ((g.backing new).honest ≡ true → IsInOrder (g.state old) → (fits : CleanupInvariant (g.state old) before)
    → TurnsFrom before.at (g.state old) before None after × CleanupIsUnderway (g.state old) fits.start after.cursor after.at)
    → ((g.backing new).honest ≡ true → CleanupInvariant (g.state old) before → IsCleaned (g.state old) before → IsCleaned (g.state old) after)
    → ((g.backing new).honest ≡ true → IsInOrder (g.state old) → CleanupInvariant (g.state old) before → IsAlone (g.state old) before.session
    → IsSparing (g.state old) before → IsSparing (g.state old) after)
    → CleanupSteps g before after old new (Ok Going)
moves g before after old new steps same session none alive less stepped cleans spares = record {
  steps = steps;
  session = session;
  kept = one_nothing (g.state old) (g.state new) same;
  table = ap (λ (st : State). st.table) same;
  cycle = ap (λ (st : State). st.cycle) same;
  refused = tt;
  stopped = λ h. runs_no_more (g.backing old).stopped alive h;
  stats = tt;
  less = subst (λ (st : State).
      cleanup_left st.format.pages (length st.pages) after.cursor after.at < cleanup_left (g.state old).format.pages (length (g.state old).pages) before.cursor before.at) (sym same) less;
  pins = λ honest. pinned_same before.session (g.state old) (g.state new) same;
  deletes = λ honest. ap (λ (st : State). deleted_in st + before.deleted) same ∙ ap (λ (n : ℕ). deleted_in (g.state old) + n) (sym none);
  counts = λ honest fits h. subst (λ (st : State). IsCleaned st after) (sym same) (cleans honest fits h);
  stepped = λ honest order below fits.
      let s = stepped honest order fits in
      record {
        effect = None;
        does = cleans_nothing before.session (g.state old) (g.state new) same order;
        turns = s.0;
        fits = subst (λ (st : State). CleanupInvariant st after) (sym same) (fits_at (g.state old) before after fits session s.1);
      };
  spares = λ honest order below fits alone h. subst (λ (st : State). IsSparing st after) (sym same) (spares honest order fits alone h);
}

-- ... or with one
pub acts : {S : Type 0} (g : Ghosts S) (written : State → List ℕ) (sure : State → Type 0) (change : State → State → Type 0) (reason : State → Type 0)
    (before after : CleanupOp) (old new : S) → IsTried g before.session written sure change reason old new (Ok true) → after.session ≡ before.session → (g.backing old).stopped ≡ false
    → cleanup_left (g.state old).format.pages (length (g.state old).pages) after.cursor after.at < cleanup_left (g.state old).format.pages (length (g.state old).pages) before.cursor before.at
    → TurnsFrom before.at (g.state old) before (Some Shape) after
    → (IsInOrder (g.state old) → (fits : CleanupInvariant (g.state old) before) → DeletesOn before.session (g.state old) (g.state new)
    → CleanupIsUnderway (g.state new) fits.start after.cursor after.at)
    → (length (g.state new).pages ≡ length (g.state old).pages → change (g.state old) (g.state new) → deleted_in (g.state new) + before.deleted ≡ deleted_in (g.state old) + after.deleted)
    → (IsCleaned (g.state old) before → change (g.state old) (g.state new) → IsCleaned (g.state new) after)
    → (IsInOrder (g.state old) → IsSparing (g.state old) before → change (g.state old) (g.state new) → EditsALeaf (g.state old) (g.state new) → IsSparing (g.state new) after)
    → CleanupSteps g before after old new (Ok Going)
acts g written sure change reason before after old new tried session alive less turns under deletes cleans spares = record {
  steps = tried.steps;
  session = session;
  kept = tried.kept;
  table = tried.table;
  cycle = tried.cycle;
  refused = tt;
  stopped = λ h. runs_no_more (g.backing old).stopped alive h;
  stats = tt;
  less =
      let most : (g.state new).format.pages ≡ (g.state old).format.pages = ap (λ (l : _). l.pages) tried.kept.format in
      subst (λ (n : ℕ). cleanup_left (g.state new).format.pages n after.cursor after.at < cleanup_left (g.state old).format.pages (length (g.state old).pages) before.cursor before.at) (sym tried.used)
      (subst (λ (m : ℕ). cleanup_left m (length (g.state old).pages) after.cursor after.at < cleanup_left (g.state old).format.pages
      (length (g.state old).pages) before.cursor before.at) (sym most) less);
  pins = tried.pins;
  deletes = λ honest. deletes tried.used (tried.changed honest refl);
  counts = λ honest fits h. cleans h (tried.changed honest refl);
  stepped = λ honest order below fits.
      let d = tried.does honest order below refl in
      record {
        effect = Some Shape;
        does = d.does;
        turns = turns;
        fits = record {
          session = subst (λ (s : ℕ). s < 64) (sym session) fits.session;
          start = fits.start;
          running = subst (λ (s : ℕ). slice_get (g.state new).running s ≡ Some (Some fits.start)) (sym session)
              (ap (λ (r : List (Option ℕ)). slice_get r before.session) d.does.running ∙ fits.running);
          held = ap (holding_of (g.state new).table) session ∙ ap (λ (t : _). holding_of t before.session) tried.table ∙ fits.held;
          at = under order fits d;
        };
      };
  spares = λ honest order below fits alone h. spares order h (tried.changed honest refl) (tried.does honest order below refl).edit;
}

-- a part that may do one act is refused
pub try_refused : {S : Type 0} (g : Ghosts S) (written : State → List ℕ) (sure : State → Type 0) (change : State → State → Type 0)
    (reason : State → Type 0) (op : CleanupOp) (old new : S) (fault : Fault) → IsTried g op.session written sure change reason old new (Err fault) → (g.backing old).stopped ≡ false
    → written (g.state old) ≡ blocks_written op.at op.cursor (g.state old)
    → (IsInOrder (g.state old) → CleanupInvariant (g.state old) op → sure (g.state old)) → CleanupSteps g op op old new (Err fault)
try_refused g written sure change reason op old new fault tried alive same there =
    refuses g op old new fault tried.steps tried.refused (λ h. runs_no_more (g.backing old).stopped alive h)
    (λ honest order fits. working_cause (g.state old) (g.backing old) (g.backing new) op fault
    (subst (λ (n : List ℕ). HasCause (causes_of_trying (g.state old) (g.backing old) (g.backing new) op.session n) fault) same
    (tried.cause honest order (has_room (g.state old) op fits) (there order fits))))

-- the leaf is judged
module _ {S : Type 0} (g : Ghosts S) (before : CleanupOp) (high : Bound) (parent : ℕ) (old new : S) (at : before.at ≡ Judge high parent) (alive : (g.backing old).stopped ≡ false) where
  abbrev most : ℕ
  most = (g.state old).format.pages

  abbrev used : ℕ
  used = length (g.state old).pages

  under : (fits : CleanupInvariant (g.state old) before) → CleanupIsUnderway (g.state old) fits.start before.cursor (Judge high parent)
  under fits = subst (CleanupIsUnderway (g.state old) fits.start before.cursor) at fits.at

  pub judge_in_use : IsInOrder (g.state old) → CleanupInvariant (g.state old) before → BlocksAreInUse before.cursor parent (g.state old)
  judge_in_use order fits =
      let u = under fits in (
        trail_in_use (g.state old) fits.start 0 before.cursor 0 order.tree u.0,
        trail_in_use (g.state old) fits.start 1 parent 0 order.tree (trail_begins_here (g.state old) fits.start 1 (bound_aim high) false parent order.tree u.1),
      )

  found_empty : IsCleaned (g.state old) before → IsEmptyAt (g.state old) before.cursor × (state_in (g.state old) before.cursor ≢ HalfDead)
  found_empty h = subst (IsFoundEmpty (g.state old) before.cursor) at h.empty

  pub leaf_dies : IsTried g before.session (blocks_judged before.cursor parent) (BlocksAreInUse before.cursor parent) (LeafDies before.cursor)
      (IsSpared before.session before.cursor parent) old new (Ok true) → CleanupSteps g before (turned_to before Unlink) old new (Ok Going)
  leaf_dies tried =
      acts g (blocks_judged before.cursor parent) (BlocksAreInUse before.cursor parent) (LeafDies before.cursor)
      (IsSpared before.session before.cursor parent) before (turned_to before Unlink) old new tried refl alive
      (subst (λ (a : CleanupAt). cleanup_left most used before.cursor Unlink < cleanup_left most used before.cursor a) (sym at) (judge_unlinks most used before.cursor high parent))
      (subst (λ (a : CleanupAt). TurnsFrom a (g.state old) before (Some Shape) (turned_to before Unlink)) (sym at) (inl (refl, refl)))
      (λ order fits d. (d.own fits.start fits.running).trails 0 before.cursor 0 (under fits).0)
      (λ same moved. ap (λ (n : ℕ). n + before.deleted) (none_deleted (g.state old) (g.state new) before.cursor same moved))
      (λ h moved. cleaned_dying (g.state old) (g.state new) before h (come_within (g.state old) before (Judge high parent) at h) tried.used moved (found_empty h).0)
      (λ order h moved edit. spared_dying (g.state old) (g.state new) before high parent at tried.used h moved edit)

  pub leaf_spared : IsTried g before.session (blocks_judged before.cursor parent) (BlocksAreInUse before.cursor parent) (LeafDies before.cursor)
      (IsSpared before.session before.cursor parent) old new (Ok false) → CleanupSteps g before (moved_past before 0) old new (Ok Going)
  leaf_spared tried =
      moves g before (moved_past before 0) old new tried.steps (tried.stays refl) refl refl alive
      (subst (λ (a : CleanupAt). cleanup_left most used (suc before.cursor) Look < cleanup_left most used before.cursor a) (sym at) (judge_passes most used before.cursor high parent))
      (λ honest order fits.
      (subst (λ (a : CleanupAt). TurnsFrom a (g.state old) before None (moved_past before 0)) (sym at) (inr (refl, refl, tried.passes honest (has_room (g.state old) before fits) refl)), tt))
      (λ honest fits h. cleaned_past (g.state old) before 0 h (come_within (g.state old) before (Judge high parent) at h) (found_empty h).0 (found_empty h).1)
      (λ honest order fits alone h. spared_judged (g.state old) before high parent order alone at h (tried.passes honest (has_room (g.state old) before fits) refl))

-- a page that isn't half-dead, or none
never_dead : (pages : List Page) (b : ℕ) → ((page : Page) → slice_get pages b ≡ Some page → page.state ≢ HalfDead) → (nodes_of pages b).state ≢ HalfDead
never_dead pages b none = by (slice_get pages b) refl
  where
    clash : Live ≡ HalfDead → ⊥
    clash e = cc

    by : (o : Option Page) → slice_get pages b ≡ o → (nodes_of pages b).state ≢ HalfDead
    by None is dead = clash (sym (ap (λ (o : Option Page). (node_from o).state) is) ∙ dead)
    by (Some page) is dead = none page is (sym (ap (λ (o : Option Page). (node_from o).state) is) ∙ dead)

-- the page is unlinked
module _ {S : Type 0} (g : Ghosts S) (before : CleanupOp) (old new : S) (at : before.at ≡ Unlink) (alive : (g.backing old).stopped ≡ false) where
  pub unlink_in_use : IsInOrder (g.state old) → CleanupInvariant (g.state old) before → IsInUse before.cursor (g.state old)
  unlink_in_use order fits = trail_in_use (g.state old) fits.start 0 before.cursor 0 order.tree (subst (CleanupIsUnderway (g.state old) fits.start before.cursor) at fits.at)

  not_dead : IsNotDead before.cursor (g.state old) → state_in (g.state old) before.cursor ≢ HalfDead
  not_dead none = never_dead (g.state old).pages before.cursor none

  pub page_goes : IsTried g before.session (blocks_unlinked_at before.cursor) (IsInUse before.cursor) (PageIsDeleted before.cursor)
      (IsNotDead before.cursor) old new (Ok true) → CleanupSteps g before (moved_past_deleted before) old new (Ok Going)
  page_goes tried =
      acts g (blocks_unlinked_at before.cursor) (IsInUse before.cursor) (PageIsDeleted before.cursor) (IsNotDead before.cursor) before (moved_past_deleted before) old new tried refl alive
      (subst (λ (a : CleanupAt).
      cleanup_left (g.state old).format.pages (length (g.state old).pages) (suc before.cursor) Look < cleanup_left (g.state old).format.pages
      (length (g.state old).pages) before.cursor a) (sym at) (unlink_passes (g.state old).format.pages (length (g.state old).pages) before.cursor))
      (subst (λ (a : CleanupAt). TurnsFrom a (g.state old) before (Some Shape) (moved_past_deleted before)) (sym at) (inl (refl, refl)))
      (λ order fits d. tt)
      (λ same moved. let one = one_deleted (g.state old) (g.state new) before.cursor same moved in omega (arith, one))
      (λ h moved. cleaned_deleted (g.state old) (g.state new) before h (come_within (g.state old) before Unlink at h) tried.used moved (subst (IsFoundEmpty (g.state old) before.cursor) at h.empty))
      (λ order h moved edit. spared_deleted (g.state old) (g.state new) before order.tree at tried.used h moved edit)

  pub page_stays : IsTried g before.session (blocks_unlinked_at before.cursor) (IsInUse before.cursor) (PageIsDeleted before.cursor)
      (IsNotDead before.cursor) old new (Ok false) → CleanupSteps g before (moved_past before 0) old new (Ok Going)
  page_stays tried =
      moves g before (moved_past before 0) old new tried.steps (tried.stays refl) refl refl alive
      (subst (λ (a : CleanupAt).
      cleanup_left (g.state old).format.pages (length (g.state old).pages) (suc before.cursor) Look < cleanup_left (g.state old).format.pages
      (length (g.state old).pages) before.cursor a) (sym at) (unlink_passes (g.state old).format.pages (length (g.state old).pages) before.cursor))
      (λ honest order fits.
      (subst (λ (a : CleanupAt). TurnsFrom a (g.state old) before None (moved_past before 0)) (sym at) (inr (refl, refl, tried.passes honest (has_room (g.state old) before fits) refl)), tt))
      (λ honest fits h. cleaned_past (g.state old) before 0 h (come_within (g.state old) before Unlink at h)
      (subst (IsFoundEmpty (g.state old) before.cursor) at h.empty) (not_dead (tried.passes honest (has_room (g.state old) before fits) refl)))
      (λ honest order fits alone h. absurd (not_dead (tried.passes honest (has_room (g.state old) before fits) refl) (subst (IsSought (g.state old) before.cursor) at h.sought)))

-- the page at the cursor is looked at
pub looks : {S : Type 0} (g : Ghosts S) (before after : CleanupOp) (old new : S) (page : Page) → before.at ≡ Look → (g.backing old).stopped ≡ false
    → Continues g.follows old new → g.state new ≡ g.state old
    → before.cursor < length (g.state old).pages → IsStored (g.state old).format before.cursor page
    → ((g.backing new).honest ≡ true → slice_get (g.state old).pages before.cursor ≡ Some page) → TurnsAt page before after
    → CleanupSteps g before after old new (Ok Going)
looks g before after old new page at alive steps same inside stored found turn =
    moves g before after old new steps same (session_is turn) (deleted_is turn) alive
    (subst (λ (a : CleanupAt).
    cleanup_left (g.state old).format.pages (length (g.state old).pages) after.cursor after.at < cleanup_left (g.state old).format.pages
    (length (g.state old).pages) before.cursor a) (sym at) (less turn))
    (λ honest order fits. (
      subst (λ (a : CleanupAt). TurnsFrom a (g.state old) before None after) (sym at)
          (refl, (λ p there. subst (λ (q : Page). TurnsAt q before after) (same_page (g.state old).pages before.cursor page p (found honest) there) turn)),
      under honest order fits turn,
    ))
    (λ honest fits h. cleaned_looking (g.state old) before after page (found honest) (omega (arith, inside)) h turn)
    (λ honest order fits alone h. spared_looking (g.state old) before after page order.tree (found honest) at h turn)
  where
    session_is : TurnsAt page before after → after.session ≡ before.session
    session_is (unlinks dead is) = ap (λ (op : CleanupOp). op.session) is
    session_is (tries high may is_high is) = ap (λ (op : CleanupOp). op.session) is
    session_is (passes alive empty is) = ap (λ (op : CleanupOp). op.session) is

    deleted_is : TurnsAt page before after → after.deleted ≡ before.deleted
    deleted_is (unlinks dead is) = ap (λ (op : CleanupOp). op.deleted) is
    deleted_is (tries high may is_high is) = ap (λ (op : CleanupOp). op.deleted) is
    deleted_is (passes alive empty is) = ap (λ (op : CleanupOp). op.deleted) is

    less : TurnsAt page before after
        → cleanup_left (g.state old).format.pages (length (g.state old).pages) after.cursor after.at < cleanup_left (g.state old).format.pages (length (g.state old).pages) before.cursor Look
    less (unlinks dead is) = rw is (look_unlinks (g.state old).format.pages (length (g.state old).pages) before.cursor inside)
    less (tries high may is_high is) = rw is (look_starts (g.state old).format.pages (length (g.state old).pages) before.cursor high inside)
    less (passes alive empty is) = rw is (look_passes (g.state old).format.pages (length (g.state old).pages) before.cursor inside)

    under : (g.backing new).honest ≡ true → IsInOrder (g.state old) → (fits : CleanupInvariant (g.state old) before) → TurnsAt page before after
        → CleanupIsUnderway (g.state old) fits.start after.cursor after.at
    under honest order fits (unlinks dead is) = rw is (subst (λ (b : ℕ). HasTrail (g.state old) fits.start 0 b 0) stored.block_is
        (dead_begins_trail (g.state old) fits.start page order.tree
        (subst (λ (b : ℕ). slice_get (g.state old).pages b ≡ Some page) (sym stored.block_is) (found honest)) stored.storable.admitted dead))
    under honest order fits (tries high may is_high is) = rw is (subst (λ (b : ℕ). HasTrail (g.state old) fits.start 0 b 0) stored.block_is
        (leaf_begins_trail (g.state old) fits.start page order.tree (subst (λ (b : ℕ). slice_get (g.state old).pages b ≡ Some page) (sym stored.block_is) (found honest)) may.alive may.leaf))
    under honest order fits (passes alive empty is) = rw is tt

-- a page of the format is on a level that the format has
page_low : (page : Page) → IsPage page → page.level ≤ 31
page_low page h = by page.items h.kind
  where
    by : (items : Items) → IsOfKind page items → page.level ≤ 31
    by Meta k = k.level
    by (Entries v) k = (let z = k.level in omega (arith, z))
    by (Downlinks v) k = k.level.1

start_differs : {high : Bound} → Start high ≡ Unlink → ⊥
start_differs e = cc

down_differs : {high : Bound} {position : Position} → Down high position ≡ Unlink → ⊥
down_differs e = cc

-- the metapage is read
pub starts : {S : Type 0} (g : Ghosts S) (before after : CleanupOp) (high : Bound) (old new : S) (meta : Page) (position : Position) → before.at ≡ Start high
    → (g.backing old).stopped ≡ false → Continues g.follows old new
    → g.state new ≡ g.state old → IsPage meta → ((g.backing new).honest ≡ true → slice_get (g.state old).pages 0 ≡ Some meta) → position.level ≡ meta.level
    → ((root : ℕ) → IsMetaOf meta root meta.level → Some position ≡ Some (position_from root meta.level)) → after ≡ left_root before position high → CleanupSteps g before after old new (Ok Going)
starts g before after high old new meta position at alive steps same admitted found level named is = by position.level refl (is ∙ refl)
  where
    found_empty : IsCleaned (g.state old) before → IsEmptyAt (g.state old) before.cursor × (state_in (g.state old) before.cursor ≢ HalfDead)
    found_empty h = subst (IsFoundEmpty (g.state old) before.cursor) at h.empty

    some_is : (a b : Position) → Some a ≡ Some b → a ≡ b
    some_is a b e = cc

    no_zero : (n l : ℕ) → l ≡ suc n → l ≢ 0
    no_zero n l is z = omega (arith, is, z)

    tells : (g.backing new).honest ≡ true → IsInOrder (g.state old) → (start : ℕ) → RootIsThere (g.state old) start (bound_aim high) false meta
    tells honest order start = metapage_shows (g.state old) start (bound_aim high) false meta order.tree (found honest)

    root_is : (honest : (g.backing new).honest ≡ true) (order : IsInOrder (g.state old)) (start : ℕ) → position ≡ position_from (tells honest order start).root meta.level
    root_is honest order start = let t = tells honest order start in some_is position (position_from t.root meta.level) (named t.root t.names)

    by : (l : ℕ) → position.level ≡ l → after ≡ left_to before l position high → CleanupSteps g before after old new (Ok Going)
    by zero z is0 = moves g before after old new steps same (ap (λ (op : CleanupOp). op.session) is0) (ap (λ (op : CleanupOp). op.deleted) is0) alive
        (subst (λ (a : CleanupAt).
        cleanup_left (g.state old).format.pages (length (g.state old).pages) after.cursor after.at < cleanup_left (g.state old).format.pages
        (length (g.state old).pages) before.cursor a) (sym at) (rw is0 (start_passes (g.state old).format.pages (length (g.state old).pages) before.cursor high)))
        (λ honest order fits. (
          subst (λ (a : CleanupAt). TurnsFrom a (g.state old) before None after) (sym at)
              (refl, (λ m there. let one = same_page (g.state old).pages 0 meta m (found honest) there in inl (ap (λ (p : Page). p.level) (sym one) ∙ sym level ∙ z, is0))),
          rw is0 tt,
        ))
        (λ honest fits h. let e = found_empty h in rw is0 (cleaned_past (g.state old) before 0 h (come_within (g.state old) before (Start high) at h) e.0 e.1))
        (λ honest order fits alone h. absurd (no_root_leaf (g.state old) before.cursor high order.tree
        (ap (λ (p : Page). p.level) (same_page (g.state old).pages 0 order.tree.tree.meta meta order.tree.tree.meta_at (found honest)) ∙ sym level ∙ z)
        (subst (IsSought (g.state old) before.cursor) at h.sought)))
    by (suc n) some is1 = moves g before after old new steps same (ap (λ (op : CleanupOp). op.session) is1) (ap (λ (op : CleanupOp). op.deleted) is1) alive
        (subst (λ (a : CleanupAt).
        cleanup_left (g.state old).format.pages (length (g.state old).pages) after.cursor after.at < cleanup_left (g.state old).format.pages (length (g.state old).pages) before.cursor a) (sym at)
        (rw is1 (start_goes_down (g.state old).format.pages (length (g.state old).pages) before.cursor high position (subst (λ (k : ℕ). k ≤ 31) (sym level) (page_low meta admitted)))))
        (λ honest order fits.
        let t = tells honest order fits.start in
        let w = root_is honest order fits.start in (
          subst (λ (a : CleanupAt). TurnsFrom a (g.state old) before None after) (sym at) (
            refl,
            (λ m there. let one = same_page (g.state old).pages 0 meta m (found honest) there in
                inr (
                  (λ z. no_zero n position.level some (level ∙ ap (λ (p : Page). p.level) one ∙ z)),
                  (t.root, ap (λ (p : Page). p.right) (sym one) ∙ t.names.root_is, is1 ∙ ap (λ (k : Position). turned_to before (Down high k)) (w ∙ ap (λ (p : Page). position_from t.root p.level) one)),
                )),
          ),
          rw is1 (
            subst (CleanupIsUnderway (g.state old) fits.start before.cursor) at fits.at,
            subst (λ (k : Position). IsOnDescent (g.state old) fits.start (bound_aim high) false 1 k) (sym w) (record {
              not_below = (let a = level in let b = some in omega (arith, a, b));
              place = t.place;
              trail = trail_begins_here (g.state old) fits.start meta.level (bound_aim high) false t.root order.tree t.place;
            }),
          ),
        ))
        (λ honest fits h. let e = found_empty h in rw is1 (cleaned_at (g.state old) before (Down high position) h (come_within (g.state old) before (Start high) at h) e))
        (λ honest order fits alone h. rw is1 (spared_at (g.state old) before (Down high position) h (λ e. start_differs (sym at ∙ e)) (subst (IsSought (g.state old) before.cursor) at h.sought)))

-- a page on the way is read
pub descends : {S : Type 0} (g : Ghosts S) (before after : CleanupOp) (high : Bound) (position : Position) (old new : S) (next_page : Option NextPage) (result : Result CleanupStep Fault) → before.at ≡ Down high position
    → (g.backing old).stopped ≡ false → Continues g.follows old new → g.state new ≡ g.state old → position.level ≢ 0 → DescentIsShorter 1 (g.state old).format.pages position next_page
    → ((g.backing new).honest ≡ true → (start : ℕ) → IsInOrder (g.state old) → IsOnDescent (g.state old) start (bound_aim high) false 1 position
    → LeadsToNext (g.state old) start (bound_aim high) false 1 position next_page)
    → after ≡ left_page before next_page position.block high → result ≡ left_answer next_page position.block → CleanupSteps g before after old new result
descends g before after high position old new None result at alive steps same some less leads op is =
    subst (CleanupSteps g before after old new) (sym is) (subst (λ (a : CleanupOp). CleanupSteps g before a old new (Err (PageDamaged position.block))) (sym op)
    (refuses g before old new (PageDamaged position.block) steps same (λ h. runs_no_more (g.backing old).stopped alive h)
    (λ honest order fits. absurd (leads honest fits.start order (subst (CleanupIsUnderway (g.state old) fits.start before.cursor) at fits.at).1))))
descends g before after high position old new (Some (LeadsOn on)) result at alive steps same some less leads op is = subst (CleanupSteps g before after old new) (sym is)
    (moves g before after old new steps same (ap (λ (o : CleanupOp). o.session) op) (ap (λ (o : CleanupOp). o.deleted) op) alive
    (subst (λ (a : CleanupAt).
    cleanup_left (g.state old).format.pages (length (g.state old).pages) after.cursor after.at < cleanup_left (g.state old).format.pages (length (g.state old).pages) before.cursor a) (sym at)
    (rw op (down_goes_on (g.state old).format.pages (length (g.state old).pages) before.cursor high position on less)))
    (λ honest order fits.
    let u = subst (CleanupIsUnderway (g.state old) fits.start before.cursor) at fits.at in (
      subst (λ (a : CleanupAt). TurnsFrom a (g.state old) before None after) (sym at) (refl, inl (on, op)),
      rw op (u.0, leads honest fits.start order u.1),
    ))
    (λ honest fits h. rw op (cleaned_at (g.state old) before (Down high on) h (come_within (g.state old) before (Down high position) at h) (subst (IsFoundEmpty (g.state old) before.cursor) at h.empty)))
    (λ honest order fits alone h. rw op (spared_at (g.state old) before (Down high on) h (λ e. down_differs (sym at ∙ e)) (subst (IsSought (g.state old) before.cursor) at h.sought))))
descends g before after high position old new (Some Here) result at alive steps same some less leads op is = subst (CleanupSteps g before after old new) (sym is)
    (moves g before after old new steps same (ap (λ (o : CleanupOp). o.session) op) (ap (λ (o : CleanupOp). o.deleted) op) alive
    (subst (λ (a : CleanupAt).
    cleanup_left (g.state old).format.pages (length (g.state old).pages) after.cursor after.at < cleanup_left (g.state old).format.pages (length (g.state old).pages) before.cursor a) (sym at)
    (rw op (down_judges (g.state old).format.pages (length (g.state old).pages) before.cursor high position position.block (omega (arith, some)))))
    (λ honest order fits.
    let u = subst (CleanupIsUnderway (g.state old) fits.start before.cursor) at fits.at in
    let here = leads honest fits.start order u.1 in (
      subst (λ (a : CleanupAt). TurnsFrom a (g.state old) before None after) (sym at) (refl, inr op),
      rw op (
        u.0,
        subst (λ (k : ℕ). LeadsTo (g.state old) fits.start k (bound_aim high) false position.block) here.0 u.1.place,
      ),
    ))
    (λ honest fits h. rw op
    (cleaned_at (g.state old) before (Judge high position.block) h (come_within (g.state old) before (Down high position) at h) (subst (IsFoundEmpty (g.state old) before.cursor) at h.empty)))
    (λ honest order fits alone h. rw op (spared_at (g.state old) before (Judge high position.block) h (λ e. down_differs (sym at ∙ e)) (record {
      high = high;
      leaf = subst (IsSought (g.state old) before.cursor) at h.sought;
      above = (leads honest fits.start order (subst (CleanupIsUnderway (g.state old) fits.start before.cursor) at fits.at).1).1;
    }))))
