-- A bulk delete waits for a scan that stands on a leaf that it hasn't come to, over runs.
use Rattle.std.proofs.Common.{◌≡◌, ◌≢◌, ℕ, suc, ◌≤◌, ◌||◌, Bool, true, false, true≢false, Option, Some, None, List, [], ◌∷◌, ◌++◌, length, slice_get, slice_set, refl, sym, ap, subst, arith, inl, inr, ◌∙◌}
use Rattle.page_action.proofs.StoredPages.{stored_page}
use Rattle.tree_acts.proofs.Removing.{leaf_is}
use Rattle.schedule.proofs.Imports.{unwrap_or, cases_eq, eq-eqb, Call, Entry, Holding, has_pin, holding_of, Page, State, Ghosts, IsLeafAt, IsInOrder, LeafIsLive, leaf_pinned, DeadSets, acts_of}
use Rattle.schedule.proofs.Imports.{op_before, asked_of, AnswersNext, IsStillBefore, KeepsBeforePins, OnlyWritersAct, Answer, Begun, Going, Added, Ready, Done, Finished, Gave, Ended, Forced}
use Rattle.schedule.proofs.Imports.{Flushed, Checkpointed, Refused, Op, Insert, Scan, Bulk, Cleanup, Request, ToInsert, ToScan, ToBulk, ToCleanup, grown, IsSameCall, told_same, Moment, EventDoes}
use Rattle.schedule.proofs.Imports.{Fits, slot_of, slot_vacuums, slot_has_call, SlotRuns, slot_is_bulk_delete, BulkDeleteOp, Move, Steps, Takes, GivesUp, Upkeep, Kind, BeginsCall, MovesCall}
use Rattle.schedule.proofs.Imports.{MaintainsStore, kind_of, CallMoves, Stays, MovesOn, AnswersBeginning, IsRun, StandsOn, HasLeaf, BeforeEach, DoesNotFinish, NoneFinishes, HasNotCome}
use Rattle.schedule.proofs.Imports.{NoneHasCome, ScansStandOnLeaves, BulkDeletesWait, BegunBulkDeletesWait, Event}
use Rattle.schedule.proofs.Frames.{slot_is}
use Rattle.schedule.proofs.Leaves.{leaf_same}
use Rattle.schedule.proofs.Lists.{get_set_same, get_set_other, get_within, same_some}
use Rattle.schedule.proofs.Vacuums.{sweep_vacuums, asked_sweep}
use Rattle.schedule.proofs.Fitting.{fits_after, goes_does, running_of}

-- a leaf isn't the metapage
leaf_above : (st : State) (block : ℕ) (page : Page) → IsInOrder st → IsLeafAt st.pages block page → 1 ≤ block
leaf_above st block page order at =
    let s = stored_page st.format block st.pages page order.tree.stored at.found in
    let above = (leaf_is page s.storable.admitted at.leaf).0 in
    subst (λ (b : ℕ). 1 ≤ b) s.block_is (omega (arith, above))

-- a session that runs something has a slot
pub slot_found : (slots : List (Option Op)) (session : ℕ) (op : Op) → slot_of slots session ≡ Some op → slice_get slots session ≡ Some (Some op)
slot_found slots session op is = by (slice_get slots session) is
  where
    by : (o : Option (Option Op)) → unwrap_or o None ≡ Some op → o ≡ Some (Some op)
    by None h = (let e : (let n : Option Op = None in n) ≡ Some op = h in cc)
    by (Some slot) h = ap (λ (x : Option Op). Some x) h

-- only a bulk delete comes anywhere
not_sweep_come : (block : ℕ) (slot : Option Op) → slot_is_bulk_delete slot ≡ false → HasNotCome block slot
not_sweep_come block None h = tt
not_sweep_come block (Some (Insert op)) h = tt
not_sweep_come block (Some (Scan op)) h = tt
not_sweep_come block (Some (Cleanup op)) h = tt
not_sweep_come block (Some (Bulk set op)) h = absurd (true≢false h)

-- a bulk delete that begins has come to no leaf
fresh_come : (block session : ℕ) (request : Request) → 1 ≤ block → HasNotCome block (Some (op_before session request))
fresh_come block session (ToInsert e) above = tt
fresh_come block session (ToScan range) above = tt
fresh_come block session (ToBulk set) above = above
fresh_come block session ToCleanup above = tt

-- one that is still before a leaf hasn't come to it
still_come : (block : ℕ) (after : Option Op) (answer : Answer) → IsStillBefore block after answer → HasNotCome block after
still_come block None answer h = tt
still_come block (Some (Insert op)) answer h = tt
still_come block (Some (Scan op)) answer h = tt
still_come block (Some (Cleanup op)) answer h = tt
still_come block (Some (Bulk set op)) answer h = by answer h
  where
    by : (a : Answer) → IsStillBefore block (Some (Bulk set op)) a → op.cursor ≤ block
    by Begun h = h
    by Going h = h
    by (Added x u) h = h
    by (Ready r) h = h
    by Done h = h
    by (Finished s) h = absurd h
    by (Gave x) h = h
    by Ended h = h
    by (Forced n) h = h
    by (Flushed b) h = h
    by (Checkpointed n) h = h
    by (Refused f) h = h

module _ {S : Type 0} (g : Ghosts S) (start : Entry → Bool) where
  -- the leaf on which a scan stands is pinned
  stands_pinned : (session block : ℕ) (now : Moment S) → Fits g start now → StandsOn session block now → has_pin (holding_of (g.state now.store).table session).pins block ≡ true
  stands_pinned session block now fits stands =
      let runs : SlotRuns g start now session (Scan stands.op) = running_of fits session (Some (Scan stands.op)) (slot_found now.slots session (Scan stands.op) stands.runs) in
      let is : stands.op.session ≡ session = runs.runs.session ∙ runs.is.session_is in
      let held : holding_of (g.state now.store).table session ≡ leaf_pinned (Some block) =
      subst (λ (s : ℕ). holding_of (g.state now.store).table s ≡ leaf_pinned (Some block)) is (runs.runs.fits.held ∙ ap leaf_pinned stands.leaf) in
      ap (λ (h : Holding). has_pin h.pins block) held ∙ ap (λ (b : Bool). b || false) (eq-eqb block block refl)

  -- ... and it is a live leaf
  stands_leaf : (session block : ℕ) (now : Moment S) → Fits g start now → StandsOn session block now → HasLeaf g block now
  stands_leaf session block now fits stands =
      let runs : SlotRuns g start now session (Scan stands.op) = running_of fits session (Some (Scan stands.op)) (slot_found now.slots session (Scan stands.op) stands.runs) in
      subst (LeafIsLive (g.state now.store).pages) stands.leaf runs.runs.fits.live

  -- after an event of a session's running call, what it runs was asked the same
  moved_asks : (session : ℕ) (move : Move) (answer : Answer) (old new : Moment S) → Fits g start old → EventDoes g start (MovesCall session move) answer old new
      → (op next : Op) → slice_get old.slots session ≡ Some (Some op) → slice_get new.slots session ≡ Some (Some next) → asked_of new.sets next ≡ asked_of old.sets op
  moved_asks session move answer old new fits does op next was is =
      let before : SlotRuns g start old session op = running_of fits session (Some op) was in
      let runs_on : SlotRuns g start new session next = running_of (fits_after does) session (Some next) is in
      let goes : CallMoves g start session answer old new = subst (λ (b : Bool). MovesOn g start b session answer old new) (ap slot_has_call was) does.also.happens in
      let number_is : goes.number ≡ before.number = before.only goes.number goes.call goes.is in
      let call_is : goes.call ≡ before.call =
      same_some (slice_get old.calls before.number) goes.call before.call (subst (λ (n : ℕ). slice_get old.calls n ≡ Some goes.call) number_is goes.is.found) before.is.found in
      let found : slice_get (slice_set old.calls goes.number goes.after) runs_on.number ≡ Some runs_on.call =
      subst (λ (l : List Call). slice_get l runs_on.number ≡ Some runs_on.call) goes.calls_is runs_on.is.found in
      let same : runs_on.number ≡ goes.number = elim (cases_eq runs_on.number goes.number) [
        | inl e ↦ e
        | inr n ↦ absurd (n (before.only runs_on.number runs_on.call
            (record { found = sym (get_set_other old.calls goes.number runs_on.number goes.after n) ∙ found; session_is = runs_on.is.session_is; running = runs_on.is.running }) ∙ sym number_is))
      ] in
      let after_is : runs_on.call ≡ goes.after = same_some (slice_get (slice_set old.calls goes.number goes.after) goes.number) runs_on.call goes.after
      (subst (λ (n : ℕ). slice_get (slice_set old.calls goes.number goes.after) n ≡ Some runs_on.call) same found)
      (get_set_same old.calls goes.number goes.after (get_within old.calls goes.number goes.call goes.is.found)) in
      let kept : IsSameCall (old.history ++ acts_of goes.number goes.effect) (length old.history) goes.effect goes.call goes.after =
      told_same (old.history ++ acts_of goes.number goes.effect) (length old.history) goes.effect goes.call goes.after goes.is.running (grown old.history goes.number goes.effect) answer goes.told in
      sym runs_on.runs.ask ∙ ap (λ (c : Call). c.ask) after_is ∙ kept.ask ∙ ap (λ (c : Call). c.ask) call_is ∙ before.runs.ask

  -- ... so it is a bulk delete only if it was one
  moved_sweep : (session : ℕ) (move : Move) (answer : Answer) (old new : Moment S) → Fits g start old → EventDoes g start (MovesCall session move) answer old new
      → slot_is_bulk_delete (slot_of old.slots session) ≡ false → slot_is_bulk_delete (slot_of new.slots session) ≡ false
  moved_sweep session move answer old new fits does idle = by (slice_get old.slots session) refl
    where
      same_slots : (slot_has_call (slice_get old.slots session)) ≡ false → slot_is_bulk_delete (slot_of new.slots session) ≡ false
      same_slots none =
          let stays : Stays g answer old new = subst (λ (b : Bool). MovesOn g start b session answer old new) none does.also.happens in
          ap (λ (l : List (Option Op)). slot_is_bulk_delete (slot_of l session)) stays.still.slots_is ∙ idle

      to : (op : Op) → slice_get old.slots session ≡ Some (Some op) → (o : Option (Option Op)) → slice_get new.slots session ≡ o → slot_is_bulk_delete (unwrap_or o None) ≡ false
      to op was None is = refl
      to op was (Some None) is = refl
      to op was (Some (Some next)) is =
          asked_sweep old.sets next op (subst (λ (sets : DeadSets). asked_of sets next ≡ asked_of old.sets op) does.means.sets (moved_asks session move answer old new fits does op next was is))
          ∙ sym (ap slot_is_bulk_delete (slot_is old.slots session (Some op) was)) ∙ idle

      by : (o : Option (Option Op)) → slice_get old.slots session ≡ o → slot_is_bulk_delete (slot_of new.slots session) ≡ false
      by None was = same_slots (ap slot_has_call was)
      by (Some None) was = same_slots (ap slot_has_call was)
      by (Some (Some op)) was = to op was (slice_get new.slots session) refl

  module _ (stander block : ℕ) (old new : Moment S) (fits : Fits g start old) (stands : StandsOn stander block old) (leaf : HasLeaf g block old) (none : NoneHasCome block old) where
    -- the slots of other sessions are as they were
    as_before : (session : ℕ) → slice_get new.slots session ≡ slice_get old.slots session → HasNotCome block (slot_of new.slots session)
    as_before session same = subst (λ (o : Option (Option Op)). HasNotCome block (unwrap_or o None)) (sym same) (none session)

    all_as_before : new.slots ≡ old.slots → NoneHasCome block new
    all_as_before same session = as_before session (ap (λ (l : List (Option Op)). slice_get l session) same)

    -- a beginning
    begins_keep : (session : ℕ) (request : Request) (answer : Answer) → EventDoes g start (BeginsCall session request) answer old new → NoneHasCome block new
    begins_keep session request answer does w = elim (cases_eq w session) [
      | inl e ↦ subst (λ (s : ℕ). HasNotCome block (slot_of new.slots s)) (sym e) (by answer refl does.also.always.answers)
      | inr n ↦ as_before w (does.also.always.others session refl w n)
    ]
      where
        by : (a : Answer) → answer ≡ a → AnswersBeginning a → HasNotCome block (slot_of new.slots session)
        by Begun is h = subst (λ (o : Option Op). HasNotCome block o) (sym (does.also.always.fresh is))
            (fresh_come block session request (leaf_above (g.state old.store) block leaf.page fits.invariant.order leaf.was))
        by (Refused fault) is h = all_as_before (does.also.always.refused fault is).slots_is session
        by Going is h = absurd h
        by (Added x u) is h = absurd h
        by (Ready r) is h = absurd h
        by Done is h = absurd h
        by (Finished s) is h = absurd h
        by (Gave x) is h = absurd h
        by Ended is h = absurd h
        by (Forced n) is h = absurd h
        by (Flushed b) is h = absurd h
        by (Checkpointed n) is h = absurd h

    -- what is done for the store
    upkeep_keeps : (upkeep : Upkeep) (answer : Answer) → EventDoes g start (MaintainsStore upkeep) answer old new → NoneHasCome block new
    upkeep_keeps upkeep answer does w = as_before w (does.also.always.others (suc w) tt w (λ e. absurd (let n : w ≡ suc w = e in omega arith)))

    -- a move of a call that is no bulk delete
    calm_moves : (session : ℕ) (move : Move) (answer : Answer) → EventDoes g start (MovesCall session move) answer old new → slot_is_bulk_delete (slot_of old.slots session) ≡ false → NoneHasCome block new
    calm_moves session move answer does idle w = elim (cases_eq w session) [
      | inl e ↦ subst (λ (s : ℕ). HasNotCome block (slot_of new.slots s)) (sym e) (not_sweep_come block (slot_of new.slots session) (moved_sweep session move answer old new fits does idle))
      | inr n ↦ as_before w (does.also.always.others session refl w n)
    ]

    -- ... and of a bulk delete, by what it leaves
    moved_come : (session : ℕ) (move : Move) (answer : Answer) → EventDoes g start (MovesCall session move) answer old new → HasNotCome block (slot_of new.slots session) → NoneHasCome block new
    moved_come session move answer does here w = elim (cases_eq w session) [
      | inl e ↦ subst (λ (s : ℕ). HasNotCome block (slot_of new.slots s)) (sym e) here
      | inr n ↦ as_before w (does.also.always.others session refl w n)
    ]

    -- a step of a bulk delete is still before the leaf
    step_before : (session set : ℕ) (op : BulkDeleteOp) (answer : Answer) → EventDoes g start (MovesCall session Steps) answer old new → slot_of old.slots session ≡ Some (Bulk set op)
        → IsStillBefore block (slot_of new.slots session) answer
    step_before session set op answer does is =
        let runs : SlotRuns g start old session (Bulk set op) = running_of fits session (Some (Bulk set op)) (slot_found old.slots session (Bulk set op) is) in
        let session_is : op.session ≡ session = runs.runs.session ∙ runs.is.session_is in
        let apart : stander ≢ op.session = λ e. (let both : Some (Scan stands.op) ≡ Some (Bulk set op) = sym stands.runs ∙ ap (λ (s : ℕ). slot_of old.slots s) (e ∙ session_is) ∙ is in cc) in
        let waits : KeepsBeforePins (g.state old.store) (Some (Bulk set op)) (slot_of new.slots session) answer =
        subst (λ (o : Option Op). KeepsBeforePins (g.state old.store) o (slot_of new.slots session) answer) is does.also.followed.each.waits in
        let before : op.cursor ≤ block = subst (λ (o : Option Op). HasNotCome block o) is (none session) in
        waits stander block leaf.page apart leaf.was (stands_pinned stander block old fits stands) before

    -- a step
    steps_keep : (session : ℕ) (answer : Answer) → EventDoes g start (MovesCall session Steps) answer old new → DoesNotFinish (MovesCall session Steps) answer old × NoneHasCome block new
    steps_keep session answer does = by (slot_of old.slots session) refl
      where
        calm : slot_is_bulk_delete (slot_of old.slots session) ≡ false → DoesNotFinish (MovesCall session Steps) answer old × NoneHasCome block new
        calm idle = (λ deletions stats finished. true≢false (sym deletions ∙ idle), calm_moves session Steps answer does idle)

        by : (slot : Option Op) → slot_of old.slots session ≡ slot → DoesNotFinish (MovesCall session Steps) answer old × NoneHasCome block new
        by None is = calm (ap slot_is_bulk_delete is)
        by (Some (Insert op)) is = calm (ap slot_is_bulk_delete is)
        by (Some (Scan op)) is = calm (ap slot_is_bulk_delete is)
        by (Some (Cleanup op)) is = calm (ap slot_is_bulk_delete is)
        by (Some (Bulk set op)) is =
            let before : IsStillBefore block (slot_of new.slots session) answer = step_before session set op answer does is in (
              λ deletions stats finished. subst (λ (a : Answer). IsStillBefore block (slot_of new.slots session) a) finished before,
              moved_come session Steps answer does (still_come block (slot_of new.slots session) answer before),
            )

    -- asking for the next entry
    takes_keep : (session : ℕ) (answer : Answer) → EventDoes g start (MovesCall session Takes) answer old new → NoneHasCome block new
    takes_keep session answer does = by (slot_of old.slots session) refl
      where
        refused : (set : ℕ) (op : BulkDeleteOp) (a : Answer) → answer ≡ a → AnswersNext (Some (Bulk set op)) a → new.slots ≡ old.slots
        refused set op (Refused fault) is h = (does.also.always.refused fault is).slots_is
        refused set op Begun is h = absurd h
        refused set op Going is h = absurd h
        refused set op (Added x u) is h = absurd h
        refused set op (Ready r) is h = absurd h
        refused set op Done is h = absurd h
        refused set op (Finished s) is h = absurd h
        refused set op (Gave x) is h = absurd h
        refused set op Ended is h = absurd h
        refused set op (Forced n) is h = absurd h
        refused set op (Flushed b) is h = absurd h
        refused set op (Checkpointed n) is h = absurd h

        by : (slot : Option Op) → slot_of old.slots session ≡ slot → NoneHasCome block new
        by None is = calm_moves session Takes answer does (ap slot_is_bulk_delete is)
        by (Some (Insert op)) is = calm_moves session Takes answer does (ap slot_is_bulk_delete is)
        by (Some (Scan op)) is = calm_moves session Takes answer does (ap slot_is_bulk_delete is)
        by (Some (Cleanup op)) is = calm_moves session Takes answer does (ap slot_is_bulk_delete is)
        by (Some (Bulk set op)) is = all_as_before (refused set op answer refl (subst (λ (o : Option Op). AnswersNext o answer) is does.also.always.answers))

    -- giving a call up
    gives_up_keep : (session : ℕ) (answer : Answer) → EventDoes g start (MovesCall session GivesUp) answer old new → NoneHasCome block new
    gives_up_keep session answer does = moved_come session GivesUp answer does (subst (λ (o : Option Op). HasNotCome block o) (sym does.also.always.left.over) tt)

    -- any event
    event_keeps : (kind : Kind) (answer : Answer) → EventDoes g start kind answer old new → DoesNotFinish kind answer old × NoneHasCome block new
    event_keeps (BeginsCall session request) answer does = (tt, begins_keep session request answer does)
    event_keeps (MovesCall session Steps) answer does = steps_keep session answer does
    event_keeps (MovesCall session Takes) answer does = (tt, takes_keep session answer does)
    event_keeps (MovesCall session GivesUp) answer does = (tt, gives_up_keep session answer does)
    event_keeps (MaintainsStore upkeep) answer does = (tt, upkeep_keeps upkeep answer does)

    -- if no act is done, pages are as they were
    leaf_quiet : (kind : Kind) (answer : Answer) → EventDoes g start kind answer old new → (g.state new.store).acts ≡ (g.state old.store).acts → HasLeaf g block new
    leaf_quiet kind answer does same = leaf_same (g.state old.store) (g.state new.store) (does.also.always.kept.quiet same) block leaf.page leaf.was

    -- a scan's own step does no act, and others leave it its leaf
    leaf_after : (kind : Kind) (answer : Answer) → EventDoes g start kind answer old new → HasLeaf g block new
    leaf_after (BeginsCall session request) answer does = leaf_quiet (BeginsCall session request) answer does does.also.always.calm
    leaf_after (MovesCall session Steps) answer does = elim (cases_eq session stander) [
      | inl e ↦ leaf_quiet (MovesCall session Steps) answer does
          (subst (λ (o : Option Op). OnlyWritersAct o (g.state old.store) (g.state new.store)) (ap (λ (s : ℕ). slot_of old.slots s) e ∙ stands.runs) does.also.always.calm)
      | inr n ↦ does.also.leaves stander block leaf.page n leaf.was (stands_pinned stander block old fits stands)
    ]
    leaf_after (MovesCall session Takes) answer does = leaf_quiet (MovesCall session Takes) answer does does.also.always.calm
    leaf_after (MovesCall session GivesUp) answer does = leaf_quiet (MovesCall session GivesUp) answer does does.also.always.calm
    leaf_after (MaintainsStore upkeep) answer does = leaf_quiet (MaintainsStore upkeep) answer does does.also.always.calm

waits_on_leaf : {S : Type 0} (g : Ghosts S) (start : Entry → Bool) (told : List Answer) (events : List Event) (answers : List Answer) (first last : Moment S) → Fits g start first
    → (run : IsRun g start told events answers first last) → (session block : ℕ) → BeforeEach g start (StandsOn session block) told events answers first last run
    → HasLeaf g block first → NoneHasCome block first → NoneFinishes g start told events answers first last run × NoneHasCome block last × HasLeaf g block last
waits_on_leaf {S} g start told [] [] first last fits run session block stands leaf none =
    (tt, subst (λ (m : Moment S). NoneHasCome block m) run none, subst (λ (m : Moment S). HasLeaf g block m) run leaf)
waits_on_leaf g start told (event ∷ events) (answer ∷ answers) first last fits run session block stands leaf none =
    let one = event_keeps g start session block first run.1.0 fits stands.0 leaf none (kind_of event) answer (goes_does run.1.1) in
    let still = leaf_after g start session block first run.1.0 fits stands.0 leaf none (kind_of event) answer (goes_does run.1.1) in
    let rest = waits_on_leaf g start (told ++ answer ∷ []) events answers run.1.0 last (fits_after (goes_does run.1.1)) run.1.2 session block stands.1 still one.1 in
    ((one.0, rest.0), rest.1, rest.2)
waits_on_leaf g start told [] (answer ∷ answers) first last fits run session block stands leaf none = absurd run
waits_on_leaf g start told (event ∷ events) [] first last fits run session block stands leaf none = absurd run

pub scans_stand : {S : Type 0} (g : Ghosts S) → ScansStandOnLeaves g
scans_stand g start now session block fits stands = stands_leaf g start session block now fits stands

pub bulk_deletes_wait : {S : Type 0} (g : Ghosts S) → BulkDeletesWait g
bulk_deletes_wait g start told events answers first last fits run session block each stands none =
    waits_on_leaf g start told events answers first last fits run session block each (stands_leaf g start session block first fits stands) none

pub begun_bulk_deletes_wait : {S : Type 0} (g : Ghosts S) → BegunBulkDeletesWait g
begun_bulk_deletes_wait {S} g start told vacuumer set events answers first last fits run session block stands =
    let rest = waits_on_leaf g start (told ++ Begun ∷ []) events answers next last (fits_after does) run.1.2 session block stands.1 still none in
    ((tt, rest.0), rest.1, rest.2)
  where
    next : Moment S
    next = run.1.0

    does : EventDoes g start (BeginsCall vacuumer (ToBulk set)) Begun first next
    does = (goes_does run.1.1)

    leaf : HasLeaf g block first
    leaf = stands_leaf g start session block first fits stands.0

    above : 1 ≤ block
    above = leaf_above (g.state first.store) block leaf.page fits.invariant.order leaf.was

    still : HasLeaf g block next
    still = leaf_same (g.state first.store) (g.state next.store) (does.also.always.kept.quiet does.also.always.calm) block leaf.page leaf.was

    -- only the one that has begun runs
    none : NoneHasCome block next
    none w = by (slot_is_bulk_delete (slot_of next.slots w)) refl
      where
        by : (b : Bool) → slot_is_bulk_delete (slot_of next.slots w) ≡ b → HasNotCome block (slot_of next.slots w)
        by false is = not_sweep_come block (slot_of next.slots w) is
        by true is =
            let here : slot_of next.slots vacuumer ≡ Some (op_before vacuumer (ToBulk set)) = does.also.always.fresh refl in
            let same : w ≡ vacuumer = does.also.invariant.vacuums.alone w vacuumer (sweep_vacuums (slot_of next.slots w) is) (ap slot_vacuums here) in
            subst (λ (s : ℕ). HasNotCome block (slot_of next.slots s)) (sym same) (subst (λ (o : Option Op). HasNotCome block o) (sym here) above)
