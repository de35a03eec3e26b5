-- What a bulk delete of an index does, read off the run.
use Rattle.whole_calls.proofs.Removing.{remove_there, all_once, all_were, all_counted, left_by_all}
use Rattle.std.proofs.Common.{◌≡◌, ℕ, zero, suc, ◌<◌, Bool, true, false, Option, Some, None, unwrap_or, Result, Ok, Err, List, [], ◌∷◌, ◌++◌, length, drop, slice_get, refl, sym, ap, subst, arith, inl, inr, ◌∙◌}
use Rattle.std.specs.Prelude.{◌&&◌, not, if◌then◌else◌, IfOk}
use Rattle.vacuum.specs.declared.steps.BulkDeleteOp.{BulkDeleteOp}
use Rattle.schedule.specs.TheoremCrashes.{KeepsHistory, IsCrashSafe}
use Rattle.access_method.proofs.Imports.{cases_eq, take_all, Effect, Add, Remove, Shape, Action, said_of, later_or, last_said, contents_after, is_there_after, AskBulkDelete, Vacuumed, Call, slice_get_within}
use Rattle.access_method.proofs.Imports.{IsAddedIn, actions_between, IsBulkDeleteAnswer, Meets, removed_by, is_among, Row, Entry, Fault, VacuumStats, contents_after-append, there_before, get_append_new}
use Rattle.access_method.proofs.Imports.{there_now, Ghosts, ended, Op, Bulk, ToBulk, OthersStay, StoreAndSlots, Moment, snapshot_of, Fits, slot_of, CallRuns, VacuumMeans}
use Rattle.access_method.proofs.Imports.{Insert, Scan, Cleanup, get_some}
use Rattle.schedule.proofs.Fitting.{fits_from, beyond_of, matches_of, running_of}
use Rattle.schedule.specs.MomentInvariants.{SlotMatches, SlotRuns}
use Rattle.session_calls.specs.BulkDeletions.{IsBulkDeleteSoFar}
use Rattle.session_calls.specs.Ops.{set_at}
use Rattle.access_method.proofs.Imports.{vacuum_outcome, StatsCountEntries, StatsCountPages, removed_of, acts_by, AreOwnEffects, first_call, IsBulkDeletedOrLess}

-- what a bulk delete does says of no entry that it is there,
pub says_none : (dead : Row → Bool) (number : ℕ) (call : Call) (count : ℕ) (effects : List Effect) (e : Entry) → call.ask ≡ AskBulkDelete dead
    → AreOwnEffects call count effects
    → last_said (acts_by number effects) e ≡ Some true → ⊥
says_none dead number call count [] e ask own says = cc
says_none dead number call count (Add x ∷ effects) e ask own says = rw ask at own.0
says_none dead number call count (Shape ∷ effects) e ask own says = rw ask at own.0
says_none dead number call count (Remove es ∷ effects) e ask own says = of (last_said (acts_by number effects) e) (says_none dead number call (suc count) effects e ask own.1) refl says
  where
    removed : (b : Bool) → (if b then Some false else None) ≡ Some true → ⊥
    removed true h = cc
    removed false h = cc

    of : (o : Option Bool) → (last_said (acts_by number effects) e ≡ Some true → ⊥) → last_said (acts_by number effects) e ≡ o
        → later_or o (said_of (Remove es) e) ≡ Some true → ⊥
    of None later is h = removed (is_among es e) h
    of (Some b) later is h = later (is ∙ h)

-- and nothing of one whose row isn't dead;
pub says_nothing : (dead : Row → Bool) (number : ℕ) (call : Call) (count : ℕ) (effects : List Effect) (e : Entry) → call.ask ≡ AskBulkDelete dead
    → AreOwnEffects call count effects → dead e.row ≡ false
    → last_said (acts_by number effects) e ≡ None
says_nothing dead number call count [] e ask own alive = refl
says_nothing dead number call count (Add x ∷ effects) e ask own alive = absurd (rw ask at own.0)
says_nothing dead number call count (Shape ∷ effects) e ask own alive = absurd (rw ask at own.0)
says_nothing dead number call count (Remove es ∷ effects) e ask own alive =
    ap (λ (o : Option Bool). later_or o (said_of (Remove es) e)) (says_nothing dead number call (suc count) effects e ask own.1 alive) ∙ of (is_among es e) refl
  where
    of : (b : Bool) → is_among es e ≡ b → (if b then Some false else None) ≡ None
    of false is = refl
    of true is = absurd (let own_rows : (x : Entry) → is_among es x ≡ true → dead x.row ≡ true = rw ask at own.0 in let gone : dead e.row ≡ true = own_rows e is in cc)

-- it adds none
adds_none : (dead : Row → Bool) (number : ℕ) (call : Call) (count : ℕ) (effects : List Effect) (e : Entry) → call.ask ≡ AskBulkDelete dead
    → AreOwnEffects call count effects → IsAddedIn (acts_by number effects) e → ⊥
adds_none dead number call count [] e ask own added = added
adds_none dead number call count (Add x ∷ effects) e ask own added = rw ask at own.0
adds_none dead number call count (Shape ∷ effects) e ask own added = rw ask at own.0
adds_none dead number call count (Remove es ∷ effects) e ask own (inl is) = cc
adds_none dead number call count (Remove es ∷ effects) e ask own (inr later) = adds_none dead number call (suc count) effects e ask own.1 later

drop_front : {X : Type 0} (xs ys : List X) → drop (length xs) (xs ++ ys) ≡ ys
drop_front [] ys = refl
drop_front (x ∷ xs) ys = drop_front xs ys

-- a bulk delete over this set
module _ {S : Type 0} (g : Ghosts S) (index_own dead : Row → Bool) (old new : StoreAndSlots S) (sets_are : old.sets ≡ index_own ∷ dead ∷ []) (start : Entry → Bool)
    (history : List Action) (calls : List Call) (fits : Fits g start (snapshot_of old history calls)) where
  abbrev bulk_delete_call : Call
  bulk_delete_call = first_call 63 (ToBulk 1) (snapshot_of old history calls)

  asks : bulk_delete_call.ask ≡ AskBulkDelete dead
  asks = ap (λ (l : List (Row → Bool)). AskBulkDelete (unwrap_or (slice_get l 1) (λ row. false))) sets_are

  -- of an entry, before and after what it did
  module _ (then_history : List Action) (effects : List Effect) (own : AreOwnEffects bulk_delete_call (length history) effects) (is : then_history ≡ history ++ acts_by (length calls) effects) where
    abbrev said : Entry → Option Bool
    said e = last_said (acts_by (length calls) effects) e

    then_said : (e : Entry) → contents_after start then_history e ≡ unwrap_or (said e) (contents_after start history e)
    then_said e = ap (λ (l : List Action). contents_after start l e) is ∙ contents_after-append start history (acts_by (length calls) effects) e

    alive_stays : (e : Entry) → dead e.row ≡ false → contents_after start then_history e ≡ contents_after start history e
    alive_stays e alive = then_said e ∙ ap (λ (o : Option Bool). unwrap_or o (contents_after start history e)) (says_nothing dead (length calls) bulk_delete_call (length history) effects e asks own alive)

    was_there : (e : Entry) → contents_after start then_history e ≡ true → contents_after start history e ≡ true
    was_there e there = of (said e) refl (sym (then_said e) ∙ there)
      where
        of : (o : Option Bool) → said e ≡ o → unwrap_or o (contents_after start history e) ≡ true → contents_after start history e ≡ true
        of None at h = h
        of (Some false) at h = cc
        of (Some true) at h = absurd (says_none dead (length calls) bulk_delete_call (length history) effects e asks own at)

    between : actions_between (length history) (length then_history) then_history ≡ acts_by (length calls) effects
    between = ap (λ (l : List Action). drop (length history) l) (take_all (length then_history) then_history (omega arith) ∙ is) ∙ drop_front history (acts_by (length calls) effects)

    dead_is_gone : (stats : VacuumStats) → IsBulkDeleteAnswer start then_history (length calls) (length history) (length then_history) dead stats
        → (e : Entry) → dead e.row ≡ true → contents_after start then_history e ≡ false
    dead_is_gone stats right e gone = of (contents_after start then_history e) refl
      where
        of : (b : Bool) → contents_after start then_history e ≡ b → b ≡ false
        of false at = refl
        of true at =
            let before : is_there_after start then_history (length history) e ≡ true =
            ap (λ (l : List Action). is_there_after start l (length history) e) is
            ∙ there_before start history (acts_by (length calls) effects) (length history) e (omega arith) ∙ there_now start history e ∙ was_there e at in
            let now : is_there_after start then_history (length then_history) e ≡ true = there_now start then_history e ∙ at in
            absurd (adds_none dead (length calls) bulk_delete_call (length history) effects e asks own (subst (λ (l : List Action). IsAddedIn l e) between (right.gone e gone before now)))

  -- of an entry that was there or not, that is removed or not, and whose row is dead or not
  removed_so : (was removed dies : Bool) → (was && not removed) ≡ (was && not dies) → (removed ≡ true → was ≡ true) → removed ≡ (was && dies)
  removed_so true true true same there = refl
  removed_so true true false same there = absurd cc
  removed_so true false true same there = absurd cc
  removed_so true false false same there = refl
  removed_so false true dies same there = sym (there refl)
  removed_so false false dies same there = refl

  pub bulk_deleted_or_less : (result : Result VacuumStats Fault)
      → (r : CallRuns g 63 (VacuumMeans 63 (ToBulk 1) result) (vacuum_outcome result) old new start history calls) → StatsCountEntries (g.state new.store) result
      → IfOk result (λ stats. StatsCountPages (g.state new.store) stats × (stats.pages_newly_deleted ≡ 0))
      → IsBulkDeletedOrLess g dead result old.store new.store
  bulk_deleted_or_less (Ok stats) r left pages =
      let t = r.tells in
      let call : Call = ended bulk_delete_call (Vacuumed stats) (length r.then_history) in
      let found : slice_get r.then_calls (length calls) ≡ Some call = ap (λ (l : List Call). slice_get l (length calls)) t.calls_is ∙ get_append_new calls call in
      let meets : Meets start r.then_history (length calls) call = r.ran.fits.explains.meets (length calls) call found in
      let right : IsBulkDeleteAnswer start r.then_history (length calls) (length history) (length r.then_history) dead stats =
      subst (λ (l : List (Row → Bool)).
      IsBulkDeleteAnswer start r.then_history (length calls) (length history) (length r.then_history) (unwrap_or (slice_get l 1) (λ row. false)) stats) sets_are meets.right in
      let apt = remove_there start (length calls) r.then_calls call dead found asks history r.then_history t.effects t.history_is r.ran.fits.explains.owned in
      let after : (e : Entry) → contents_after start r.then_history e ≡ (contents_after start history e && not (dead e.row)) = λ e. of e (dead e.row) refl t.effects t.own t.history_is right in
      record {
        contents = λ e. r.ran.fits.explains.contents e ∙ after e ∙ ap (λ (b : Bool). b && not (dead e.row)) (sym (fits.explains.contents e));
        removed = record {
          listed = removed_of t.effects;
          once = all_once start (length calls) history t.effects apt;
          such = λ e. removed_so (contents_after start history e) (is_among (removed_of t.effects) e) (dead e.row)
              (sym (left_by_all start (length calls) history t.effects apt e) ∙ ap (λ (l : List Action). contents_after start l e) (sym t.history_is)
              ∙ after e) (all_were start (length calls) history t.effects apt e)
              ∙ ap (λ (b : Bool). b && dead e.row) (sym (fits.explains.contents e));
          many = right.removed ∙ ap (λ (l : List Action). removed_by (length calls) l) (between r.then_history t.effects t.own t.history_is) ∙ all_counted start (length calls) t.effects;
        };
        left = left;
        pages = pages.0;
        newly_deleted = pages.1;
      }
    where
      and_true : (b : Bool) → b ≡ (b && true)
      and_true true = refl
      and_true false = refl

      and_false : (b : Bool) → false ≡ (b && false)
      and_false true = refl
      and_false false = refl

      of : (e : Entry) (d : Bool) → dead e.row ≡ d → (effects : List Effect) → AreOwnEffects bulk_delete_call (length history) effects
          → r.then_history ≡ history ++ acts_by (length calls) effects
          → IsBulkDeleteAnswer start r.then_history (length calls) (length history) (length r.then_history) dead stats
          → contents_after start r.then_history e ≡ (contents_after start history e && not (dead e.row))
      of e false alive effects own is right = alive_stays r.then_history effects own is e alive ∙ and_true (contents_after start history e)
          ∙ ap (λ (d : Bool). contents_after start history e && not d) (sym alive)
      of e true gone effects own is right = dead_is_gone r.then_history effects own is stats right e gone ∙ and_false (contents_after start history e)
          ∙ ap (λ (d : Bool). contents_after start history e && not d) (sym gone)
  bulk_deleted_or_less (Err fault) r left pages =
      let t = r.tells in
      record {
        others = λ e alive. r.ran.fits.explains.contents e ∙ alive_stays r.then_history t.effects t.own t.history_is e alive ∙ sym (fits.explains.contents e);
        came = λ e there. fits.explains.contents e ∙ was_there r.then_history t.effects t.own t.history_is e (sym (r.ran.fits.explains.contents e) ∙ there);
      }

-- if each bulk delete that runs finds its set under the same number, a moment fits with other sets
module _ {S : Type 0} (g : Ghosts S) (start : Entry → Bool) (now : Moment S) (sets : List (Row → Bool)) where
  abbrev then_with : Moment S
  then_with = record now { sets = sets }

  abbrev Finds : ℕ → Type 0
  Finds set = set < length now.sets → slice_get sets set ≡ slice_get now.sets set

  same_slot : (session : ℕ) (slot : Option Op) → ((set : ℕ) (op : BulkDeleteOp) → slot ≡ Some (Bulk set op) → Finds set) → SlotMatches g start now session slot → SlotMatches g start then_with session slot
  same_slot session None finds h = record { none = h.none; idle = h.idle }
  same_slot session (Some (Insert op)) finds h = record {
    number = h.number;
    call = h.call;
    is = h.is;
    only = h.only;
    runs = record { ask = h.runs.ask; session = h.runs.session; added = h.runs.added; started = h.runs.started; fits = h.runs.fits; knows = h.runs.knows };
    deletions = tt;
  }
  same_slot session (Some (Scan op)) finds h = record {
    number = h.number;
    call = h.call;
    is = h.is;
    only = h.only;
    runs = record { ask = h.runs.ask; session = h.runs.session; added = h.runs.added; started = h.runs.started; fits = h.runs.fits; knows = h.runs.knows };
    deletions = tt;
  }
  same_slot session (Some (Cleanup op)) finds h = record {
    number = h.number;
    call = h.call;
    is = h.is;
    only = h.only;
    runs = record { ask = h.runs.ask; session = h.runs.session; added = h.runs.added; started = h.runs.started; fits = h.runs.fits; knows = h.runs.knows };
    deletions = tt;
  }
  same_slot session (Some (Bulk set op)) finds h =
      let found : slice_get sets set ≡ slice_get now.sets set = finds set op refl h.deletions.0 in
      let same : set_at sets set ≡ set_at now.sets set = ap (λ (o : Option (Row → Bool)). unwrap_or o (λ row. false)) found in
      let there = get_some now.sets set h.deletions.0 in
      record {
        number = h.number;
        call = h.call;
        is = h.is;
        only = h.only;
        runs = record {
          ask = h.runs.ask ∙ ap (λ (d : Row → Bool). AskBulkDelete d) (sym same);
          session = h.runs.session;
          added = h.runs.added;
          started = h.runs.started;
          fits = h.runs.fits;
          knows = h.runs.knows;
        };
        deletions = (
          slice_get_within sets set there.0 (found ∙ there.1),
          subst (λ (d : Row → Bool). IsBulkDeleteSoFar (g.state now.store) d start now.history h.number h.call.began op) (sym same) h.deletions.1,
        );
      }

  pub fits_as : ((session set : ℕ) (op : BulkDeleteOp) → slice_get now.slots session ≡ Some (Some (Bulk set op)) → Finds set) → Fits g start now → Fits g start then_with
  fits_as finds fits = fits_from (record {
    matches = (matches_of fits);
    unique = fits.explains.unique;
    running = λ session slot h. same_slot session slot (λ set op is. finds session set op (h ∙ ap Some is)) (running_of fits session slot h);
    vacuums = fits.invariant.vacuums;
    beyond = beyond_of fits;
    known = fits.explains.known;
    meets = fits.explains.meets;
    owned = fits.explains.owned;
  })

-- the number of the set of each bulk delete that runs is one of those that there are
pub within_sets : {S : Type 0} (g : Ghosts S) (start : Entry → Bool) (now : Moment S) → Fits g start now
    → (session set : ℕ) (op : BulkDeleteOp) → slice_get now.slots session ≡ Some (Some (Bulk set op)) → set < length now.sets
within_sets g start now fits session set op at = (let runs : SlotRuns g start now session (Bulk set op) = running_of fits session (Some (Bulk set op)) at in runs.deletions.0)

-- an index's own set has one number, whether there is another beside it
pub finds_own : (own dead : Row → Bool) (set : ℕ) → set < 1 → slice_get (own ∷ dead ∷ []) set ≡ slice_get (own ∷ []) set
finds_own own dead zero within = refl
finds_own own dead (suc n) within = absurd (omega (arith, within))

-- after a bulk delete that is over, those that run are those that ran before
pub runs_before : (old new : List (Option Op)) → OthersStay 63 old new → slot_of new 63 ≡ None
    → (session set : ℕ) (op : BulkDeleteOp) → slice_get new session ≡ Some (Some (Bulk set op)) → slice_get old session ≡ Some (Some (Bulk set op))
runs_before old new others over session set op at = elim (cases_eq session 63) [
  | inl same ↦ absurd (
      let here : slice_get new 63 ≡ Some (Some (Bulk set op)) = subst (λ (s : ℕ). slice_get new s ≡ Some (Some (Bulk set op))) same at in
      let some : slot_of new 63 ≡ Some (Bulk set op) = ap (λ (o : Option (Option Op)). unwrap_or o None) here in
      let none : Some (Bulk set op) ≡ None = sym some ∙ over in
      cc)
  | inr apart ↦ sym (others session apart) ∙ at
]

-- a stretch is crash-safe whatever the sets are
pub safe_within : {S : Type 0} (g : Ghosts S) (start : Entry → Bool) (first last : Moment S) (sets then_sets : List (Row → Bool))
    → (KeepsHistory g start (record first { sets = sets }) → IsCrashSafe g start (record first { sets = sets }) last)
    → KeepsHistory g start first → IsCrashSafe g start first (record last { sets = then_sets })
safe_within g start first last sets then_sets safe keeps =
    let s = safe (record { own = keeps.own; parts = keeps.parts; durable = keeps.durable }) in
    record {
      keeps = record { own = s.keeps.own; parts = s.keeps.parts; durable = s.keeps.durable };
      restarts = λ image left. (let p = s.restarts image left in record { part = p.part; from = p.from; to = p.to; pages = p.pages; restarts = p.restarts; are = p.are });
    }
