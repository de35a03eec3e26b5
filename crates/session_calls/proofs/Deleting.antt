-- The steps of a bulk delete over histories.
use Rattle.std.proofs.Common.{◌≡◌, ℕ, suc, ◌+◌, ◌<◌, ◌≤◌, ◌==◌, if◌then◌else◌, Bool, true, false, true≢false, Option, Some, None, List, [], ◌∷◌, ◌++◌, length, drop, get_or, slice_get, map, refl, sym, ap, subst, ◌∙◌, arith, inl, inr, ◌⊎◌}
use Rattle.std.specs.Option.{option_map}
use Rattle.vacuum.specs.Ops.{next_block}
use Rattle.vacuum.specs.Vacuuming.{DueIsToCome}
use Rattle.page_delete.proofs.Tallying.{deleted_alike}
use Rattle.page_delete.specs.Spares.{OnlyNeededStay}
use Rattle.session_calls.proofs.Imports.{unwrap_or, append-nil, take_all, slice_get-map, slice_get-get_or, eqb_tells, Effect, Add, Remove, Shape, Action, contents_after, is_there_after, Ask}
use Rattle.session_calls.proofs.Imports.{AskBulkDelete, Vacuumed, Call, AnswersRight, IsBulkDeleteAnswer, actions_between, IsAddedIn, removed_by, Meets, Circumstances, HasCause, same_entry}
use Rattle.session_calls.proofs.Imports.{is_among, Row, Entry, Fault, VacuumStats, same_entry-is, same_entry-self, there_now, entry_on_live_leaf, State, Backing, HasEffect, BulkDeleteContinues}
use Rattle.session_calls.proofs.Imports.{BulkDeleteEnds, BulkDeleteStays, removes, dead_at, causes_of_deleting, IsDueOf, Page, stats_of, IsCounted, entries_below, BulkDeleteOp, AllIsCleaned}
use Rattle.session_calls.proofs.Imports.{set_at, ends_call, DeadSets, acts_of, causes_of_stepped, runs_bulk_delete, CallFits, IsAsked, add_after, ended, OpEvent, let_go, slot_after, SlotIsCounted}
use Rattle.session_calls.proofs.Imports.{CountsAllEntries, CountsAllCleaned, CountsPages, CountsEntries, SparesLeaves, OnlyNeededAreLeft, IsDue, IsBulkDeleteSoFar, Answer, Begun, Going, Added}
use Rattle.session_calls.proofs.Imports.{Ready, Done, Finished, Gave, Ended, Forced, Flushed, Checkpointed, Refused, Op, Insert, Scan, Bulk, Cleanup}
use Rattle.session_calls.proofs.Effects.{works_on, works_nothing, go_pages}
use Rattle.session_calls.proofs.Going.{step_goes_on, step_is_refused}
use Rattle.session_calls.proofs.Meeting.{began_before}
use Rattle.session_calls.proofs.Vacuuming.{due_before, longer_by, removed_append}

-- the set at a place of the sets
pub set_found : {T : Type 0} (is_in : T → Row → Bool) (sets : List T) (set : ℕ) (dead : T) → set < length sets → dead ≡ get_or sets set dead → is_in dead ≡ set_at (map is_in sets) set
set_found {T} is_in sets set dead inside is =
    let found : slice_get sets set ≡ Some dead = slice_get-get_or sets set dead inside ∙ ap Some (sym is) in
    sym (ap (λ (o : Option (Row → Bool)). unwrap_or o (λ row. false)) (slice_get-map is_in sets set ∙ ap (λ (o : Option T). option_map is_in o) found))

same_number : (n : ℕ) → (n == n) ≡ true
same_number n = elim (eqb_tells n n) [ inl same ↦ same.0 | inr differ ↦ absurd (differ.1 refl) ]

own_removed : (number : ℕ) (es : List Entry) → removed_by number (acts_of number (removes es)) ≡ length es
own_removed number [] = refl
own_removed number (e ∷ es) = rw (same_number number) (omega arith)

-- an entry is added among these actions, or isn't
abbrev IsAddedOr : List Action → Entry → Type 0
IsAddedOr l e = IsAddedIn l e ⊎ (IsAddedIn l e → ⊥)

adds_or : (f : Effect) (e : Entry) → (f ≡ Add e) ⊎ (f ≡ Add e → ⊥)
adds_or (Add x) e = by (same_entry x e) refl
  where
    by : (b : Bool) → same_entry x e ≡ b → (Add x ≡ Add e) ⊎ (Add x ≡ Add e → ⊥)
    by true is = inl (ap Add (same_entry-is x e is))
    by false is = inr (λ h. (let k : x ≡ e = cc in true≢false (sym (same_entry-self x) ∙ ap (same_entry x) k ∙ is)))
adds_or (Remove es) e = inr (λ h. absurd cc)
adds_or Shape e = inr (λ h. absurd cc)

added_or : (l : List Action) (e : Entry) → IsAddedOr l e
added_or [] e = inr (λ h. h)
added_or (a ∷ l) e = by (adds_or a.effect e) (added_or l e)
  where
    by : ((a.effect ≡ Add e) ⊎ (a.effect ≡ Add e → ⊥)) → IsAddedOr l e → IsAddedOr (a ∷ l) e
    by (inl is) rest = inl (inl is)
    by (inr not) (inl h) = inl (inr h)
    by (inr not) (inr none) = inr (λ h. elim h [ inl is ↦ not is | inr more ↦ none more ])

-- what was counted after a step, by the set at its place
pub counted_on : (sets : DeadSets) (set : ℕ) (dead : Row → Bool) (new : State) (after : BulkDeleteOp) → dead ≡ set_at sets set → IsCounted dead new after → IsCounted (set_at sets set) new after
counted_on sets set dead new after is h = subst (λ (d : Row → Bool). IsCounted d new after) is h

-- ... after one that is refused
pub counted_still : (sets : DeadSets) (st : State) (set : ℕ) (op : BulkDeleteOp) (fault : Fault) → IsCounted (set_at sets set) st op → SlotIsCounted sets st (slot_after (Refused fault) (Bulk set op))
counted_still sets st set op fault h = by (ends_call fault)
  where
    by : (b : Bool) → SlotIsCounted sets st (if b then None else Some (Bulk set op))
    by true = tt
    by false = h

-- at the end of a call the leaves are as they were
needed_still : (v : Bool) (session : ℕ) (mid : State) → OnlyNeededStay mid → OnlyNeededStay (let_go v session mid)
needed_still false session mid h block e = h block (record { above = e.above; inside = e.inside; alive = e.alive; leaf = e.leaf; empty = e.empty })
needed_still true session mid h block e = h block (record { above = e.above; inside = e.inside; alive = e.alive; leaf = e.leaf; empty = e.empty })

pub spares_over : (v : Bool) (session : ℕ) (old mid : State) (before after : Option Op) (answer : Answer) → SparesLeaves old mid before after answer
    → SparesLeaves old (let_go v session mid) before None answer
spares_over v session old mid None after answer h = tt
spares_over v session old mid (Some (Insert op)) after answer h = tt
spares_over v session old mid (Some (Scan op)) after answer h = tt
spares_over v session old mid (Some (Bulk set op)) after answer h = tt
spares_over v session old mid (Some (Cleanup op)) after answer h = λ order below fits alone sparing. (tt, needs answer (h order below fits alone sparing).1)
  where
    needs : (a : Answer) → OnlyNeededAreLeft mid a → OnlyNeededAreLeft (let_go v session mid) a
    needs Begun t = tt
    needs Going t = tt
    needs (Added x u) t = tt
    needs (Ready r) t = tt
    needs Done t = tt
    needs (Finished stats) t = needed_still v session mid t
    needs (Gave x) t = tt
    needs Ended t = tt
    needs (Forced n) t = tt
    needs (Flushed b) t = tt
    needs (Checkpointed n) t = tt
    needs (Refused f) t = tt

-- at the end of a call as many pages are deleted as were
pub deletes_over : (v : Bool) (session : ℕ) (old mid : State) (before after : Option Op) (answer : Answer) → CountsPages old mid before after answer
    → CountsPages old (let_go v session mid) before None answer
deletes_over v session old mid (Some (Cleanup op)) after Going h = tt
deletes_over v session old mid (Some (Cleanup op)) after (Finished stats) h = ap (λ (n : ℕ). n + op.deleted) (deleted_alike mid (let_go v session mid) (go_pages v session mid)) ∙ h
deletes_over v session old mid before after answer h = tt

-- what is clean is of the pages alone
all_cleaned : (v : Bool) (session : ℕ) (mid : State) (count : ℕ) → AllIsCleaned mid count → AllIsCleaned (let_go v session mid) count
all_cleaned false session mid count h = record { counted = h.counted; none_dead = h.none_dead }
all_cleaned true session mid count h = record { counted = h.counted; none_dead = h.none_dead }

-- at the end of a call the pages are as they were
pub tells_over : (sets : DeadSets) (v : Bool) (session : ℕ) (old mid : State) (before after : Option Op) (answer : Answer)
    → CountsEntries sets old mid before after answer → CountsEntries sets old (let_go v session mid) before None answer
tells_over sets v session old mid None after answer h = tt
tells_over sets v session old mid (Some (Insert op)) after answer h = tt
tells_over sets v session old mid (Some (Scan op)) after answer h = tt
tells_over sets v session old mid (Some (Cleanup op)) after answer h = λ fits cleaned. (tt, tells answer (h fits cleaned).1)
  where
    tells : (a : Answer) → CountsAllCleaned mid a → CountsAllCleaned (let_go v session mid) a
    tells Begun t = tt
    tells Going t = tt
    tells (Added x u) t = tt
    tells (Ready r) t = tt
    tells Done t = tt
    tells (Finished stats) t = all_cleaned v session mid stats.num_index_tuples t
    tells (Gave x) t = tt
    tells Ended t = tt
    tells (Forced n) t = tt
    tells (Flushed b) t = tt
    tells (Checkpointed n) t = tt
    tells (Refused f) t = tt
tells_over sets v session old mid (Some (Bulk set op)) after answer h = λ counted. (tt, tells (h counted).1)
  where
    tells : CountsAllEntries mid answer → CountsAllEntries (let_go v session mid) answer
    tells told = by answer told
      where
        by : (a : Answer) → CountsAllEntries mid a → CountsAllEntries (let_go v session mid) a
        by Begun t = tt
        by Going t = tt
        by (Added x u) t = tt
        by (Ready r) t = tt
        by Done t = tt
        by (Finished stats) t = subst (λ (pages : List Page). stats.num_index_tuples ≡ entries_below pages (length pages)) (sym (go_pages v session mid)) t
        by (Gave x) t = tt
        by Ended t = tt
        by (Forced n) t = tt
        by (Flushed b) t = tt
        by (Checkpointed n) t = tt
        by (Refused f) t = tt

module _ {sets : DeadSets} (old new : State) (first second : Backing) (start : Entry → Bool) (history : List Action) (number : ℕ) (call : Call) (set : ℕ) (before after : BulkDeleteOp)
    (fits : CallFits old sets start history number call (Bulk set before)) (session : after.session ≡ before.session) where
  abbrev dead : Row → Bool
  dead = set_at sets set

  abbrev at_op : Circumstances
  at_op = causes_of_stepped sets (Bulk set before) old first second

  within : call.began ≤ length history
  within = began_before start history number call fits.meets fits.running

  asked_of_rows : (es : List Entry) → HasEffect (removes es) old new → ((e : Entry) → is_among es e ≡ true → dead e.row ≡ true)
      → IsAsked (contents_after start history) (AskBulkDelete dead) call.added (removes es)
  asked_of_rows [] changes rows = tt
  asked_of_rows (e ∷ es) changes rows = (rows, (changes.apt.0, changes.apt.1, λ x among. sym (fits.world.contents x) ∙ changes.apt.2 x among))

  asked : (es : List Entry) → HasEffect (removes es) old new → ((e : Entry) → is_among es e ≡ true → dead e.row ≡ true)
      → IsAsked (contents_after start history) call.ask call.added (removes es)
  asked es changes rows = subst (λ (a : Ask). IsAsked (contents_after start history) a call.added (removes es)) (sym fits.runs.ask) (asked_of_rows es changes rows)

  none_added : (es : List Entry) → None ≡ add_after None (suc (length history)) (removes es)
  none_added [] = refl
  none_added (e ∷ es) = refl

  -- what is due is to come after a step
  module _ (step : BulkDeleteContinues dead old new before after)
      (comes : (due : Entry → Bool) → IsDueOf dead due → DueIsToCome due old before.cursor before.backtrack → DueIsToCome due new after.cursor after.backtrack) where
    abbrev gone : List Entry
    gone = dead_at dead old (next_block before.cursor before.backtrack)

    so_far : IsBulkDeleteSoFar new dead start (history ++ acts_of number (removes gone)) number call.began after
    so_far = record {
      runs = ap (λ (c : ℕ). runs_bulk_delete (record old { cycle = c })) step.does.leaves.cycle ∙ fits.deletions.1.runs;
      to_come = λ due are. comes due (λ e is. (are e is).row)
          (fits.deletions.1.to_come due (λ e is. due_before dead start history number call.began (removes gone) within e (are e is)));
      removed = (
          let more = ap (removed_by number) (longer_by dead start history number call.began (removes gone) within) in
          let sum = removed_append number (drop call.began history) (acts_of number (removes gone)) in
          let own = own_removed number gone in
          let was : before.removed ≡ removed_by number (drop call.began history) = fits.deletions.1.removed in
          let is : after.removed ≡ before.removed + length gone = step.count in
          omega (arith, more, sum, own, was, is)
          );
    }

    pub bulk_goes_on : OpEvent at_op old new sets start history number call (Bulk set after) Going
    bulk_goes_on = step_goes_on at_op old new start history number call (Bulk set before) (Bulk set after) fits session refl (removes gone)
        (works_on before.session (AskBulkDelete dead) (removes gone) old new refl step.does)
        (asked gone step.does.changes step.dead_rows) (none_added gone) step.fits tt (fits.deletions.0, so_far)

  -- at the end none is there that was due
  module _ (stats : VacuumStats) (step : BulkDeleteEnds old new before after) (told : stats ≡ stats_of old before)
      (gone : (due : Entry → Bool) → IsDueOf dead due → DueIsToCome due old before.cursor before.backtrack → (e : Entry) → due e ≡ true → entry_on_live_leaf new.pages e ≡ false) where
    now_is : actions_between call.began (length history) history ≡ drop call.began history
    now_is = ap (λ (l : List Action). drop call.began l) (take_all (length history) history (omega arith))

    is_one : (e : Entry) → IsDue dead start history call.began e → (x : Entry) → same_entry e x ≡ true → IsDue dead start history call.began x
    is_one e is x same = subst (λ (y : Entry). IsDue dead start history call.began y) (same_entry-is e x same) is

    not_there : (e : Entry) → IsDue dead start history call.began e → contents_after start history e ≡ false
    not_there e is =
        let one : (x : Entry) → same_entry e x ≡ true → IsDue dead start history call.began x = is_one e is in
        sym (fits.world.contents e) ∙ ap (λ (st : State). entry_on_live_leaf st.pages e) (sym step.state)
        ∙ gone (same_entry e) (λ x same. (one x same).row) (fits.deletions.1.to_come (same_entry e) one) e (same_entry-self e)

    gone_or_added : (e : Entry) → IsAddedOr (drop call.began history) e → dead e.row ≡ true → is_there_after start history call.began e ≡ true
        → is_there_after start history (length history) e ≡ true → IsAddedIn (drop call.began history) e
    gone_or_added e (inl added) row was still = added
    gone_or_added e (inr none) row was still =
        absurd (true≢false (sym still ∙ there_now start history e ∙ not_there e (record { row = row; was_there = was; not_added = none })))

    answer : IsBulkDeleteAnswer start history number call.began (length history) dead stats
    answer = record {
      gone = λ e row was still. subst (λ (l : List Action). IsAddedIn l e) (sym now_is) (gone_or_added e (added_or (drop call.began history) e) row was still);
      removed = ap (λ (s : VacuumStats). s.tuples_removed) told ∙ fits.deletions.1.removed ∙ ap (removed_by number) (sym now_is);
    }

    pub bulk_finishes : OpEvent at_op old new sets start history number call (Bulk set after) (Finished stats)
    bulk_finishes = record {
      effect = None;
      then_call = ended call (Vacuumed stats) (length history);
      works = works_nothing call.session call.ask old new step.state fits.world.order;
      asked = tt;
      told = record { none = refl; after_is = refl };
      caused = tt;
      meets = subst (λ (l : List Action). Meets start l number (ended call (Vacuumed stats) (length history))) (sym (append-nil history)) (record {
        began = within;
        until = omega arith;
        right = subst (λ (a : Ask). AnswersRight start history number call.began (length history) a call.given call.added (Vacuumed stats)) (sym fits.runs.ask) answer;
      });
      holds = λ h. cc;
      deletions = λ more. absurd (true≢false more);
    }

  pub bulk_is_refused : (fault : Fault) → BulkDeleteStays old new before after → HasCause (causes_of_deleting dead old first second before) fault
      → OpEvent at_op old new sets start history number call (Bulk set after) (Refused fault)
  bulk_is_refused fault stays cause =
      step_is_refused at_op old new start history number call (Bulk set before) (Bulk set after) fits session refl fault stays.state
      (ap (λ (op : BulkDeleteOp). Bulk set op) stays.op) cause (λ ends. refl) (λ e asks there. absurd cc) (λ e asks r there. absurd cc)
