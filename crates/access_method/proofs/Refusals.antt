-- The causes of refusals of an index's calls, and what is left of them if nothing hinders a call.
use Rattle.latch_table.specs.Holdings.{holding_of, nothing_held}
use Rattle.page_delete.specs.Spares.{IsAlone}
use Rattle.std.proofs.Common.{◌≡◌, ℕ, Bool, true, false, true≢false, ◌||◌, nat_lt, nat_le, Option, Some, None, Result, Ok, Err, length, slice_get, refl, sym, ap, subst, arith, inl, inr, ◌∙◌, suc, [], ◌∷◌, List, not, ◌++◌}
use Rattle.session_calls.proofs.Meeting.{other_row_so}
use Rattle.access_method.proofs.Imports.{InsertIsRun, CallRuns, Event, IsRun, ForEachHistory, Fits, Answer, Call, Action, Op, Insert, Scan, Bulk, Cleanup, others_idle, VacuumStats, Row, is_none}
use Rattle.access_method.proofs.Imports.{IfErr, IsOk, unwrap_or, cases_lt, or_cases, ltb-true, leb-true, eqb-true, lt-ltb, HasCause, Entry, Fault, Format, NoMemory, Io, Stopped, Blocked, Exists}
use Rattle.access_method.proofs.Imports.{KeyTooLong, BadRow, IndexFull, LogFull, NoFrame, VacuumRunning, NoSession, SessionBusy, BadSuper, BadVersion, LogDamaged, PageDamaged, BadLimits, TooTall}
use Rattle.access_method.proofs.Imports.{DeviceTooSmall, KeyExists, has_failed, is_at_end, other_row_is_there, Ghosts, IsFaultCaused, is_vacuum, is_busy, ToInsert, ToBulk, ToCleanup, or_left, or_right}
use Rattle.access_method.proofs.Imports.{StoreAndSlots, Moment, snapshot_of, slot_of, slot_vacuums, one_vacuums, IsFreeSession, get_some, another_runs, causes_of_inserted, causes_of_called}
use Rattle.access_method.proofs.Imports.{is_tall, InsertCallIsCaused, causes_of_gone, Inserted, slots_within, has_entry, InsertsOrKeeps, slots_with, causes_of_run, causes_of_vacuum, causes_of_aminsert}
use Rattle.access_method.proofs.Imports.{none_is_left, InsertHasCause, NothingHinders, IsForWantOfSpace, IsOfSpace, InsertsUnhindered, Index, cases_eq}
use Rattle.schedule.proofs.Fitting.{beyond_of, running_of}

there_at : {S : Type 0} (old : Index S) → length old.calls.slots.items ≡ 64 → is_none (slice_get old.calls.slots.items 63) ≡ false
there_at old slots = (let at = get_some old.calls.slots.items 63 (omega (arith, slots)) in ap is_none at.1)

-- the log failed, or a counter is at its end
module _ {S : Type 0} (g : Ghosts S) (old : Index S) (new : S) where
  abbrev had : Bool
  had = (g.backing old.store).stopped

  abbrev failed : Bool
  failed = has_failed (g.backing old.store) (g.backing new)

  abbrev begun_all : Bool
  begun_all = is_at_end (g.state old.store).begun

  abbrev acted_all : Bool
  acted_all = nat_le 18446744073709551615 (g.state new).acts

  stopped_run : (had || (failed || (acted_all || false))) ≡ true → ((had || failed) || (begun_all || acted_all)) ≡ true
  stopped_run h = elim (or_cases had (failed || (acted_all || false)) h) [
    | inl stopped ↦ or_left (had || failed) (begun_all || acted_all) (or_left had failed stopped)
    | inr rest ↦ elim (or_cases failed (acted_all || false) rest) [
      | inl now ↦ or_left (had || failed) (begun_all || acted_all) (or_right had failed now)
      | inr ended ↦ or_right (had || failed) (begun_all || acted_all)
          (or_right begun_all acted_all (elim (or_cases acted_all false ended) [ inl all ↦ all | inr no_one ↦ absurd (true≢false (sym no_one)) ]))
    ]
  ]

  stopped_called : ((had || (failed || (acted_all || false))) || begun_all) ≡ true → ((had || failed) || (begun_all || acted_all)) ≡ true
  stopped_called h = elim (or_cases (had || (failed || (acted_all || false))) begun_all h) [
    | inl run ↦ stopped_run run
    | inr begun ↦ or_right (had || failed) (begun_all || acted_all) (or_left begun_all acted_all begun)
  ]

  -- there is a session for inserts, which runs nothing
  module _ (inserts : slot_of old.calls.slots.items 63 ≡ None) (slots : length old.calls.slots.items ≡ 64) (entry : Entry) where
    free : is_busy (slot_of old.calls.slots.items 63) ≡ false
    free = ap is_busy inserts

    there : is_none (slice_get old.calls.slots.items 63) ≡ false
    there = there_at old slots

    refused_cause : (was_there : Bool) (key_was : Row → Bool) (used_up tall : Bool) (fault : Fault) → (fault ≡ Exists → was_there ≡ true)
        → ((row : Row) → fault ≡ KeyExists row → (g.state new).format.unique ≡ true → key_was row ≡ true)
        → HasCause (causes_of_called g 63 (ToInsert entry) (slots_within old) (causes_of_inserted g 63 5 true (λ r. (g.state new).format.unique) used_up tall (slots_within old) new)) fault
        → HasCause (causes_of_aminsert g was_there key_was used_up tall old new) fault
    refused_cause was_there key_was used_up tall Stopped was key h = stopped_called h
    refused_cause was_there key_was used_up tall Exists was key h = was refl
    refused_cause was_there key_was used_up tall (KeyExists row) was key h = key row refl h
    refused_cause was_there key_was used_up tall NoSession was key h = absurd (true≢false (sym h ∙ there))
    refused_cause was_there key_was used_up tall SessionBusy was key h = absurd (true≢false (sym h ∙ free))
    refused_cause was_there key_was used_up tall fault was key h = h

    left_cause : (used_up tall : Bool) (unfinished : Option Fault) → IsFaultCaused (causes_of_inserted g 63 5 false (λ r. false) used_up tall (slots_within old) new) unfinished
        → IsFaultCaused (causes_of_aminsert g false (λ r. false) used_up tall old new) unfinished
    left_cause used_up tall None h = tt
    left_cause used_up tall (Some Stopped) h = stopped_run h
    left_cause used_up tall (Some fault) h = h

    pub insert_cause : (g.state new).format ≡ (g.state old.store).format → (result : Result Inserted Fault) → InsertsOrKeeps g entry result old.store new
        → InsertCallIsCaused g 63 5 entry (slots_within old) new result → InsertHasCause g entry result old new
    insert_cause format (Ok inserted) told h = left_cause (none_is_left (g.state old.store).begun (g.state new)) (is_tall (g.state new)) inserted.unfinished h
    insert_cause format (Err fault) told h =
        refused_cause (has_entry g old.store entry) (other_row_is_there (g.state old.store) entry) (none_is_left (g.state old.store).begun (g.state new)) (is_tall (g.state new)) fault told.was_there
        (λ row is unique. (let key = told.key_was_there row is in other_row_so (g.state old.store) entry row (ap (λ (f : Format). f.unique) (sym format) ∙ unique) key.0 key.1)) h

-- a run leaves the number of frames as it was
run_frames : {S : Type 0} (g : Ghosts S) (start : Entry → Bool) (told : List Answer) (events : List Event) (answers : List Answer)
    (first last : Moment S) → IsRun g start told events answers first last
    → (g.state last.store).frames ≡ (g.state first.store).frames
run_frames {S} g start told [] [] first last is = ap (λ (m : Moment S). (g.state m.store).frames) (sym is)
run_frames g start told [] (answer ∷ answers) first last is = absurd is
run_frames g start told (event ∷ events) [] first last is = absurd is
run_frames g start told (event ∷ events) (answer ∷ answers) first last is = run_frames g start (told ++ answer ∷ []) events answers is.1.0 last is.1.2 ∙ is.1.1.also.quiet.frames

-- ... and the limits
run_format : {S : Type 0} (g : Ghosts S) (start : Entry → Bool) (told : List Answer) (events : List Event) (answers : List Answer)
    (first last : Moment S) → IsRun g start told events answers first last
    → (g.state last.store).format ≡ (g.state first.store).format
run_format {S} g start told [] [] first last is = ap (λ (m : Moment S). (g.state m.store).format) (sym is)
run_format g start told [] (answer ∷ answers) first last is = absurd is
run_format g start told (event ∷ events) [] first last is = absurd is
run_format g start told (event ∷ events) (answer ∷ answers) first last is = run_format g start (told ++ answer ∷ []) events answers is.1.0 last is.1.2 ∙ is.1.1.also.quiet.format

pub format_stays : {S : Type 0} (g : Ghosts S) (session : ℕ) (Tells : Moment S → Moment S → Type 0) (came : Option Answer) (old new : StoreAndSlots S)
    (start : Entry → Bool) (history : List Action) (calls : List Call)
    → CallRuns g session Tells came old new start history calls → (g.state new.store).format ≡ (g.state old.store).format
format_stays g session Tells came old new start history calls r = run_format g start [] r.events r.answers (snapshot_of old history calls) (snapshot_of new r.then_history r.then_calls) r.ran.run

pub insert_format : {S : Type 0} (g : Ghosts S) (entry : Entry) (result : Result Inserted Fault) (old new : StoreAndSlots S)
    → InsertIsRun g 63 entry result old new → ForEachHistory g old new (λ start history calls. (g.state new.store).format ≡ (g.state old.store).format)
insert_format g entry (Ok inserted) old new (inl goes) honest start history calls fits = format_stays g 63 _ _ old new start history calls (goes honest start history calls fits)
insert_format g entry (Ok inserted) old new (inr cut) honest start history calls fits = format_stays g 63 _ _ old new start history calls (cut.goes honest start history calls fits)
insert_format g entry (Err fault) old new goes honest start history calls fits = format_stays g 63 _ _ old new start history calls (goes honest start history calls fits)

pub frames_stay : {S : Type 0} (g : Ghosts S) (session : ℕ) (Tells : Moment S → Moment S → Type 0) (came : Option Answer) (old new : StoreAndSlots S)
    (start : Entry → Bool) (history : List Action) (calls : List Call)
    → CallRuns g session Tells came old new start history calls → (g.state new.store).frames ≡ (g.state old.store).frames
frames_stay g session Tells came old new start history calls r = run_frames g start [] r.events r.answers (snapshot_of old history calls) (snapshot_of new r.then_history r.then_calls) r.ran.run

pub insert_frames : {S : Type 0} (g : Ghosts S) (entry : Entry) (result : Result Inserted Fault) (old new : StoreAndSlots S)
    → InsertIsRun g 63 entry result old new → ForEachHistory g old new (λ start history calls. (g.state new.store).frames ≡ (g.state old.store).frames)
insert_frames g entry (Ok inserted) old new (inl goes) honest start history calls fits = frames_stay g 63 _ _ old new start history calls (goes honest start history calls fits)
insert_frames g entry (Ok inserted) old new (inr cut) honest start history calls fits = frames_stay g 63 _ _ old new start history calls (cut.goes honest start history calls fits)
insert_frames g entry (Err fault) old new goes honest start history calls fits = frames_stay g 63 _ _ old new start history calls (goes honest start history calls fits)

-- what nothing hinders
module _ {S : Type 0} (g : Ghosts S) (session : ℕ) (old : Index S) (new : S) (un : NothingHinders g session old new) (same_frames : (g.state new).frames ≡ (g.state old.store).frames) where
  none_failed : has_failed (g.backing old.store) (g.backing new) ≡ true → ⊥
  none_failed h =
      let k = ltb-true (g.backing old.store).failures (g.backing new).failures h in
      let same = un.failures in
      omega (arith, k, same)

  none_stopped : (((g.backing old.store).stopped || has_failed (g.backing old.store) (g.backing new)) ||
      (is_at_end (g.state old.store).begun || nat_le 18446744073709551615 (g.state new).acts)) ≡ true → ⊥
  none_stopped h = elim
      (or_cases ((g.backing old.store).stopped || has_failed (g.backing old.store) (g.backing new)) (is_at_end (g.state old.store).begun || nat_le 18446744073709551615 (g.state new).acts) h) [
        | inl log ↦ elim (or_cases (g.backing old.store).stopped (has_failed (g.backing old.store) (g.backing new)) log) [
          | inl had ↦ true≢false (sym had ∙ un.alive)
          | inr now ↦ none_failed now
        ]
        | inr count ↦ elim (or_cases (is_at_end (g.state old.store).begun) (nat_le 18446744073709551615 (g.state new).acts) count) [
          | inl begun ↦ (let k = eqb-true (g.state old.store).begun 18446744073709551615 begun in let low = un.begun in omega (arith, k, low))
          | inr acts ↦ (let k = leb-true 18446744073709551615 (g.state new).acts acts in let low = un.acts in omega (arith, k, low))
        ]
      ]

  none_pinned : (another_runs old.calls.slots.items session || nat_lt (g.state new).frames 4) ≡ true → ⊥
  none_pinned h = elim (or_cases (another_runs old.calls.slots.items session) (nat_lt (g.state new).frames 4) h) [
    | inl busy ↦ true≢false (sym busy ∙ un.alone)
    | inr few ↦ (let k = ltb-true (g.state new).frames 4 few in let many = un.frames in omega (arith, k, many, same_frames))
  ]

  -- a call that is refused for nothing of its own isn't refused
  pub run_unhindered : (fault : Fault) → HasCause (causes_of_run g session old new) fault → ⊥
  run_unhindered Io h = none_failed h
  run_unhindered Stopped h = none_stopped h
  run_unhindered (Blocked b) h = true≢false (sym h ∙ un.alone)
  run_unhindered NoFrame h = none_pinned h
  run_unhindered NoMemory h = true≢false (sym h)
  run_unhindered Exists h = true≢false (sym h)
  run_unhindered KeyTooLong h = h
  run_unhindered BadRow h = h
  run_unhindered IndexFull h = true≢false (sym h)
  run_unhindered LogFull h = true≢false (sym h)
  run_unhindered VacuumRunning h = true≢false (sym h)
  run_unhindered NoSession h = true≢false (sym h)
  run_unhindered SessionBusy h = true≢false (sym h)
  run_unhindered BadSuper h = h
  run_unhindered BadVersion h = h
  run_unhindered LogDamaged h = h
  run_unhindered (PageDamaged b) h = true≢false (sym h)
  run_unhindered BadLimits h = h
  run_unhindered TooTall h = true≢false (sym h)
  run_unhindered DeviceTooSmall h = h
  run_unhindered (KeyExists row) h = true≢false (sym h)

-- ... of an insert
module _ {S : Type 0} (g : Ghosts S) (entry : Entry) (old : Index S) (new : S) (un : NothingHinders g 63 old new) (same_frames : (g.state new).frames ≡ (g.state old.store).frames) where
  refused_unhindered : (fault : Fault)
      → HasCause (causes_of_aminsert g (has_entry g old.store entry) (other_row_is_there (g.state old.store) entry)
      (none_is_left (g.state old.store).begun (g.state new)) (is_tall (g.state new)) old new) fault
      → IsForWantOfSpace g entry old.store new fault
  refused_unhindered Exists h = h
  refused_unhindered (KeyExists row) h = h
  refused_unhindered IndexFull h = h
  refused_unhindered TooTall h = h
  refused_unhindered fault h = absurd (run_unhindered g 63 old new un same_frames fault h)

  left_unhindered : (unfinished : Option Fault)
      → IsFaultCaused (causes_of_aminsert g false (λ r. false) (none_is_left (g.state old.store).begun (g.state new)) (is_tall (g.state new)) old new)
      unfinished → IsOfSpace (g.state old.store).begun (g.state new) unfinished
  left_unhindered None h = tt
  left_unhindered (Some IndexFull) h = h
  left_unhindered (Some TooTall) h = h
  left_unhindered (Some fault) h = absurd (run_unhindered g 63 old new un same_frames fault h)

  pub insert_unhindered : (result : Result Inserted Fault) → InsertHasCause g entry result old new → InsertsUnhindered g entry result old.store new
  insert_unhindered (Ok inserted) h = left_unhindered inserted.unfinished h
  insert_unhindered (Err fault) h = refused_unhindered fault h

-- no session runs a bulk delete or a cleanup
none_vacuums : (slots : List (Option Op)) → ((session : ℕ) (op : Op) → slice_get slots session ≡ Some (Some op) → is_vacuum op ≡ true → ⊥)
    → one_vacuums slots ≡ false
none_vacuums [] none = refl
none_vacuums (None ∷ slots) none = none_vacuums slots (λ session op at. none (suc session) op at)
none_vacuums (Some (Insert op) ∷ slots) none = none_vacuums slots (λ session op at. none (suc session) op at)
none_vacuums (Some (Scan op) ∷ slots) none = none_vacuums slots (λ session op at. none (suc session) op at)
none_vacuums (Some (Bulk set op) ∷ slots) none = absurd (none 0 (Bulk set op) refl refl)
none_vacuums (Some (Cleanup op) ∷ slots) none = absurd (none 0 (Cleanup op) refl refl)

pub calm_slots : (slots : List (Option Op)) → ((session : ℕ) → slot_vacuums (slot_of slots session) ≡ false) → one_vacuums slots ≡ false
calm_slots slots none = none_vacuums slots (λ session op at is. true≢false (sym is ∙ sym (ap (λ (o : Option (Option Op)). slot_vacuums (unwrap_or o None)) at) ∙ none session))

-- if no open scan's call runs, nobody else holds a page
pub all_alone : {S : Type 0} (g : Ghosts S) (start : Entry → Bool) (now : Moment S) → Fits g start now → another_runs now.slots 63 ≡ false
    → IsAlone (g.state now.store) 63
all_alone g start now fits idle other differ = by (slice_get now.slots other) refl
  where
    none : slot_of now.slots other ≡ None
    none = others_idle now.slots 63 idle other differ

    some_none : {A : Type 0} (x : A) → Some x ≡ None → ⊥
    some_none x e = cc

    by : (o : Option (Option Op)) → slice_get now.slots other ≡ o → holding_of (g.state now.store).table other ≡ nothing_held
    by None at = elim (cases_lt other (length now.slots)) [
      | inl lt ↦ absurd (let s = get_some now.slots other lt in some_none s.0 (sym s.1 ∙ at))
      | inr ge ↦ (beyond_of fits other ge).holds
    ]
    by (Some None) at = (let free : IsFreeSession g now other = running_of fits other None at in free.idle.holds)
    by (Some (Some op)) at = absurd (let same : Some op ≡ None = sym (ap (λ (o : Option (Option Op)). unwrap_or o None) at) ∙ none in cc)

-- if no other call runs than that of inserts, none vacuums
pub calm_alone : (slots : List (Option Op)) → slot_of slots 63 ≡ None → another_runs slots 63 ≡ false → one_vacuums slots ≡ false
calm_alone slots inserts idle = calm_slots slots (λ session. elim (cases_eq session 63) [
  | inl same ↦ ap slot_vacuums (subst (λ (n : ℕ). slot_of slots n ≡ None) (sym same) inserts)
  | inr apart ↦ ap slot_vacuums (others_idle slots 63 idle session apart)
])

-- why a bulk delete is refused
module _ {S : Type 0} (g : Ghosts S) (dead : Row → Bool) (old : Index S) (new : S) (inserts : slot_of old.calls.slots.items 63 ≡ None)
    (slots : length old.calls.slots.items ≡ 64) where
  no_sets : (not (nat_lt 1 (length ((λ (row : Row). false) ∷ dead ∷ []))) || is_none (slice_get old.calls.slots.items 63)) ≡ true → ⊥
  no_sets h = elim (or_cases (not (nat_lt 1 (length ((λ (row : Row). false) ∷ dead ∷ [])))) (is_none (slice_get old.calls.slots.items 63)) h) [
    | inl no_set ↦ true≢false (sym no_set ∙ ap not (lt-ltb 1 2 (omega arith)))
    | inr no_session ↦ true≢false (sym no_session ∙ there_at old slots)
  ]

  sweep_cause : (fault : Fault)
      → HasCause (causes_of_called g 63 (ToBulk 1) (slots_with dead old) (causes_of_gone g 63 5 false (slots_with dead old) new)) fault → HasCause (causes_of_vacuum g 63 old new) fault
  sweep_cause Stopped h = stopped_called g old new h
  sweep_cause NoSession h = absurd (no_sets h)
  sweep_cause SessionBusy h = absurd (true≢false (sym h ∙ ap is_busy inserts))
  sweep_cause fault h = h

  pub swept_cause : (result : Result VacuumStats Fault)
      → IfErr result (HasCause (causes_of_called g 63 (ToBulk 1) (slots_with dead old) (causes_of_gone g 63 5 false (slots_with dead old) new)))
      → IfErr result (HasCause (causes_of_vacuum g 63 old new))
  swept_cause (Ok stats) h = tt
  swept_cause (Err fault) h = sweep_cause fault h

-- why a cleanup is refused
module _ {S : Type 0} (g : Ghosts S) (old : Index S) (new : S) (inserts : slot_of old.calls.slots.items 63 ≡ None)
    (slots : length old.calls.slots.items ≡ 64) where
  clean_cause : (fault : Fault) → HasCause (causes_of_called g 63 ToCleanup (slots_within old) (causes_of_gone g 63 5 false (slots_within old) new)) fault
      → HasCause (causes_of_vacuum g 63 old new) fault
  clean_cause Stopped h = stopped_called g old new h
  clean_cause NoSession h = absurd (true≢false (sym h ∙ there_at old slots))
  clean_cause SessionBusy h = absurd (true≢false (sym h ∙ ap is_busy inserts))
  clean_cause fault h = h

  pub cleaned_cause : (result : Result VacuumStats Fault)
      → IfErr result (HasCause (causes_of_called g 63 ToCleanup (slots_within old) (causes_of_gone g 63 5 false (slots_within old) new)))
      → IfErr result (HasCause (causes_of_vacuum g 63 old new))
  cleaned_cause (Ok stats) h = tt
  cleaned_cause (Err fault) h = clean_cause fault h

-- why a scan gives nothing
pub give_cause : {S : Type 0} (g : Ghosts S) (session : ℕ) (old : Index S) (new : S) (fault : Fault)
    → HasCause (causes_of_gone g session 5 false (slots_within old) new) fault → HasCause (causes_of_run g session old new) fault
give_cause g session old new Stopped h = stopped_run g old new h
give_cause g session old new fault h = h

-- a bulk delete or a cleanup that nothing hinders, and that is refused for nothing of its own
pub finishes : {S X : Type 0} (g : Ghosts S) (old : Index S) (new : S) (result : Result X Fault) → slot_of old.calls.slots.items 63 ≡ None → NothingHinders g 63 old new
    → (g.state new).frames ≡ (g.state old.store).frames → IfErr result (HasCause (causes_of_vacuum g 63 old new)) → IsOk result
finishes g old new (Ok x) inserts un same h = refl
finishes g old new (Err fault) inserts un same h = absurd (run_unhindered g 63 old new un same fault (apart fault h))
  where
    apart : (f : Fault) → HasCause (causes_of_vacuum g 63 old new) f → HasCause (causes_of_run g 63 old new) f
    apart VacuumRunning is = absurd (true≢false (sym is ∙ calm_alone old.calls.slots.items inserts un.alone))
    apart f is = is
