-- What an event of one session leaves the others: the frame of a running call's event, of a beginning and of
-- a refusal.
use Rattle.std.proofs.Common.{◌≡◌, ◌≢◌, ℕ, suc, ◌-◌, ◌<◌, ◌≤◌, Bool, true, false, refl, Option, Some, None, List, ◌++◌, length, slice_get, slice_set, sym, ap, subst, arith, inl, inr, ◌∙◌, length-append}
use Rattle.index_model.specs.Calls.{Ask, AskInsert, AskScan, AskBulkDelete, AskCleanup, Ending, Running, Added, Finished, Vacuumed, GivenUp, Failed, Call, Meets, MayAct, IsOwned, end_of}
use Rattle.schedule.proofs.Imports.{unwrap_or, cases_eq, cases_lt, Effect, Add, Remove, Shape, Action, contents_after, is_there_after, Entry, Format, there_before, meets_later, Ghosts, OthersRely}
use Rattle.schedule.proofs.Imports.{PinnedLeafPagesStay, LeafPagesStay, asked_of, is_vacuum, acts_of, Matches, IsIdle, SlotIs, IsAsked, cycle_after, asks_cleanup, OpDeletions, SlotDeletions, Op}
use Rattle.schedule.proofs.Imports.{Insert, Scan, Bulk, Cleanup, deletions_undisturbed, IsSameCall, undisturbed, idle_undisturbed, Moment, IsRunningCall, Fits, slot_of, slot_vacuums, SlotRuns}
use Rattle.schedule.proofs.Imports.{SlotMatches}
use Rattle.schedule.proofs.Leaves.{leaves_last}
use Rattle.schedule.proofs.Lists.{get_set_same, get_set_other, length_set, get_within, get_append, get_append_right, same_some}
use Rattle.schedule.proofs.Keys.{keys_go_on}
use Rattle.schedule.proofs.Owners.{acts_few, add_stays, own_action}
use Rattle.schedule.proofs.Vacuums.{vacuums_go, cycle_kept, calm_sweep, calm_cleanup}
use Rattle.schedule.proofs.Fitting.{fits_from, beyond_of, running_of}

-- what was there before actions that came later
may_later : (start : Entry → Bool) (history acts : List Action) (before : ℕ) (effect : Effect) (ask : Ask) (added : Option ℕ) → before ≤ length history
    → MayAct (is_there_after start history before) (suc before) effect ask added → MayAct (is_there_after start (history ++ acts) before) (suc before) effect ask added
may_later start history acts before (Add e) (AskInsert x) added le h = (h.0, h.1, there_before start history acts before e le ∙ h.2)
may_later start history acts before (Add e) (AskScan r) added le h = h
may_later start history acts before (Add e) (AskBulkDelete d) added le h = h
may_later start history acts before (Add e) AskCleanup added le h = h
may_later start history acts before (Remove es) (AskInsert x) added le h = h
may_later start history acts before (Remove es) (AskScan r) added le h = h
may_later start history acts before (Remove es) (AskBulkDelete d) added le h =
    (h.0, h.1, λ e among. ((h.2 e among).0, there_before start history acts before e le ∙ (h.2 e among).1))
may_later start history acts before (Remove es) AskCleanup added le h = h
may_later start history acts before Shape (AskInsert x) added le h = h
may_later start history acts before Shape (AskScan r) added le h = h
may_later start history acts before Shape (AskBulkDelete d) added le h = h
may_later start history acts before Shape AskCleanup added le h = h

-- a call that keeps its Add keeps what it owned
may_kept : (was_there : Entry → Bool) (action : ℕ) (effect : Effect) (ask : Ask) (added after : Option ℕ) → ((k : ℕ) → added ≡ Some k → after ≡ Some k)
    → MayAct was_there action effect ask added → MayAct was_there action effect ask after
may_kept was_there action (Add e) (AskInsert x) added after keeps h = (h.0, keeps action h.1, h.2)
may_kept was_there action (Add e) (AskScan r) added after keeps h = h
may_kept was_there action (Add e) (AskBulkDelete d) added after keeps h = h
may_kept was_there action (Add e) AskCleanup added after keeps h = h
may_kept was_there action (Remove es) (AskInsert x) added after keeps h = h
may_kept was_there action (Remove es) (AskScan r) added after keeps h = h
may_kept was_there action (Remove es) (AskBulkDelete d) added after keeps h = h
may_kept was_there action (Remove es) AskCleanup added after keeps h = h
may_kept was_there action Shape (AskInsert x) added after keeps h = h
may_kept was_there action Shape (AskScan r) added after keeps h = h
may_kept was_there action Shape (AskBulkDelete d) added after keeps h = h
may_kept was_there action Shape AskCleanup added after keeps h = h

-- an interval that has reached so far does so still
until_of : (history acts : List Action) (x : Ending) (k n : ℕ) → suc n ≤ end_of history x k → suc n ≤ end_of (history ++ acts) x k
until_of history acts Running k n h = omega (arith, length-append history acts)
until_of history acts (Added y f) k n h = h
until_of history acts Finished k n h = h
until_of history acts (Vacuumed y) k n h = h
until_of history acts GivenUp k n h = h
until_of history acts (Failed f) k n h = h

-- a running call began within the history
pub began_within : {S : Type 0} (g : Ghosts S) (start : Entry → Bool) (now : Moment S) (session number : ℕ) (call : Call) → Fits g start now
    → IsRunningCall now.calls session number call → call.began ≤ length now.history
began_within g start now session number call fits is =
    let meets : call.began ≤ end_of now.history call.ending call.until = (fits.explains.meets number call is.found).began in
    subst (λ (x : Ending). call.began ≤ end_of now.history x call.until) is.running meets

-- what a session runs, as its slot says
pub slot_is : (slots : List (Option Op)) (session : ℕ) (slot : Option Op) → slice_get slots session ≡ Some slot → slot_of slots session ≡ slot
slot_is slots session slot found = ap (λ (o : Option (Option Op)). unwrap_or o None) found

module _ {S : Type 0} (g : Ghosts S) (start : Entry → Bool) (old : Moment S) (store : S) (session : ℕ) (after : Call) (effect : Option Effect) (op : Op) (slot : Option Op)
    (fits : Fits g start old) (at : slice_get old.slots session ≡ Some (Some op)) (runs : SlotRuns g start old session op)
    (same : IsSameCall (old.history ++ acts_of runs.number effect) (length old.history) effect runs.call after)
    (asked : IsAsked (contents_after start old.history) runs.call.ask runs.call.added effect)
    (others : OthersRely session (g.state old.store) (g.state store)) (pinned : PinnedLeafPagesStay session (g.state old.store) (g.state store))
    (format : (g.state store).format ≡ (g.state old.store).format)
    (world : Matches (g.state store) start (old.history ++ acts_of runs.number effect)) (meets : Meets start (old.history ++ acts_of runs.number effect) runs.number after)
    (holds : SlotIs (g.state store) old.sets start (old.history ++ acts_of runs.number effect) after slot)
    (cycle : (g.state store).cycle ≡ cycle_after runs.call.ask slot (g.state old.store).cycle)
    (leaves : asks_cleanup runs.call.ask ≡ false → (g.state store).cycle ≡ (g.state old.store).cycle → LeafPagesStay effect (g.state old.store) (g.state store))
    (deletions : SlotDeletions (g.state store) old.sets start (old.history ++ acts_of runs.number effect) runs.number after.began slot) where
  abbrev acts : List Action
  acts = acts_of runs.number effect

  here : slice_get (slice_set old.calls runs.number after) runs.number ≡ Some after
  here = get_set_same old.calls runs.number after (get_within old.calls runs.number runs.call runs.is.found)

  session_is : after.session ≡ session
  session_is = same.session ∙ runs.is.session_is

  elsewhere : (j : ℕ) → j ≢ runs.number → slice_get (slice_set old.calls runs.number after) j ≡ slice_get old.calls j
  elsewhere j ne = get_set_other old.calls runs.number j after ne

  is_after : (j : ℕ) (c : Call) → j ≡ runs.number → slice_get (slice_set old.calls runs.number after) j ≡ Some c → c ≡ after
  is_after j c e h = same_some (slice_get (slice_set old.calls runs.number after) runs.number) c after (subst (λ (k : ℕ). slice_get (slice_set old.calls runs.number after) k ≡ Some c) e h) here

  -- a running call of the session can only be this one
  mine : (j : ℕ) (c : Call) → IsRunningCall (slice_set old.calls runs.number after) session j c → (j ≡ runs.number) × (c ≡ after)
  mine j c r = elim (cases_eq j runs.number) [
    | inl e ↦ (e, is_after j c e r.found)
    | inr ne ↦ absurd (ne (runs.only j c (record { found = sym (elsewhere j ne) ∙ r.found; session_is = r.session_is; running = r.running })))
  ]

  -- a running call of another session was so before
  theirs : (u j : ℕ) (c : Call) → u ≢ session → IsRunningCall (slice_set old.calls runs.number after) u j c → IsRunningCall old.calls u j c
  theirs u j c ne r = elim (cases_eq j runs.number) [
    | inl e ↦ absurd (ne (sym r.session_is ∙ (ap (λ (x : Call). x.session) (is_after j c e r.found) ∙ session_is)))
    | inr n ↦ record { found = sym (elsewhere j n) ∙ r.found; session_is = r.session_is; running = r.running }
  ]

  slot_mine : (o : Option Op) → SlotIs (g.state store) old.sets start (old.history ++ acts) after o → SlotDeletions (g.state store) old.sets start (old.history ++ acts) runs.number after.began o
      → SlotMatches g start
      (record { store = store; slots = slice_set old.slots session slot; sets = old.sets; history = old.history ++ acts; calls = slice_set old.calls runs.number after }) session o
  slot_mine None h to_sweep = record {
    none = λ j c r. h.0 (subst (λ (x : Call). x.ending ≡ Running) (mine j c r).1 r.running);
    idle = subst (λ (u : ℕ). IsIdle (g.state store) u) session_is h.1;
  }
  slot_mine (Some next) h to_sweep = record {
    number = runs.number;
    call = after;
    is = record { found = here; session_is = session_is; running = h.0 };
    only = λ j c r. (mine j c r).0;
    runs = h.1;
    deletions = to_sweep;
  }

  -- the cycle number after the event, by what the session runs
  cycle_by : (g.state store).cycle ≡ cycle_after (asked_of old.sets op) slot (g.state old.store).cycle
  cycle_by = subst (λ (x : Ask). (g.state store).cycle ≡ cycle_after x slot (g.state old.store).cycle) runs.runs.ask cycle

  -- if another session runs a bulk delete, this one runs neither that nor a cleanup, and leaves stay
  stay_for : (u : ℕ) → u ≢ session → slot_vacuums (slot_of old.slots u) ≡ true → LeafPagesStay effect (g.state old.store) (g.state store)
  stay_for u ne theirs_runs = by (is_vacuum op) refl
    where
      by : (b : Bool) → is_vacuum op ≡ b → LeafPagesStay effect (g.state old.store) (g.state store)
      by true is = absurd (ne (fits.invariant.vacuums.alone u session theirs_runs (ap slot_vacuums (slot_is old.slots session (Some op) at) ∙ is)))
      by false is = leaves (ap asks_cleanup runs.runs.ask ∙ calm_cleanup old.sets op is) (cycle_by ∙ cycle_kept old.sets op slot (g.state old.store).cycle (calm_sweep op is))

  -- what another session's bulk delete has to remove is to come still
  sweep_theirs : (u : ℕ) (other : Op) (number began : ℕ) → u ≢ session → slot_of old.slots u ≡ Some other → number ≢ runs.number → began ≤ length old.history
      → OpDeletions (g.state old.store) old.sets start old.history number began other → OpDeletions (g.state store) old.sets start (old.history ++ acts) number began other
  sweep_theirs u (Insert x) number began ne is apart within h = tt
  sweep_theirs u (Scan x) number began ne is apart within h = tt
  sweep_theirs u (Cleanup x) number began ne is apart within h = tt
  sweep_theirs u (Bulk set x) number began ne is apart within h =
      deletions_undisturbed (g.state old.store) (g.state store) old.sets start old.history number runs.number began effect (Bulk set x) (stay_for u ne (ap slot_vacuums is)) (λ e. apart (sym e)) within h

  slot_theirs : (u : ℕ) (o : Option Op) → u ≢ session → slice_get old.slots u ≡ Some o → SlotMatches g start old u o
      → SlotMatches g start (record { store = store; slots = slice_set old.slots session slot; sets = old.sets; history = old.history ++ acts; calls = slice_set old.calls runs.number after }) u o
  slot_theirs u None ne in_slot h = record { none = λ j c r. h.none j c (theirs u j c ne r); idle = idle_undisturbed (g.state old.store) (g.state store) u (others u ne) h.idle }
  slot_theirs u (Some other) ne in_slot h =
      let apart : h.number ≢ runs.number = λ e. (
      let k : h.call ≡ runs.call = same_some (slice_get old.calls runs.number) h.call runs.call (subst (λ (i : ℕ). slice_get old.calls i ≡ Some h.call) e h.is.found) runs.is.found in
      ne (sym h.is.session_is ∙ (ap (λ (x : Call). x.session) k ∙ runs.is.session_is))) in
      record {
        number = h.number;
        call = h.call;
        is = record { found = elsewhere h.number apart ∙ h.is.found; session_is = h.is.session_is; running = h.is.running };
        only = λ j c r. h.only j c (theirs u j c ne r);
        runs = undisturbed (g.state old.store) (g.state store) old.sets start old.history acts h.call other (others h.call.session (λ e. ne (sym h.is.session_is ∙ e)))
            (leaves_last session h.call.session (g.state old.store) (g.state store) (λ e. ne (sym h.is.session_is ∙ e)) pinned) h.runs;
        deletions = sweep_theirs u other h.number h.call.began ne (slot_is old.slots u (Some other) in_slot) apart (began_within g start old u h.number h.call fits h.is) h.deletions;
      }

  -- after the event, what the session asked is as it was
  asks_still : (next : Op) → slot ≡ Some next → asked_of old.sets next ≡ asked_of old.sets op
  asks_still next is = sym (subst (λ (o : Option Op). SlotIs (g.state store) old.sets start (old.history ++ acts) after o) is holds).1.ask ∙ same.ask ∙ runs.runs.ask

  -- an action of before is owned still
  owned_still : (before : ℕ) (a : Action) → before < length old.history → IsOwned start old.history old.calls before a
      → IsOwned start (old.history ++ acts) (slice_set old.calls runs.number after) before a
  owned_still before a lt was = elim (cases_eq a.by runs.number) [
    | inl e ↦ (
        let k : was.call ≡ runs.call = same_some (slice_get old.calls runs.number) was.call runs.call (subst (λ (j : ℕ). slice_get old.calls j ≡ Some was.call) e was.found) runs.is.found in
        let since : runs.call.began ≤ before = subst (λ (c : Call). c.began ≤ before) k was.since in
        let may : MayAct (is_there_after start old.history before) (suc before) a.effect runs.call.ask runs.call.added =
        subst (λ (c : Call). MayAct (is_there_after start old.history before) (suc before) a.effect c.ask c.added) k was.may in
        record {
          call = after;
          found = subst (λ (j : ℕ). slice_get (slice_set old.calls runs.number after) j ≡ Some after) (sym e) here;
          since = (let b : after.began ≡ runs.call.began = same.began in omega arith);
          until = (let u : end_of (old.history ++ acts) after.ending after.until ≡ length (old.history ++ acts) = same.until in omega (arith, length-append old.history acts));
          may = may_later start old.history acts before a.effect after.ask after.added (omega arith)
              (may_kept (is_there_after start old.history before) (suc before) a.effect after.ask runs.call.added after.added
              (λ action had. same.added ∙ add_stays (contents_after start old.history) runs.call.ask runs.call.added (suc (length old.history)) effect asked action had)
              (subst (λ (x : Ask). MayAct (is_there_after start old.history before) (suc before) a.effect x runs.call.added) (sym same.ask) may));
        })
    | inr n ↦ (
        record {
          call = was.call;
          found = elsewhere a.by n ∙ was.found;
          since = was.since;
          until = until_of old.history acts was.call.ending was.call.until before was.until;
          may = may_later start old.history acts before a.effect was.call.ask was.call.added (omega arith) was.may;
        })
  ]

  -- an action of this event is owned by its call
  owned_now : (before : ℕ) (a : Action) → length old.history ≤ before → slice_get (old.history ++ acts) before ≡ Some a
      → IsOwned start (old.history ++ acts) (slice_set old.calls runs.number after) before a
  owned_now before a ge h =
      let own = own_action start old.history runs.number runs.call.ask runs.call.added effect asked (before - length old.history) a (sym (get_append_right old.history acts before ge) ∙ h) in
      let q : length old.history ≡ before = (let z : before - length old.history ≡ 0 = own.0 in omega arith) in
      let within : before < length (old.history ++ acts) = get_within (old.history ++ acts) before a h in
      let began : runs.call.began ≤ length old.history = began_within g start old session runs.number runs.call fits runs.is in
      record {
        call = after;
        found = subst (λ (j : ℕ). slice_get (slice_set old.calls runs.number after) j ≡ Some after) (sym own.1) here;
        since = (let b : after.began ≡ runs.call.began = same.began in omega arith);
        until = (let u : end_of (old.history ++ acts) after.ending after.until ≡ length (old.history ++ acts) = same.until in omega arith);
        may = subst (λ (j : ℕ). MayAct (is_there_after start (old.history ++ acts) j) (suc j) a.effect after.ask after.added) q
            (subst (λ (x : Ask). MayAct (is_there_after start (old.history ++ acts) (length old.history)) (suc (length old.history)) a.effect x after.added) (sym same.ask)
            (subst (λ (o : Option ℕ). MayAct (is_there_after start (old.history ++ acts) (length old.history)) (suc (length old.history)) a.effect runs.call.ask o) (sym same.added) own.2));
      }

  pub goes_fits : Fits g start (record { store = store; slots = slice_set old.slots session slot; sets = old.sets; history = old.history ++ acts; calls = slice_set old.calls runs.number after })
  goes_fits = fits_from (record {
    matches = world;
    unique = λ asked. keys_go_on (g.state store) start old.history acts (acts_few runs.number effect) world asked
        (fits.explains.unique (ap (λ (f : Format). f.unique) (sym format) ∙ asked));
    running = λ u o h. elim (cases_eq u session) [
      | inl e ↦ (
          let k : o ≡ slot = same_some (slice_get (slice_set old.slots session slot) session) o slot (subst (λ (i : ℕ). slice_get (slice_set old.slots session slot) i ≡ Some o) e h)
          (get_set_same old.slots session slot (get_within old.slots session (Some op) at)) in
          subst (λ (i : ℕ). SlotMatches g start
          (record { store = store; slots = slice_set old.slots session slot; sets = old.sets; history = old.history ++ acts; calls = slice_set old.calls runs.number after }) i o) (sym e)
          (subst (λ (x : Option Op).
          SlotMatches g start (record {
            store = store;
            slots = slice_set old.slots session slot;
            sets = old.sets;
            history = old.history ++ acts;
            calls = slice_set old.calls runs.number after;
          }) session x) (sym k) (slot_mine slot holds deletions)))
      | inr n ↦ slot_theirs u o n (sym (get_set_other old.slots session u slot n) ∙ h) (running_of fits u o (sym (get_set_other old.slots session u slot n) ∙ h))
    ];
    vacuums = vacuums_go (g.state old.store) (g.state store) old.sets old.slots session op slot (get_within old.slots session (Some op) at)
        (slot_is old.slots session (Some op) at) cycle_by asks_still fits.invariant.vacuums;
    beyond = λ u far. (
        let many : length (slice_set old.slots session slot) ≡ length old.slots = length_set old.slots session slot in
        let within : session < length old.slots = get_within old.slots session (Some op) at in
        let apart : u ≢ session = λ e. absurd (let x : u ≡ session = e in omega arith) in
        idle_undisturbed (g.state old.store) (g.state store) u (others u apart) (beyond_of fits u (omega arith)));
    known = λ i c h. rw (length_set old.slots session slot) (elim (cases_eq i runs.number) [
      | inl e ↦ (
          let w : session < length old.slots = get_within old.slots session (Some op) at in
          let q : c.session ≡ session = ap (λ (x : Call). x.session) (is_after i c e h) ∙ session_is in
          omega arith)
      | inr n ↦ fits.explains.known i c (sym (elsewhere i n) ∙ h)
    ]);
    meets = λ i c h. elim (cases_eq i runs.number) [
      | inl e ↦ subst (λ (j : ℕ). Meets start (old.history ++ acts) j c) (sym e) (subst (λ (x : Call). Meets start (old.history ++ acts) runs.number x) (sym (is_after i c e h)) meets)
      | inr n ↦ meets_later start old.history acts i c (fits.explains.meets i c (sym (elsewhere i n) ∙ h))
    ];
    owned = λ before a h. elim (cases_lt before (length old.history)) [
      | inl lt ↦ owned_still before a lt (fits.explains.owned before a (sym (get_append old.history acts before lt) ∙ h))
      | inr ge ↦ owned_now before a ge h
    ];
  })
