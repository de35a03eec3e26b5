-- Each event of a world that is fitted, by its kind.
use Rattle.std.proofs.Common.{◌≡◌, ◌≢◌, ℕ, zero, suc, ◌<◌, ◌≤◌, ◌⊎◌, ◌||◌, Bool, true, false, true≢false, Option, Some, None, Err, List, [], ◌∷◌, ◌++◌, length, slice_get, slice_set, refl, sym, ap, subst, arith, inl, inr, ◌∙◌}
use Rattle.session_calls.proofs.Counting.{due_still}
use Rattle.schedule.proofs.Imports.{unwrap_or, append-nil, append_cancel_left, cases_eq, ltb-true, Effect, Action, Call, Meets, IsOwned, Circumstances, HasCause, Entry, Format, Fault, Stopped}
use Rattle.schedule.proofs.Imports.{NoSession, SessionBusy, causes_of_forced, State, IsLater, Ghosts, OthersRely, PinnedLeafPagesStay, IsDueIn, HasSteps, DeadSets, asked_by, acts_of, begun_call}
use Rattle.schedule.proofs.Imports.{op_before, asks_vacuum, asks_bulk_delete, is_vacuum, is_bulk_delete, runs_bulk_delete, no_call_begins, IsOfSets, IsCaused, Matches, OpRuns, CallFits, SlotFits}
use Rattle.schedule.proofs.Imports.{IsIdle, after_request, SessionEvent, SessionBegins, OnlyOwnAreIncomplete, OpDeletions, Answer, Begun, Forced, Flushed, Checkpointed, Refused, Op, Insert, Scan}
use Rattle.schedule.proofs.Imports.{Bulk, Cleanup, Request, ToInsert, ToScan, ToBulk, ToCleanup, LeafPagesStay, grown, deletions_undisturbed, told_same, undisturbed, idle_undisturbed, Moment}
use Rattle.schedule.proofs.Imports.{IsRunningCall, EventDoes, Fits, slot_of, slot_vacuums, one_vacuums, slot_has_call, is_of_sets, session_to_begin, here_at, SlotRuns, IsFreeSession, SlotMatches}
use Rattle.schedule.proofs.Imports.{slot_is_bulk_delete, OneVacuums, Move, Steps, Takes, GivesUp, Upkeep, Forces, Flushes, Checkpoints, Kind, BeginsCall, MovesCall, MaintainsStore, IsDurable}
use Rattle.schedule.proofs.Imports.{UpkeepAnswerMeans, UpkeepIsDurable, IsOfSession, Stays, kept_answer, MovesOn, MayBegin, causes_of_begun_at, causes_of_moving, Happens, causes_of_happening}
use Rattle.schedule.proofs.Imports.{OthersStay, session_at, EventAlways, CallIsFollowed, SameButForActs, EventRuns}
use Rattle.schedule.proofs.Frames.{began_within, slot_is, goes_fits}
use Rattle.schedule.proofs.Keeping.{no_growth}
use Rattle.schedule.proofs.Leaves.{leaf_same, leaves_same, lows_relied, lows_still}
use Rattle.schedule.proofs.Lists.{get_set_same, get_set_other, length_set, get_within, get_append_some, get_append_new, get_append_cases, same_some}
use Rattle.schedule.proofs.Owners.{told_durable, acts_few}
use Rattle.schedule.proofs.Vacuums.{before_vacuum, before_sweep, calm_request, none_runs, vacuums_still, sweep_begins, cleanup_begins, set_is}
use Rattle.schedule.proofs.Meaning.{does_of}
use Rattle.schedule.proofs.Fitting.{fits_from, beyond_of, matches_of, running_of}

-- what an event leaves as it was: a call is due after as many steps on the same pages, within the same limits
leaves_be : {S : Type 0} (g : Ghosts S) (kind : Kind) (old new : Moment S) → (g.state new.store).format ≡ (g.state old.store).format → (g.state new.store).frames ≡ (g.state old.store).frames
    → (new.history ≡ old.history → (g.state new.store).pages ≡ (g.state old.store).pages)
    → ((session : ℕ) → IsOfSession session kind → OthersStay session old.slots new.slots) → SameButForActs g kind old new
leaves_be g kind old new format frames pages others = record {
  format = format;
  frames = frames;
  pages = pages;
  due = λ quiet session other of apart steps due.
      subst (λ (slot : Option Op). IsDueIn (g.state new.store) slot steps) (sym (ap (λ (o : Option (Option Op)). unwrap_or o None) (others session of other apart)))
      (due_still (g.state old.store) (g.state new.store) (slot_of old.slots other) steps format (pages quiet) due);
}

-- nothing at all is changed but the log and the device
stays_be : {S : Type 0} (g : Ghosts S) (kind : Kind) (old new : Moment S) → g.state new.store ≡ g.state old.store → new.slots ≡ old.slots → SameButForActs g kind old new
stays_be g kind old new same slots = leaves_be g kind old new (ap (λ (st : State). st.format) same) (ap (λ (st : State). st.frames) same) (λ quiet. ap (λ (st : State). st.pages) same)
    (λ session of other apart. ap (λ (s : List (Option Op)). slice_get s other) slots)

-- the slot of one session is set: what holds of what it ran and runs
pub at_slots : (slots : List (Option Op)) (session : ℕ) (before slot : Option Op) (P : Option Op → Option Op → Type 0) → slice_get slots session ≡ Some before → P before slot
    → P (slot_of slots session) (slot_of (slice_set slots session slot) session)
at_slots slots session before slot P found h =
    let was : slot_of slots session ≡ before = ap (λ (o : Option (Option Op)). unwrap_or o None) found in
    let is : slot_of (slice_set slots session slot) session ≡ slot = set_is slots session slot (get_within slots session before found) in
    subst (λ (x : Option Op). P x (slot_of (slice_set slots session slot) session)) (sym was) (subst (λ (x : Option Op). P before x) (sym is) h)

-- the other slots stay
pub others_stay_set : (slots : List (Option Op)) (session : ℕ) (slot : Option Op) → (s : ℕ) → session ≡ s → OthersStay s slots (slice_set slots session slot)
others_stay_set slots session slot s same other apart = get_set_other slots session other slot (λ e. apart (e ∙ same))

-- the running call of a session fits
pub call_fits : {S : Type 0} (g : Ghosts S) (start : Entry → Bool) (old : Moment S) (session : ℕ) (op : Op) → Fits g start old
    → (runs : SlotRuns g start old session op) → CallFits (g.state old.store) old.sets start old.history runs.number runs.call op
call_fits g start old session op fits runs =
    record { world = (matches_of fits); running = runs.is.running; meets = fits.explains.meets runs.number runs.call runs.is.found; runs = runs.runs; deletions = runs.deletions }

-- nothing that a moment shows is changed but the log and the device
pub fits_still : {S : Type 0} (g : Ghosts S) (start : Entry → Bool) (old : Moment S) (store : S) → g.state store ≡ g.state old.store → Fits g start old
    → Fits g start (record { store = store; slots = old.slots; sets = old.sets; history = old.history; calls = old.calls })
fits_still {S} g start old store same fits = fits_from (record {
  matches = subst (λ (st : State). Matches st start old.history) (sym same) (matches_of fits);
  unique = λ asked. fits.explains.unique (ap (λ (st : State). st.format.unique) (sym same) ∙ asked);
  running = λ u o h. slot_still u o (running_of fits u o h);
  vacuums = subst (λ (st : State). OneVacuums st old.slots) (sym same) fits.invariant.vacuums;
  beyond = λ u far. subst (λ (st : State). IsIdle st u) (sym same) (beyond_of fits u far);
  known = fits.explains.known;
  meets = fits.explains.meets;
  owned = fits.explains.owned;
})
  where
    slot_still : (u : ℕ) (o : Option Op) → SlotMatches g start old u o
        → SlotMatches g start (record { store = store; slots = old.slots; sets = old.sets; history = old.history; calls = old.calls }) u o
    slot_still u None h = record { none = h.none; idle = subst (λ (st : State). IsIdle st u) (sym same) h.idle }
    slot_still u (Some op) h = record {
      number = h.number;
      call = h.call;
      is = h.is;
      only = h.only;
      runs = subst (λ (st : State). OpRuns st old.sets start old.history h.call op) (sym same) h.runs;
      deletions = subst (λ (st : State). OpDeletions st old.sets start old.history h.number h.call.began op) (sym same) h.deletions;
    }

-- a move of a running call
module _ {S : Type 0} (g : Ghosts S) (start : Entry → Bool) (old : Moment S) (store : S) (session : ℕ) (op : Op) (slot : Option Op) (move : Move) (at : Circumstances) (answer : Answer)
    (fits : Fits g start old) (found : slice_get old.slots session ≡ Some (Some op)) (follows : g.follows old.store store) (later : IsLater (g.backing old.store) (g.backing store))
    (goes : (number : ℕ) (call : Call) → SlotFits (g.state old.store) old.sets start old.history number call (Some op)
    → SessionEvent at (g.state old.store) (g.state store) old.sets start old.history number call slot answer)
    (where_is : causes_of_moving g old.sets old.store store move (Some (Some op)) ≡ at)
    (always : EventAlways g (MovesCall session move) answer (here_at old) (record { store = store; slots = slice_set old.slots session slot; sets = old.sets }))
    (followed : (start' : Entry → Bool) (l : List Action) (n : ℕ) (c : Call) → SlotFits (g.state old.store) old.sets start' l n c (Some op)
    → CallIsFollowed (MovesCall session move) old.sets answer (g.state old.store) (g.state store) (Some op) slot) where
  runs : SlotRuns g start old session op
  runs = running_of fits session (Some op) found

  fit : CallFits (g.state old.store) old.sets start old.history runs.number runs.call op
  fit = call_fits g start old session op fits runs

  one : SessionEvent at (g.state old.store) (g.state store) old.sets start old.history runs.number runs.call slot answer
  one = goes runs.number runs.call fit

  others : OthersRely session (g.state old.store) (g.state store)
  others = subst (λ (t : ℕ). OthersRely t (g.state old.store) (g.state store)) runs.is.session_is one.others

  pinned : PinnedLeafPagesStay session (g.state old.store) (g.state store)
  pinned = subst (λ (t : ℕ). PinnedLeafPagesStay t (g.state old.store) (g.state store)) runs.is.session_is one.pinned

  new : Moment S
  new = record { store = store; slots = slice_set old.slots session slot; sets = old.sets; history = old.history ++ acts_of runs.number one.effect; calls = slice_set old.calls runs.number one.after }

  new_fits : Fits g start new
  unfolding new
  new_fits = goes_fits g start old store session one.after one.effect op slot fits found runs
      (told_same (old.history ++ acts_of runs.number one.effect) (length old.history) one.effect runs.call one.after runs.is.running (grown old.history runs.number one.effect) answer one.told)
      one.asked others pinned one.format one.world one.meets one.holds one.cycle one.leaves one.deletions

  no_effect : (effect : Option Effect) → old.history ++ acts_of runs.number effect ≡ old.history → effect ≡ None
  no_effect None same = refl
  no_effect (Some e) same = absurd (let none : acts_of runs.number (Some e) ≡ [] = append_cancel_left old.history (acts_of runs.number (Some e)) [] (same ∙ sym (append-nil old.history)) in cc)

  move_does : EventDoes g start (MovesCall session move) answer old new
  unfolding new
  move_does = does_of fits new_fits refl (record {
    always = always;
    happens = subst (λ (b : Bool). MovesOn g start b session answer old new) (sym (ap slot_has_call found)) (record {
      number = runs.number;
      call = runs.call;
      is = runs.is;
      effect = one.effect;
      after = one.after;
      asked = one.asked;
      told = one.told;
      history_is = refl;
      calls_is = refl;
      others = others;
      shape = one.shape;
    });
    grows = record { acts = acts_of runs.number one.effect; is = refl; few = acts_few runs.number one.effect };
    caused = subst (λ (o : Option (Option Op)). IsCaused (causes_of_moving g old.sets old.store store move o) answer) (sym found)
        (subst (λ (x : Circumstances). IsCaused x answer) (sym where_is) one.caused);
    followed = at_slots old.slots session (Some op) slot
        (λ x y. CallIsFollowed (MovesCall session move) old.sets answer (g.state old.store) (g.state store) x y) found (followed start old.history runs.number runs.call fit);
    leaves = λ other block page apart there held. pinned other block page (λ e. apart (sym e)) there held;
    lows = lows_relied session (g.state old.store) (g.state store) others;
    quiet = leaves_be g (MovesCall session move) old new one.format one.frames (λ same. one.pages (no_effect one.effect same)) (others_stay_set old.slots session slot);
    durable = told_durable answer (g.backing store).durable (length old.history) one.effect runs.call one.after one.told;
    follows = follows;
    later = later;
    invariant = new_fits.invariant;
  })

  -- there is a continuation by this move
  pub moves_on : EventRuns g (here_at old) (record { store = store; slots = slice_set old.slots session slot; sets = old.sets }) (MovesCall session move) answer start old.history old.calls
  unfolding new
  moves_on = record { then_history = old.history ++ acts_of runs.number one.effect; then_calls = slice_set old.calls runs.number one.after; does = move_does }

-- an event that is refused, with nothing changed
module _ {S : Type 0} (g : Ghosts S) (start : Entry → Bool) (old : Moment S) (store : S) (fault : Fault) (fits : Fits g start old) (same : g.state store ≡ g.state old.store)
    (follows : g.follows old.store store) (later : IsLater (g.backing old.store) (g.backing store)) where
  abbrev then_now : Moment S
  then_now = record { store = store; slots = old.slots; sets = old.sets; history = old.history; calls = old.calls }

  stays : Stays g (Refused fault) old then_now
  stays = record { fault = fault; refused = refl; still = record { state_is = same; slots_is = refl; history_is = refl; calls_is = refl } }

  follows_on : (kind : Kind) (before : Option Op) → ((session : ℕ) → kind ≡ MovesCall session Steps → before ≡ None)
      → CallIsFollowed kind old.sets (Refused fault) (g.state old.store) (g.state store) before before
  follows_on (BeginsCall session request) before idle = λ begun. absurd cc
  follows_on (MovesCall session Steps) before idle =
      subst (λ (o : Option Op). CallIsFollowed (MovesCall session Steps) old.sets (Refused fault) (g.state old.store) (g.state store) o o) (sym (idle session refl)) (record {
        fitted = record {
          due = λ left due. absurd due;
          incomplete = λ only. subst (λ (st : State). OnlyOwnAreIncomplete st None) (sym same) only;
          stands = tt;
          frees = tt;
        };
        each = record { waits = tt; entries = tt; deletes = tt; spares = tt };
        no_more = λ acts. omega arith;
      })
  follows_on (MovesCall session Takes) before idle = λ steps due.
      due_still (g.state old.store) (g.state store) before steps (ap (λ (st : State). st.format) same) (ap (λ (st : State). st.pages) same) due
  follows_on (MovesCall session GivesUp) before idle = tt
  follows_on (MaintainsStore upkeep) before idle = tt

  stay_with : (kind : Kind) → Happens g start kind (Refused fault) old then_now → EventAlways g kind (Refused fault) (here_at old) (here_at then_now)
      → IsCaused (causes_of_happening g kind (here_at old) (here_at then_now)) (Refused fault)
      → ((session : ℕ) → kind ≡ MovesCall session Steps → slot_of old.slots (session_at kind) ≡ None)
      → EventDoes g start kind (Refused fault) old then_now
  stay_with kind happens always caused idle = does_of fits (fits_still g start old store same fits) refl (record {
    always = always;
    happens = happens;
    grows = no_growth old.history;
    caused = caused;
    followed = follows_on kind (slot_of old.slots (session_at kind)) idle;
    leaves = λ other block page apart there pinned. leaf_same (g.state old.store) (g.state store) (ap (λ (st : State). st.pages) same) block page there;
    lows = lows_still (g.state old.store) (g.state store) (ap (λ (st : State). st.pages) same);
    quiet = stays_be g kind old then_now same refl;
    durable = tt;
    follows = follows;
    later = later;
    invariant = (fits_still g start old store same fits).invariant;
  })

  -- there is a continuation by what is refused, which is none
  pub stays_on : (kind : Kind) → Happens g start kind (Refused fault) old then_now
      → EventAlways g kind (Refused fault) (here_at old) (here_at then_now) → IsCaused (causes_of_happening g kind (here_at old) (here_at then_now)) (Refused fault)
      → ((session : ℕ) → kind ≡ MovesCall session Steps → slot_of old.slots (session_at kind) ≡ None)
      → EventRuns g (here_at old) (here_at then_now) kind (Refused fault) start old.history old.calls
  stays_on kind happens always caused idle = record { then_history = old.history; then_calls = old.calls; does = stay_with kind happens always caused idle }

  pub refused_stay : Stays g (Refused fault) old then_now
  refused_stay = stays

-- what is done for the store
module _ {S : Type 0} (g : Ghosts S) (start : Entry → Bool) (old : Moment S) (store : S) (upkeep : Upkeep) (fits : Fits g start old) (same : g.state store ≡ g.state old.store)
    (follows : g.follows old.store store) (later : IsLater (g.backing old.store) (g.backing store)) where
  kept_durable : (u : Upkeep) (count durable : ℕ) (answer : Answer) → kept_answer u count ≡ Some answer → count ≤ durable → IsDurable durable answer
  kept_durable Forces count durable answer is le = subst (λ (a : Answer). IsDurable durable a) (same_some (kept_answer Forces count) (Forced count) answer refl is) le
  kept_durable Flushes count durable answer is le = absurd (let none : kept_answer Flushes count ≡ Some answer = is in cc)
  kept_durable Checkpoints count durable answer is le = subst (λ (a : Answer). IsDurable durable a) (same_some (kept_answer Checkpoints count) (Checkpointed count) answer refl is) le

  kept_caused : (u : Upkeep) (count : ℕ) (at : Circumstances) (answer : Answer) → kept_answer u count ≡ Some answer → IsCaused at answer
  kept_caused Forces count at answer is = subst (λ (a : Answer). IsCaused at a) (same_some (kept_answer Forces count) (Forced count) answer refl is) tt
  kept_caused Flushes count at answer is = absurd (let none : kept_answer Flushes count ≡ Some answer = is in cc)
  kept_caused Checkpoints count at answer is = subst (λ (a : Answer). IsCaused at a) (same_some (kept_answer Checkpoints count) (Checkpointed count) answer refl is) tt

  kept_told : (u : Upkeep) (count : ℕ) (answer : Answer) (new : Moment S) → kept_answer u count ≡ Some answer → UpkeepIsDurable g u answer old new → UpkeepAnswerMeans g u answer old new
  kept_told Forces count answer new is all = all
  kept_told Flushes count answer new is all = absurd (let none : kept_answer Flushes count ≡ Some answer = is in cc)
  kept_told Checkpoints count answer new is all = all

  pub keeps_on_store : (count : ℕ) (answer : Answer) → kept_answer upkeep count ≡ Some answer → count ≡ (g.state old.store).acts → (g.backing store).durable ≡ (g.state old.store).acts
      → EventAlways g (MaintainsStore upkeep) answer (here_at old) (record { store = store; slots = old.slots; sets = old.sets })
      → EventRuns g (here_at old) (record { store = store; slots = old.slots; sets = old.sets }) (MaintainsStore upkeep) answer start old.history old.calls
  keeps_on_store count answer told number durable always =
      let then : Moment S = record { store = store; slots = old.slots; sets = old.sets; history = old.history; calls = old.calls } in
      record {
        then_history = old.history;
        then_calls = old.calls;
        does = does_of fits (fits_still g start old store same fits) refl (record {
          always = always;
          happens = inl (record {
            tells = kept_told upkeep count answer then told (record {
              told = sym (ap (kept_answer upkeep) (number ∙ fits.explains.count)) ∙ told;
              durable = durable ∙ fits.explains.count;
            });
            still = record { state_is = same; slots_is = refl; history_is = refl; calls_is = refl };
          });
          grows = no_growth old.history;
          caused = kept_caused upkeep count (causes_of_forced (g.backing old.store) (g.backing store)) answer told;
          followed = tt;
          leaves = λ other block page apart there pinned. leaf_same (g.state old.store) (g.state store) (ap (λ (st : State). st.pages) same) block page there;
          lows = lows_still (g.state old.store) (g.state store) (ap (λ (st : State). st.pages) same);
          quiet = stays_be g (MaintainsStore upkeep) old then same refl;
          durable = kept_durable upkeep count (g.backing store).durable answer told
              (let n : count ≡ (g.state old.store).acts = number in let d : (g.backing store).durable ≡ (g.state old.store).acts = durable in omega arith);
          follows = follows;
          later = later;
          invariant = (fits_still g start old store same fits).invariant;
        });
      }

-- a changed page is written to its place
pub flushes_on_store : {S : Type 0} (g : Ghosts S) (start : Entry → Bool) (old : Moment S) (store : S) (fits : Fits g start old) (same : g.state store ≡ g.state old.store)
    (follows : g.follows old.store store) (later : IsLater (g.backing old.store) (g.backing store)) (block : Option ℕ) → block ≡ slice_get (g.backing old.store).changed 0
    → EventAlways g (MaintainsStore Flushes) (Flushed block) (here_at old) (record { store = store; slots = old.slots; sets = old.sets })
    → EventRuns g (here_at old) (record { store = store; slots = old.slots; sets = old.sets }) (MaintainsStore Flushes) (Flushed block) start old.history old.calls
flushes_on_store {S} g start old store fits same follows later block first always =
    let then : Moment S = record { store = store; slots = old.slots; sets = old.sets; history = old.history; calls = old.calls } in
    record {
      then_history = old.history;
      then_calls = old.calls;
      does = does_of fits (fits_still g start old store same fits) refl (record {
        always = always;
        happens = inl (record { tells = ap Flushed first; still = record { state_is = same; slots_is = refl; history_is = refl; calls_is = refl } });
        grows = no_growth old.history;
        caused = tt;
        followed = tt;
        leaves = λ other block page apart there pinned. leaf_same (g.state old.store) (g.state store) (ap (λ (st : State). st.pages) same) block page there;
        lows = lows_still (g.state old.store) (g.state store) (ap (λ (st : State). st.pages) same);
        quiet = stays_be g (MaintainsStore Flushes) old then same refl;
        durable = tt;
        follows = follows;
        later = later;
        invariant = (fits_still g start old store same fits).invariant;
      });
    }

-- a call that begins changes neither pages nor limits
pub request_pages : (v : Bool) (session : ℕ) (st : State) → (after_request v session st).pages ≡ st.pages
request_pages true session st = refl
request_pages false session st = refl

pub request_format : (v : Bool) (session : ℕ) (st : State) → (after_request v session st).format ≡ st.format
request_format true session st = refl
request_format false session st = refl

pub request_frames : (v : Bool) (session : ℕ) (st : State) → (after_request v session st).frames ≡ st.frames
request_frames true session st = refl
request_frames false session st = refl

pub request_acts : (v : Bool) (session : ℕ) (st : State) → (after_request v session st).acts ≡ st.acts
request_acts true session st = refl
request_acts false session st = refl

-- a call is begun
module _ {S : Type 0} (g : Ghosts S) (start : Entry → Bool) (old : Moment S) (store : S) (session : ℕ) (request : Request) (op : Op)
    (fits : Fits g start old) (free : slice_get old.slots session ≡ Some None)
    (begins : SessionBegins (g.state old.store) (g.state store) old.sets start old.history (length old.calls) session request (Some op))
    (named : IsOfSets old.sets request) (alone : asks_vacuum request ≡ true → one_vacuums old.slots ≡ false) (fresh : op ≡ op_before session request)
    (state : g.state store ≡ after_request (asks_bulk_delete request) session (g.state old.store)) where
  abbrev call : Call
  call = begun_call session (asked_by old.sets request) (length old.history)

  abbrev begun : Moment S
  begun = record { store = store; slots = slice_set old.slots session (Some op); sets = old.sets; history = old.history; calls = old.calls ++ call ∷ [] }

  -- a running call was so before, or it is the one that begins
  old_or_new : (u j : ℕ) (c : Call) → IsRunningCall (old.calls ++ call ∷ []) u j c → IsRunningCall old.calls u j c ⊎ ((j ≡ length old.calls) × (u ≡ session))
  old_or_new u j c r = elim (get_append_cases old.calls call j c r.found) [
    | inl a ↦ inl (record { found = a; session_is = r.session_is; running = r.running })
    | inr b ↦ inr (b.0, sym r.session_is ∙ ap (λ (x : Call). x.session) b.1)
  ]

  within_slots : session < length old.slots
  within_slots = get_within old.slots session None free

  same_pages : (g.state store).pages ≡ (g.state old.store).pages
  same_pages = ap (λ (st : State). st.pages) state ∙ request_pages (asks_bulk_delete request) session (g.state old.store)

  same_format : (g.state store).format ≡ (g.state old.store).format
  same_format = ap (λ (st : State). st.format) state ∙ request_format (asks_bulk_delete request) session (g.state old.store)

  -- it is a bulk delete or a cleanup exactly if one was asked for
  vacuum_is : is_vacuum op ≡ asks_vacuum request
  vacuum_is = ap is_vacuum fresh ∙ before_vacuum session request

  sweep_is : is_bulk_delete op ≡ asks_bulk_delete request
  sweep_is = ap is_bulk_delete fresh ∙ before_sweep session request

  -- if a bulk delete runs, neither that nor a cleanup begins, and leaves stay
  stay_for : (u : ℕ) → slot_vacuums (slot_of old.slots u) ≡ true → LeafPagesStay None (g.state old.store) (g.state store)
  stay_for u theirs_runs = by (asks_vacuum request) refl
    where
      by : (b : Bool) → asks_vacuum request ≡ b → LeafPagesStay None (g.state old.store) (g.state store)
      by true is = absurd (none_runs old.slots (alone is) u theirs_runs)
      by false is = begins.leaves (begins.cycle (calm_request request is))

  sweep_theirs : (u : ℕ) (other : Op) (number began : ℕ) → slot_of old.slots u ≡ Some other → began ≤ length old.history
      → OpDeletions (g.state old.store) old.sets start old.history number began other → OpDeletions (g.state store) old.sets start old.history number began other
  sweep_theirs u (Insert x) number began is within h = tt
  sweep_theirs u (Scan x) number began is within h = tt
  sweep_theirs u (Cleanup x) number began is within h = tt
  sweep_theirs u (Bulk set x) number began is within h =
      subst (λ (l : List Action). OpDeletions (g.state store) old.sets start l number began (Bulk set x)) (append-nil old.history)
      (deletions_undisturbed (g.state old.store) (g.state store) old.sets start old.history number (suc number) began None (Bulk set x)
      (stay_for u (ap slot_vacuums is)) (λ e. absurd (let n : suc number ≡ number = e in omega arith)) within h)

  -- what a bulk delete has to remove that begins: a cycle number is given for it
  given_cycle : (o : Op) → is_bulk_delete o ≡ true → OpDeletions (g.state store) old.sets start old.history (length old.calls) (length old.history) o → runs_bulk_delete (g.state store) ≡ true
  given_cycle (Insert x) is h = absurd (true≢false (sym is))
  given_cycle (Scan x) is h = absurd (true≢false (sym is))
  given_cycle (Cleanup x) is h = absurd (true≢false (sym is))
  given_cycle (Bulk set x) is h = h.1.runs

  begun_vacuums : OneVacuums (g.state store) (slice_set old.slots session (Some op))
  begun_vacuums = by (asks_vacuum request) refl (asks_bulk_delete request) refl
    where
      was_none : slot_of old.slots session ≡ None
      was_none = slot_is old.slots session None free

      by : (b : Bool) → asks_vacuum request ≡ b → (c : Bool) → asks_bulk_delete request ≡ c → OneVacuums (g.state store) (slice_set old.slots session (Some op))
      by true is true deletions = sweep_begins (g.state old.store) old.slots session (Some op) within_slots (vacuum_is ∙ is) (alone is) fits.invariant.vacuums (g.state store) (sweep_is ∙ deletions)
          (given_cycle op (sweep_is ∙ deletions) (begins.deletions named))
      by true is false calm =
          cleanup_begins (g.state old.store) old.slots session (Some op) within_slots (vacuum_is ∙ is) (alone is) fits.invariant.vacuums (g.state store) (sweep_is ∙ calm) (begins.cycle calm)
      by false is c deletions = vacuums_still (g.state old.store) (g.state store) old.slots session (Some op) within_slots (vacuum_is ∙ is ∙ sym (ap slot_vacuums was_none))
          (sweep_is ∙ calm_request request is ∙ sym (ap slot_is_bulk_delete was_none)) (begins.cycle (calm_request request is)) fits.invariant.vacuums

  begun_slot : (u : ℕ) (o : Option Op) → u ≢ session → slice_get old.slots u ≡ Some o → SlotMatches g start old u o → SlotMatches g start begun u o
  begun_slot u None ne in_slot h = record {
    none = λ j c r. elim (old_or_new u j c r) [ inl a ↦ h.none j c a | inr b ↦ ne b.1 ];
    idle = idle_undisturbed (g.state old.store) (g.state store) u (begins.others u ne) h.idle;
  }
  begun_slot u (Some other) ne in_slot h = record {
    number = h.number;
    call = h.call;
    is = record { found = get_append_some old.calls (call ∷ []) h.number h.call h.is.found; session_is = h.is.session_is; running = h.is.running };
    only = λ j c r. elim (old_or_new u j c r) [ inl a ↦ h.only j c a | inr b ↦ absurd (ne b.1) ];
    runs = subst (λ (l : List Action). OpRuns (g.state store) old.sets start l h.call other) (append-nil old.history)
        (undisturbed (g.state old.store) (g.state store) old.sets start old.history [] h.call other (begins.others h.call.session (λ e. ne (sym h.is.session_is ∙ e)))
        (leaves_same (g.state old.store) (g.state store) same_pages h.call.session) h.runs);
    deletions = sweep_theirs u other h.number h.call.began (slot_is old.slots u (Some other) in_slot) (began_within g start old u h.number h.call fits h.is) h.deletions;
  }

  begun_fits : Fits g start begun
  begun_fits =
      let was_free : IsFreeSession g old session = running_of fits session None free in
      let within : session < length old.slots = get_within old.slots session None free in
      fits_from (record {
        matches = begins.world;
        unique = λ asked. fits.explains.unique (ap (λ (f : Format). f.unique) (sym same_format) ∙ asked);
        running = λ u o h. elim (cases_eq u session) [
          | inl e ↦ (
              let k : o ≡ Some op = same_some (slice_get (slice_set old.slots session (Some op)) session) o (Some op)
              (subst (λ (i : ℕ). slice_get (slice_set old.slots session (Some op)) i ≡ Some o) e h) (get_set_same old.slots session (Some op) within) in
              subst (λ (i : ℕ). SlotMatches g start begun i o) (sym e) (subst (λ (x : Option Op). SlotMatches g start begun session x) (sym k) (record {
                number = length old.calls;
                call = call;
                is = record { found = get_append_new old.calls call; session_is = refl; running = refl };
                only = λ j c r. elim (old_or_new session j c r) [ inl a ↦ absurd (was_free.none j c a) | inr b ↦ b.0 ];
                runs = begins.holds.1;
                deletions = begins.deletions named;
              })))
          | inr n ↦ begun_slot u o n (sym (get_set_other old.slots session u (Some op) n) ∙ h) (running_of fits u o (sym (get_set_other old.slots session u (Some op) n) ∙ h))
        ];
        vacuums = begun_vacuums;
        beyond = λ u far. (
            let many : length (slice_set old.slots session (Some op)) ≡ length old.slots = length_set old.slots session (Some op) in
            let apart : u ≢ session = λ e. absurd (let x : u ≡ session = e in omega arith) in
            idle_undisturbed (g.state old.store) (g.state store) u (begins.others u apart) (beyond_of fits u (omega arith)));
        known = λ i c h. rw (length_set old.slots session (Some op)) (elim (get_append_cases old.calls call i c h) [
          | inl a ↦ fits.explains.known i c a
          | inr b ↦ (let q : c.session ≡ session = ap (λ (x : Call). x.session) b.1 in omega arith)
        ]);
        meets = λ i c h. elim (get_append_cases old.calls call i c h) [
          | inl a ↦ fits.explains.meets i c a
          | inr b ↦ subst (λ (j : ℕ). Meets start old.history j c) (sym b.0) (subst (λ (x : Call). Meets start old.history (length old.calls) x) (sym b.1) begins.meets)
        ];
        owned = λ before a h. (
            let was : IsOwned start old.history old.calls before a = fits.explains.owned before a h in
            record { call = was.call; found = get_append_some old.calls (call ∷ []) a.by was.call was.found; since = was.since; until = was.until; may = was.may });
      })

  pub begins_on : g.follows old.store store → IsLater (g.backing old.store) (g.backing store) → HasSteps (g.state old.store) (g.state store) request (Some op)
      → EventAlways g (BeginsCall session request) Begun (here_at old) (record { store = store; slots = slice_set old.slots session (Some op); sets = old.sets })
      → EventRuns g (here_at old) (record { store = store; slots = slice_set old.slots session (Some op); sets = old.sets }) (BeginsCall session request) Begun start old.history old.calls
  begins_on follows later counts always = record {
    then_history = old.history;
    then_calls = old.calls ++ call ∷ [];
    does = does_of fits begun_fits refl (record {
      always = always;
      happens = subst (λ (o : Option (Option Op)). MayBegin g o session request Begun old begun) (sym free)
          (inl (record { told = refl; history_is = refl; calls_is = refl; others = begins.others }));
      grows = no_growth old.history;
      caused = tt;
      followed = λ told. subst (λ (x : Option Op). HasSteps (g.state old.store) (g.state store) request x) (sym (set_is old.slots session (Some op) (get_within old.slots session None free))) counts;
      leaves = λ other block page apart there pinned. leaf_same (g.state old.store) (g.state store) same_pages block page there;
      lows = lows_still (g.state old.store) (g.state store) same_pages;
      quiet = leaves_be g (BeginsCall session request) old begun same_format (ap (λ (st : State). st.frames) state ∙ request_frames (asks_bulk_delete request) session (g.state old.store))
          (λ same. same_pages) (others_stay_set old.slots session (Some op));
      durable = tt;
      follows = follows;
      later = later;
      invariant = begun_fits.invariant;
    });
  }

-- a set that is found is there
pub named_of : (sets : DeadSets) (request : Request) → is_of_sets sets request ≡ true → IsOfSets sets request
named_of sets (ToInsert e) h = tt
named_of sets (ToScan range) h = tt
named_of sets ToCleanup h = tt
named_of sets (ToBulk set) h = ltb-true set (length sets) h

-- a refused beginning is one of these, whatever the session has
pub not_begun : {S : Type 0} (g : Ghosts S) (o : Option (Option Op)) (session : ℕ) (request : Request) (answer : Answer) (old new : Moment S)
    → Stays g answer old new → MayBegin g o session request answer old new
not_begun g None session request answer old new h = h
not_begun g (Some None) session request answer old new h = inr h
not_begun g (Some (Some op)) session request answer old new h = h

-- a session that isn't found has its cause
module _ {S : Type 0} (g : Ghosts S) (store : S) (vacuums : Bool) (sets : DeadSets) (request : Request) (session : ℕ) where
  pub not_found_why : (is_stopped has_set : Bool) (o : Option (Option Op)) (fault : Fault)
      → is_stopped ≡ no_call_begins (g.state store) (g.backing store) → has_set ≡ is_of_sets sets request → Err fault ≡ session_to_begin is_stopped has_set o session
      → HasCause (causes_of_begun_at g store vacuums sets request o) fault
  not_found_why true has_set None fault same there h = (let e : fault ≡ Stopped = cc in rw e (sym same))
  not_found_why true has_set (Some slot) fault same there h = (let e : fault ≡ Stopped = cc in rw e (sym same))
  not_found_why false has_set None fault same there h = (let e : fault ≡ NoSession = cc in rw e refl)
  not_found_why false false (Some slot) fault same there h = (let e : fault ≡ NoSession = cc in rw (e, ← there) refl)
  not_found_why false true (Some None) fault same there h = absurd cc
  not_found_why false true (Some (Some op)) fault same there h = (let e : fault ≡ SessionBusy = cc in rw e refl)

-- on a log that failed before no call begins
pub none_begins : (is_stopped at_end : Bool) → is_stopped ≡ true → (is_stopped || at_end) ≡ true
none_begins true at_end h = refl
none_begins false at_end h = absurd cc

pub not_found_first : (is_stopped has_set : Bool) (o : Option (Option Op)) (session : ℕ) (fault : Fault)
    → Err fault ≡ session_to_begin is_stopped has_set o session → is_stopped ≡ true → Refused fault ≡ Refused Stopped
not_found_first true has_set o session fault h is = (let e : fault ≡ Stopped = cc in ap Refused e)
not_found_first false has_set o session fault h is = absurd cc

pub set_same : (slots : List (Option Op)) (session : ℕ) (slot : Option Op) → slice_get slots session ≡ Some slot → slice_set slots session slot ≡ slots
set_same [] session slot h = refl
set_same (x ∷ xs) zero slot h = cc
set_same (x ∷ xs) (suc n) slot h = ap (λ (l : List (Option Op)). x ∷ l) (set_same xs n slot h)
