-- What is known before a run's first job and once all jobs are done.
use Rattle.std.proofs.Common.{◌≡◌, ◌≢◌, ◌⊎◌, ◌+◌, Bool, true, false, ℕ, zero, suc, ◌<◌, ◌≤◌, List, [], ◌∷◌, ◌++◌, length, replicate, Option, Some, None, slice_get, refl, sym, ap, ◌∙◌, subst, inl, inr, ⊎_elim, arith}
use Rattle.std.proofs.lemmas.Bool.{false_from_ne_true}
use mathlib.Core.Logic.{∥∥₁_elim}
use Rattle.session_calls.specs.TheoremCalls.{DeadSets}
use Rattle.shared_world.specs.Handed.{Handed}
use Rattle.shared_world.proofs.Imports.{Action, Call, Entry, Ghosts, has_call, Op, StoreAndSlots, jobs_in, Job, Record, Pending, CompletedCall, PendingCall, AreBooked, AreIdle, jobs_of_records, KeepsFitting, KeepsAll, MatchesPending}
use Rattle.shared_world.proofs.Imports.{note_of, notes_of, jobs_of, pending_calls, get_front, get_last, get_there, get_within, nat_cases, GroupGhosts, SessionSeat, IsSeatAt, view_of}
use Rattle.shared_world.proofs.Noting.{clash}
use Rattle.shared_world.proofs.Listing.{none_there, call_there}

-- the jobs of the notes are those of the records
pub jobs_noted : (records : List Record) → jobs_in (notes_of records) ≡ jobs_of_records records
jobs_noted [] = refl
jobs_noted (r ∷ records) = ap (λ l. r.job ∷ l) (jobs_noted records)

pub get_note : (records : List Record) (place : ℕ) (r : Record) → slice_get records place ≡ Some r → slice_get (notes_of records) place ≡ Some (note_of r)
get_note [] place r e = absurd cc
get_note (x ∷ records) zero r e = (let s : x ≡ r = cc in ap (λ y. Some (note_of y)) s)
get_note (x ∷ records) (suc place) r e = get_note records place r e

-- no job of these runs
abbrev pub NoneRuns : List (Option Pending) → Type 0
NoneRuns pending = (session : ℕ) (p : Pending) → slice_get pending session ≡ Some (Some p) → ⊥

-- if no session of the workers runs a job, none is pending
pub none_waits : (pending : List (Option Pending)) → ((k : ℕ) → k < length pending → slice_get (jobs_of pending) k ≡ Some None) → NoneRuns pending
none_waits pending idle session p at =
    let none = none_there pending session (idle session (get_within pending session (Some p) at)) in
    absurd (let both = sym none ∙ at in cc)

-- ... nor is a call
pub no_call_waits : (sets : DeadSets) (calls : List (Option PendingCall)) (pending : List (Option Pending)) → calls ≡ pending_calls sets pending → NoneRuns pending → (session : ℕ) (p : PendingCall) → slice_get calls session ≡ Some (Some p) → ⊥
no_call_waits sets calls pending is none session p at = (let q = call_there sets pending session p (ap (λ (l : List (Option PendingCall)). slice_get l session) (sym is) ∙ at) in none session q.0 q.1)

pub none_at : (pending : List (Option Pending)) → NoneRuns pending → (session : ℕ) → session < length pending → slice_get pending session ≡ Some None
none_at [] none session l = absurd (omega arith)
none_at (None ∷ ps) none zero l = refl
none_at (Some p ∷ ps) none zero l = absurd (none 0 p refl)
none_at (p ∷ ps) none (suc session) l = none_at ps (λ s q e. none (suc s) q e) session (omega (arith, l))

-- so many sessions that run nothing
abbrev pub idle_calls : ℕ → List (Option PendingCall)
idle_calls n = replicate n None

pub none_are : (sets : DeadSets) (pending : List (Option Pending)) → NoneRuns pending → pending_calls sets pending ≡ idle_calls (length pending)
none_are sets [] none = refl
none_are sets (None ∷ ps) none = ap (λ (l : List (Option PendingCall)). None ∷ l) (none_are sets ps (λ s q e. none (suc s) q e))
none_are sets (Some p ∷ ps) none = absurd (none 0 p refl)

none_next : (n : ℕ) → idle_calls n ++ None ∷ [] ≡ idle_calls (suc n)
none_next zero = refl
none_next (suc n) = ap (λ (l : List (Option PendingCall)). None ∷ l) (none_next n)

pub none_more : (n : ℕ) → idle_calls n ++ None ∷ [] ≡ idle_calls (n + 1)
none_more n = (let e : suc n ≡ n + 1 = omega arith in none_next n ∙ ap idle_calls e)

pub idle_none : (n session : ℕ) (p : PendingCall) → slice_get (idle_calls n) session ≡ Some (Some p) → ⊥
idle_none zero session p e = absurd cc
idle_none (suc n) zero p e = absurd cc
idle_none (suc n) (suc session) p e = idle_none n session p e

pub none_long : (n : ℕ) → length (idle_calls n) ≡ n
none_long zero = refl
none_long (suc n) = ap suc (none_long n)

-- seats of sessions that run nothing, and the next one
pub seats_more : {J : Type 0} {group : GroupGhosts J} (sets : DeadSets) (seats : List (Option (SessionSeat J group))) (n : ℕ) (seat : SessionSeat J group) → n ≡ length seats → seat.session ≡ n → (view_of seat.pass).call ≡ None
    → ((s : ℕ) → s < n → IsSeatAt sets s (Some None) (slice_get seats s)) → (s : ℕ) → s < n + 1 → IsSeatAt sets s (Some None) (slice_get (seats ++ Some seat ∷ []) s)
seats_more {J} {group} sets seats n seat long session call each s l = ⊎_elim here else (nat_cases s n)
  where
    here : s ≡ n → IsSeatAt sets s (Some None) (slice_get (seats ++ Some seat ∷ []) s)
    here e = subst (λ (o : Option (Option (SessionSeat J group))). IsSeatAt sets s (Some None) o) (sym (ap (slice_get (seats ++ Some seat ∷ [])) (e ∙ long) ∙ get_last seats (Some seat))) (session ∙ sym e, call)

    else : s ≢ n → IsSeatAt sets s (Some None) (slice_get (seats ++ Some seat ∷ []) s)
    else ne =
        let x = get_there seats s (omega (arith, l, ne, long)) in
        subst (λ (o : Option (Option (SessionSeat J group))). IsSeatAt sets s (Some None) o) (x.1 ∙ sym (get_front seats (Some seat ∷ []) s x.0 x.1)) (each s (omega (arith, l, ne)))

pub seats_as : {J : Type 0} {group : GroupGhosts J} (sets : DeadSets) (n : ℕ) (seats others : List (Option (SessionSeat J group))) → seats ≡ others → ((s : ℕ) → s < n → IsSeatAt sets s (Some None) (slice_get others s)) → (s : ℕ) → s < n → IsSeatAt sets s (Some None) (slice_get seats s)
seats_as {J} {group} sets n seats others same each s l = subst (λ (xs : List (Option (SessionSeat J group))). IsSeatAt sets s (Some None) (slice_get xs s)) (sym same) (each s l)

-- ... and no session at all has a call
pub all_idle : (slots : List (Option Op)) (calls : List (Option PendingCall)) → ∥ MatchesPending slots calls ∥₁ → ((session : ℕ) (p : PendingCall) → slice_get calls session ≡ Some (Some p) → ⊥) → AreIdle slots
all_idle slots calls m none session = false_from_ne_true (has_call slots session) (λ yes. ∥∥₁_elim m (λ x y. absurd x) (λ k. clash (has_call slots session) yes (rests k)))
  where
    lt_or : (l : List (Option PendingCall)) (n : ℕ) → ((o : Option PendingCall) × (slice_get l n ≡ Some o)) ⊎ (length l ≤ n)
    lt_or [] n = inr (omega arith)
    lt_or (x ∷ xs) zero = inl (x, refl)
    lt_or (x ∷ xs) (suc n) = ⊎_elim (λ h. inl h) (λ h. inr (omega (arith, h))) (lt_or xs n)

    none_in : MatchesPending slots calls → (o : Option PendingCall) → slice_get calls session ≡ Some o → has_call slots session ≡ false
    none_in k None e = k.rests session e
    none_in k (Some p) e = absurd (none session p e)

    rests : MatchesPending slots calls → has_call slots session ≡ false
    rests k = ⊎_elim (λ h. none_in k h.0 h.1) (λ l. k.beyond session l) (lt_or calls session)

-- what is kept, if no call runs
pub keeps_nothing_pending : {S : Type 0} (g : Ghosts S) (handed : Handed) (stood kept_then : (Entry → Bool) → List Action → List Call → Type 0)
    (now : StoreAndSlots S) (start : ℕ) (pending : List (Option PendingCall)) (log : List CompletedCall)
    → ((session : ℕ) (p : PendingCall) → slice_get pending session ≡ Some (Some p) → ⊥)
    → KeepsAll g handed stood kept_then now start pending log → KeepsAll g handed stood kept_then now start [] log
keeps_nothing_pending g handed stood kept_then now start pending log none all honest contents history calls so = done (all honest contents history calls so)
  where
    done : KeepsFitting g handed contents history calls (kept_then contents history calls) now start pending log
        → KeepsFitting g handed contents history calls (kept_then contents history calls) now start [] log
    done k = record {
      history = k.history;
      calls = k.calls;
      at = k.at;
      start_is = k.start_is;
      grows = k.grows;
      fit = k.fit;
      safe = k.safe;
      same = k.same;
      ours = λ i a b. ⊎_elim (λ x. inl x) (λ x. absurd (none x.call.session x.running x.waits)) (k.ours i a b);
      owned = k.owned;
      long = k.long;
      listed = k.listed;
      once = k.once;
      runs = λ s p h. absurd cc;
      since = λ s p h. absurd cc;
      follows = k.follows;
      in_time = k.in_time;
    }

-- what is booked, if no job runs
pub books_nothing_pending : (jobs : List Job) (pending : List (Option Pending)) (records : List Record) → AreBooked jobs pending records → AreBooked jobs [] records
books_nothing_pending jobs pending records b = record { recorded = b.recorded; running = λ s p h. absurd cc; room = λ s p h. absurd cc; full = b.full }

-- ... and before the first record
pub books_none : (jobs : List Job) (pending : List (Option Pending)) → NoneRuns pending → AreBooked jobs pending []
books_none jobs pending none = record { recorded = λ place r h. absurd cc; running = λ s p h. absurd (none s p h); room = λ s p h. absurd (none s p h); full = λ place r h. absurd cc }
