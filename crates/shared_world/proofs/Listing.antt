-- What the registries' views have of the records and of the jobs that run.
use Rattle.std.proofs.Common.{◌≡◌, ◌≢◌, ℕ, zero, suc, ◌<◌, List, [], ◌∷◌, ◌++◌, length, Option, Some, None, slice_get, slice_set, vec_capacity, refl, sym, ap, ◌∙◌, subst, ⊎_elim, arith}
use Rattle.session_calls.specs.TheoremCalls.{DeadSets}
use Rattle.shared_world.proofs.Imports.{Ended, SeatView, registry_of, Job, PendingCall, Record, Pending, AreBooked, IsRoomOf, ScanIsFull, note_of, notes_of, job_of, jobs_of, completed_call, completed_calls, pending_call_of, pending_calls, get_snoc, set_cases}
use Rattle.shared_world.proofs.Noting.{some_same}

pub none_there : (pending : List (Option Pending)) (s : ℕ) → slice_get (jobs_of pending) s ≡ Some None → slice_get pending s ≡ Some None
none_there [] s e = absurd cc
none_there (None ∷ ps) zero e = refl
none_there (Some p ∷ ps) zero e = absurd cc
none_there (p ∷ ps) (suc s) e = none_there ps s e

pub some_there : (pending : List (Option Pending)) (s job : ℕ) → slice_get (jobs_of pending) s ≡ Some (Some job) → (p : Pending) × (slice_get pending s ≡ Some (Some p)) × (p.job ≡ job)
some_there [] s job e = absurd cc
some_there (None ∷ ps) zero job e = absurd cc
some_there (Some p ∷ ps) zero job e = (p, refl, cc)
some_there (p ∷ ps) (suc s) job e = some_there ps s job e

pub within : (pending : List (Option Pending)) (s : ℕ) (o : Option ℕ) → slice_get (jobs_of pending) s ≡ Some o → s < length pending
within [] s o e = absurd cc
within (p ∷ ps) zero o e = omega arith
within (p ∷ ps) (suc s) o e = omega (arith, within ps s o e)

pub jobs_of_set : (pending : List (Option Pending)) (s : ℕ) (o : Option Pending) → jobs_of (slice_set pending s o) ≡ slice_set (jobs_of pending) s (job_of o)
jobs_of_set [] s o = refl
jobs_of_set (p ∷ ps) zero o = refl
jobs_of_set (p ∷ ps) (suc s) o = ap (λ l. job_of p ∷ l) (jobs_of_set ps s o)

pub notes_of_snoc : (records : List Record) (r : Record) → notes_of (records ++ r ∷ []) ≡ notes_of records ++ note_of r ∷ []
notes_of_snoc [] r = refl
notes_of_snoc (x ∷ xs) r = ap (λ l. note_of x ∷ l) (notes_of_snoc xs r)

pub length_notes : (records : List Record) → length (notes_of records) ≡ length records
length_notes [] = refl
length_notes (x ∷ xs) = ap suc (length_notes xs)

-- what a seat knows of its session
pub seat_runs : (v : SeatView) (s : ℕ) (log : List (ℕ × ℕ)) (pending : List (Option Pending)) (o t : Option ℕ) → v ≡ registry_of log (jobs_of pending)
    → slice_get v.running s ≡ Some o → o ≡ t → slice_get (jobs_of pending) s ≡ Some t
seat_runs v s log pending o t knows at is = ap (λ (x : SeatView). slice_get x.running s) (sym knows) ∙ at ∙ ap Some is

pub pending_calls_set : (sets : DeadSets) (pending : List (Option Pending)) (s : ℕ) (o : Option Pending) → pending_calls sets (slice_set pending s o) ≡ slice_set (pending_calls sets pending) s (pending_call_of sets o)
pending_calls_set sets [] s o = refl
pending_calls_set sets (p ∷ ps) zero o = refl
pending_calls_set sets (p ∷ ps) (suc s) o = ap (λ l. pending_call_of sets p ∷ l) (pending_calls_set sets ps s o)

pub completed_calls_snoc : (sets : DeadSets) (records : List Record) (r : Record) → completed_calls sets (records ++ r ∷ []) ≡ completed_calls sets records ++ completed_call sets r ∷ []
completed_calls_snoc sets [] r = refl
completed_calls_snoc sets (x ∷ xs) r = ap (λ l. completed_call sets x ∷ l) (completed_calls_snoc sets xs r)

pub length_completed : (sets : DeadSets) (records : List Record) → length (completed_calls sets records) ≡ length records
length_completed sets [] = refl
length_completed sets (x ∷ xs) = ap suc (length_completed sets xs)

-- a call that runs is that of a job that runs
pub call_there : (sets : DeadSets) (pending : List (Option Pending)) (s : ℕ) (p : PendingCall) → slice_get (pending_calls sets pending) s ≡ Some (Some p) → (q : Pending) × (slice_get pending s ≡ Some (Some q))
call_there sets [] s p e = absurd cc
call_there sets (None ∷ ps) zero p e = absurd cc
call_there sets (Some q ∷ ps) zero p e = (q, refl)
call_there sets (q ∷ ps) (suc s) p e = call_there sets ps s p e

-- one job more runs, or goes on
pub booked_runs : (jobs : List Job) (pending : List (Option Pending)) (records : List Record) (s : ℕ) (p : Pending) → slice_get jobs p.job ≡ Some p.asked → IsRoomOf p.asked (vec_capacity p.given)
    → AreBooked jobs pending records → AreBooked jobs (slice_set pending s (Some p)) records
booked_runs jobs pending records s p is room b = record {
  recorded = b.recorded;
  running = λ t q h. ⊎_elim
      (λ (x : (t ≡ s) × (Some p ≡ Some q)). subst (λ (u : Pending). slice_get jobs u.job ≡ Some u.asked) (some_same x.1) is)
      (λ (x : (t ≢ s) × (slice_get pending t ≡ Some (Some q))). b.running t q x.1)
      (set_cases pending s t (Some p) (Some q) h);
  room = λ t q h. ⊎_elim
      (λ (x : (t ≡ s) × (Some p ≡ Some q)). subst (λ (u : Pending). IsRoomOf u.asked (vec_capacity u.given)) (some_same x.1) room)
      (λ (x : (t ≢ s) × (slice_get pending t ≡ Some (Some q))). b.room t q x.1)
      (set_cases pending s t (Some p) (Some q) h);
  full = b.full;
}

-- a job is done
pub booked_done : (jobs : List Job) (pending : List (Option Pending)) (records : List Record) (s : ℕ) (r : Record) → slice_get jobs r.job ≡ Some r.asked → (r.answer ≡ Ended → ScanIsFull r.asked r.given.items)
    → AreBooked jobs pending records → AreBooked jobs (slice_set pending s None) (records ++ r ∷ [])
booked_done jobs pending records s r is full b = record {
  recorded = λ place t h. ⊎_elim
      (λ (x : (place < length records) × (slice_get records place ≡ Some t)). b.recorded place t x.1)
      (λ (x : (place ≡ length records) × (r ≡ t)). subst (λ (u : Record). slice_get jobs u.job ≡ Some u.asked) x.1 is)
      (get_snoc records r t place h);
  running = λ t q h. ⊎_elim
      (λ (x : (t ≡ s) × (None ≡ Some q)). absurd (let e = x.1 in cc))
      (λ (x : (t ≢ s) × (slice_get pending t ≡ Some (Some q))). b.running t q x.1)
      (set_cases pending s t None (Some q) h);
  room = λ t q h. ⊎_elim
      (λ (x : (t ≡ s) × (None ≡ Some q)). absurd (let e = x.1 in cc))
      (λ (x : (t ≢ s) × (slice_get pending t ≡ Some (Some q))). b.room t q x.1)
      (set_cases pending s t None (Some q) h);
  full = λ place t h. ⊎_elim
      (λ (x : (place < length records) × (slice_get records place ≡ Some t)). b.full place t x.1)
      (λ (x : (place ≡ length records) × (r ≡ t)). subst (λ (u : Record). u.answer ≡ Ended → ScanIsFull u.asked u.given.items) x.1 full)
      (get_snoc records r t place h);
}
