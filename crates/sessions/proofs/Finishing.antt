-- A run whose jobs are done has a receipt for each.
use Rattle.std.proofs.Common.{◌≡◌, ℕ, ◌<◌, Bool, List, [], length, Option, Some, None, IfSome, slice_get, refl, sym, ap, ◌∙◌, arith}
use Rattle.std.specs.List.{sum}
use Rattle.sessions.specs.declared.outcome.Finished.{Finished}
use Rattle.sessions.proofs.Imports.{length-map, ∥∥₁_map, Action, Call, Entry, SetGhosts, Ghosts, StoreAndSlots, WorldFits, WorldKeeps, World, Job, Receipt, Record, PendingCall, CompletedCall, completed_calls, HasRun, IsFinished}
use Rattle.sessions.proofs.Imports.{IsReceiptFor, handed_of, jobs_of_records, receipt_of, records_of, Handed, KeepsFitting, get_within}
use Rattle.sessions.proofs.Receipting.{all_below, as_many, each_once, get_mapped, got_mapped, one_place, place_of}

pub if_some : {A : Type 0} (o : Option A) (P : A → Type 0) → ((x : A) → o ≡ Some x → P x) → IfSome o P
if_some None P f = tt
if_some (Some x) P f = f x refl

same_there : {A : Type 0} (o : Option A) (x y : A) → o ≡ Some x → o ≡ Some y → x ≡ y
same_there o x y e f = cc

-- what is kept, if less was kept then
keeps_as : {S : Type 0} (g : Ghosts S) (handed : Handed) (contents : Entry → Bool) (old : List Action) (calls : List Call) (A B : Type 0)
    (now : StoreAndSlots S) (start : ℕ) (pending : List (Option PendingCall)) (records : List CompletedCall)
    → (A → B) → KeepsFitting g handed contents old calls B now start pending records → KeepsFitting g handed contents old calls A now start pending records
keeps_as g handed contents old calls A B now start pending records f k = record {
  history = k.history;
  calls = k.calls;
  at = k.at;
  start_is = k.start_is;
  grows = k.grows;
  fit = k.fit;
  safe = λ a. k.safe (f a);
  same = k.same;
  ours = k.ours;
  owned = k.owned;
  long = k.long;
  listed = k.listed;
  once = k.once;
  runs = k.runs;
  since = k.since;
  follows = k.follows;
  in_time = k.in_time;
}

-- what a run has left, by which each record's job and worker have their places
module _ {S T : Type 0} (g : Ghosts S) (rows : SetGhosts T) (stood kept_then : (Entry → Bool) → List Action → List Call → Type 0) (followed : S → Type 0) (handed : Handed)
    (jobs : List Job) (workers : ℕ) (world : World S T) (start : ℕ) (records : List Record)
    (h : HasRun g rows stood kept_then followed handed jobs workers world start records) where
  pub job_below : (place : ℕ) (r : Record) → slice_get records place ≡ Some r → r.job < length jobs
  job_below place r at = all_below (length jobs) (jobs_of_records records) h.all place r.job (get_mapped (λ (x : Record). x.job) records place r at)

  pub job_once : (p q : ℕ) (r t : Record) → slice_get records p ≡ Some r → slice_get records q ≡ Some t → r.job ≡ t.job → p ≡ q
  job_once p q r t at there same =
      one_place (jobs_of_records records) p q r.job (each_once (length jobs) (jobs_of_records records) h.all r.job (job_below p r at)) (get_mapped (λ (x : Record). x.job) records p r at)
      (get_mapped (λ (x : Record). x.job) records q t there ∙ ap Some (sym same))

module _ {S T : Type 0} (g : Ghosts S) (rows : SetGhosts T) (stood kept_then : (Entry → Bool) → List Action → List Call → Type 0) (followed : S → Type 0) (jobs : List Job)
    (workers : ℕ) (world : World S T) (done : Finished S T)
    (h : HasRun g rows stood kept_then followed (handed_of g rows None world) jobs workers done.world done.start done.history.items)
    (fits : (contents : Entry → Bool) (history : List Action) (calls : List Call) → WorldFits g rows world contents history calls → stood contents history calls)
    (keeps : (contents : Entry → Bool) (history : List Action) (calls : List Call) → WorldKeeps g rows world contents history calls → kept_then contents history calls)
    (followed_then : (first : S) → g.follows first world.store → followed first)
    (long : length done.receipts.items ≡ length jobs) (wide : length done.calls.items ≡ workers)
    (written : (place : ℕ) (r : Record) → slice_get done.history.items place ≡ Some r → slice_get done.receipts.items r.job ≡ Some (receipt_of place r))
    (counted : (worker : ℕ) → worker < workers → slice_get done.calls.items worker ≡ Some (records_of worker done.history.items))
    (summed : sum done.calls.items ≡ length done.history.items) where
  abbrev records : List Record
  records = done.history.items

  receipt_for : (job : ℕ) (x : Receipt) → slice_get done.receipts.items job ≡ Some x → IsReceiptFor records job x
  receipt_for job x at =
      let inside = get_within done.receipts.items job x at in
      let one = each_once (length jobs) (jobs_of_records records) h.all job (omega (arith, inside, long)) in
      let place = place_of (jobs_of_records records) job (omega (arith, one)) in
      let r = got_mapped (λ (y : Record). y.job) records place.0 job place.1 in
      let e : x ≡ receipt_of place.0 r.0 = same_there (slice_get done.receipts.items job) x (receipt_of place.0 r.0) at (ap (slice_get done.receipts.items) (sym r.2) ∙ written place.0 r.0 r.1) in
      let p : x.place ≡ place.0 = ap (λ (y : Receipt). y.place) e in
      record {
        record_of = r.0;
        found = ap (slice_get records) p ∙ r.1;
        job_is = r.2;
        told = e ∙ ap (λ n. receipt_of n r.0) (sym p);
      }

  pub finished : IsFinished g rows jobs workers world done
  finished = record {
    kept = ∥∥₁_map h.kept
        (λ all honest contents history calls fit. keeps_as g (handed_of g rows None world) contents history calls (WorldKeeps g rows world contents history calls) (kept_then contents history calls) _ done.start [] (completed_calls (handed_of g rows None world).sets records)
        (keeps contents history calls) (all honest contents history calls (fits contents history calls fit)));
    acted = h.acted;
    booked = h.booked;
    comes = h.comes;
    steps = ∥∥₁_map h.steps (λ all first was. all first (followed_then first was));
    idle = h.idle;
    all = sym (length-map records (λ r. r.job)) ∙ as_many (length jobs) (jobs_of_records records) h.all;
    once = each_once (length jobs) (jobs_of_records records) h.all;
    receipts = long;
    each = λ job. if_some (slice_get done.receipts.items job) (IsReceiptFor records job) (receipt_for job);
    workers_are = wide;
    calls = λ worker. if_some (slice_get done.calls.items worker) (λ n. n ≡ records_of worker records)
        (λ n at. same_there (slice_get done.calls.items worker) n (records_of worker records) at
        (counted worker (let inside = get_within done.calls.items worker n at in omega (arith, inside, wide))));
    summed = summed;
  }
