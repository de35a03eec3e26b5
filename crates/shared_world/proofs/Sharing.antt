-- What lies under the lock: what a session's seat tells of it, and what is so of it after an event.
use mathlib.Core.Logic.{∥∥₁_elim}
use mathlib.Core.Bool.{Bool-set}
use Rattle.std.proofs.Common.{◌≡◌, ◌≤◌, ◌++◌, ◌∷◌, [], ℕ, Bool, true, false, List, length, Option, Some, None, unwrap_or, slice_get, slice_set, refl, sym, ap, ◌∙◌, subst, arith}
use Rattle.session_seats.specs.Calls.{begun_by, completed_by, completed_of, given_by, given_more}
use Rattle.session_seats.specs.Seats.{registry_with, view_of}
use Rattle.session_seats.specs.declared.call.CompletedCall.{CompletedCall}
use Rattle.session_seats.specs.declared.call.Notice.{Notice}
use Rattle.session_seats.specs.declared.job.Job.TheVariants.{Bulk}
use Rattle.session_seats.specs.declared.call.PendingCall.{PendingCall}
use Rattle.session_seats.specs.declared.seating.SessionView.{SessionView}
use Rattle.index_model.specs.Row.{Row}
use Rattle.session_calls.specs.TheoremCalls.{DeadSets}
use Rattle.shared_world.specs.Handed.{SetsGo}
use Rattle.shared_world.specs.Leaving.{LeavesCall}
use Rattle.shared_world.specs.Rows.{set_asked}
use Rattle.shared_world.proofs.Imports.{Job, ∥∥₁_map, Answer, SetGhosts, Ghosts, has_call, StoreAndSlots, GroupGhosts, OriginGhosts, OriginOnGhosts, inside, World, Live, HasActed, ComesOf, StillFollows, KeepsAll, MatchesPending}
use Rattle.shared_world.proofs.Handing.{IsMadeByEvent, comes_on, follows_on}
use Rattle.shared_world.proofs.Noting.{runs_there, set_same, set_twice}

-- a job that names no set at the spare place names the same set as before
asked_beside : (spare : Option ℕ) (old new : DeadSets) (job : Job) → SetsGo spare old new → ((place : ℕ) → spare ≡ Some place → job ≡ Bulk place → ⊥) → set_asked new job ≡ set_asked old job
asked_beside None old new job same other = ap (λ (l : DeadSets). set_asked l job) same
asked_beside (Some place) old new (Bulk at) beside other = ap (λ (o : Option (Row → Bool)). unwrap_or o (λ row. false)) (beside.1 at (λ e. other place refl (ap Bulk e)))
asked_beside (Some place) old new job beside other = refl

-- two sets are the same in one way at most
same_set : (f h : Row → Bool) (p q : f ≡ h) → p ≡ q
same_set f h p q i j row = Bool-set (f row) (h row) (λ k. p k row) (λ k. q k row) i j

module _ {S T J : Type 0} {g : Ghosts S} {rows : SetGhosts T} {past : OriginOnGhosts J S} {j : OriginGhosts J} {group : GroupGhosts J} (self : Live S T J g rows past j group) where
  -- the calls that run, and those that are over
  abbrev pub pending_in : List (Option PendingCall)
  pending_in = (view_of self.desk.registry).pending

  abbrev pub log_in : List CompletedCall
  log_in = (view_of self.desk.registry).log

  -- what is kept of what fitted the world as it was handed in
  abbrev pub KeepsWith : StoreAndSlots S → List (Option PendingCall) → List CompletedCall → Type 0
  KeepsWith here pending log = KeepsAll g j.handed j.stood j.kept_then here self.start pending log

  -- ... and what was done for its calls
  abbrev ActsWith : StoreAndSlots S → List (Option PendingCall) → List CompletedCall → Type 0
  ActsWith here pending log = HasActed g j.handed here pending log

  -- unless its place is spare, a job names the set that it named as the world was handed in
  pub asked_still : (job : Job) → ((place : ℕ) → j.handed.spare ≡ Some place → job ≡ Bulk place → ⊥) → set_asked (inside rows self.world).sets job ≡ set_asked j.handed.sets job
  asked_still job other = ∥∥₁_elim self.comes (same_set (set_asked (inside rows self.world).sets job) (set_asked j.handed.sets job))
      (λ c. asked_beside j.handed.spare j.handed.sets (inside rows self.world).sets job c.sets_are other)

  -- ... if none is
  pub asked_the_same : (job : Job) → j.handed.spare ≡ None → set_asked (inside rows self.world).sets job ≡ set_asked j.handed.sets job
  asked_the_same job none = asked_still job (λ place is at. absurd (let no : None ≡ Some place = sym none ∙ is in cc))

  -- this session runs this call
  pub record RunsAt (s : ℕ) (p : PendingCall) : Type 0 where
    pub found : slice_get pending_in s ≡ Some (Some p)
    pub has : has_call self.world.calls.slots.items s ≡ true

  -- it runs what its seat tells
  pub running_at : (s : ℕ) {p : PendingCall} {o : Option PendingCall} → slice_get pending_in s ≡ Some o → o ≡ Some p → RunsAt s p
  running_at s {p} at is =
      let found = at ∙ ap Some is in
      record { found = found; has = runs_there self.world.calls.slots.items pending_in s p self.matches found }

  module _ (world : World S T) where
    -- an event leaves the world so, with these calls that run and this log: what was so under the lock is so
    -- of them
    pub record CarriesOn (pending : List (Option PendingCall)) (log : List CompletedCall) : Type 0 where
      pub keeps : KeepsWith (inside rows self.world) pending_in log_in → KeepsWith (inside rows world) pending log
      pub acts : ActsWith (inside rows self.world) pending_in log_in → ActsWith (inside rows world) pending log
      pub matches : MatchesPending self.world.calls.slots.items pending_in → MatchesPending world.calls.slots.items pending
      pub long : length pending ≡ length pending_in
      pub next : IsMadeByEvent g (inside rows self.world) (inside rows world)

    -- all that is to be so as the lock is released, if the registry knows this
    abbrev pub IsInOrder : SessionView → Type 0
    IsInOrder v = record {
      kept : ∥ KeepsWith (inside rows world) v.pending v.log ∥₁;
      acted : ∥ ActsWith (inside rows world) v.pending v.log ∥₁;
      matches : ∥ MatchesPending world.calls.slots.items v.pending ∥₁;
      seats : length v.pending ≤ length world.calls.slots.items;
      comes : ∥ ComesOf g j.handed self.start (inside rows world) ∥₁;
      steps : ∥ StillFollows g past.followed world.store ∥₁;
    }

    -- it is so after such an event
    pub in_order : {pending : List (Option PendingCall)} {log : List CompletedCall} {view : SessionView} → CarriesOn pending log → view ≡ registry_with log pending → IsInOrder view
    in_order leaves is = subst IsInOrder (sym is) (record {
      kept = ∥∥₁_map self.kept leaves.keeps;
      acted = ∥∥₁_map self.acted leaves.acts;
      matches = ∥∥₁_map self.matches leaves.matches;
      seats = omega (arith, self.seats, leaves.long, leaves.next.sessions);
      comes = ∥∥₁_map self.comes (comes_on g j.handed self.start (inside rows self.world) (inside rows world) leaves.next);
      steps = ∥∥₁_map self.steps (follows_on g past.followed (inside rows self.world) (inside rows world) leaves.next);
    })

-- What the steps of the seats' cell leave. The registry knew k and the seat v, and a look has left both so: m
-- and x. The session is s, and so is that of the seat then. Each step has a notice.
module _ (k m : SessionView) (s t : ℕ) (registry : m ≡ k) (same : t ≡ s) (notice : Notice) where
  -- a call has begun
  pub begun_view : {n : SessionView} (removed : List Row) → n ≡ registry_with m.log (slice_set m.pending t (Some (begun_by removed notice (length m.log)))) → n ≡ registry_with k.log (slice_set k.pending s (Some (begun_by removed notice (length k.log))))
  begun_view removed known = known ∙ (λ i. registry_with (registry i).log (slice_set (registry i).pending (same i) (Some (begun_by removed notice (length (registry i).log)))))

  -- ... and is over at once
  pub done_view : {n l : SessionView} {r : ℕ} {o : Option PendingCall} (removed : List Row) → n ≡ registry_with m.log (slice_set m.pending t (Some (begun_by removed notice (length m.log)))) → r ≡ t → o ≡ Some (begun_by removed notice (length m.log))
      → l ≡ registry_with (n.log ++ completed_by r notice o ∷ []) (slice_set n.pending r None)
      → l ≡ registry_with (k.log ++ completed_of s (begun_by removed notice (length k.log)) notice.answer notice.at ∷ []) (slice_set k.pending s None)
  done_view removed known again call last =
      let b = begun_view removed known in
      let o = call ∙ ap (λ (u : SessionView). Some (begun_by removed notice (length u.log))) registry in
      last ∙ (λ i. registry_with ((b i).log ++ completed_by ((again ∙ same) i) notice (o i) ∷ []) (slice_set (b i).pending ((again ∙ same) i) None))
      ∙ ap (registry_with (k.log ++ completed_of s (begun_by removed notice (length k.log)) notice.answer notice.at ∷ [])) (set_twice k.pending s (Some (begun_by removed notice (length k.log))) None)

  -- the call that runs has given one entry more
  pub given_view : {n : SessionView} {o : Option PendingCall} (p : PendingCall) → o ≡ Some p → n ≡ registry_with m.log (slice_set m.pending t (given_by notice o)) → n ≡ registry_with k.log (slice_set k.pending s (Some (given_more p notice.answer)))
  given_view p runs known = known ∙ (λ i. registry_with (registry i).log (slice_set (registry i).pending (same i) (given_by notice (runs i))))

  -- ... or is over
  pub ended_view : {n : SessionView} {o : Option PendingCall} (p : PendingCall) → o ≡ Some p → n ≡ registry_with (m.log ++ completed_by t notice o ∷ []) (slice_set m.pending t None)
      → n ≡ registry_with (k.log ++ completed_of s p notice.answer notice.at ∷ []) (slice_set k.pending s None)
  ended_view p runs known = known ∙ (λ i. registry_with ((registry i).log ++ completed_by (same i) notice (runs i) ∷ []) (slice_set (registry i).pending (same i) None))

-- a seat runs what it ran before a look
pub ran : {x v : SessionView} {p : PendingCall} → x ≡ v → v.call ≡ Some p → x.call ≡ Some p
ran seat runs = ap (λ (u : SessionView). u.call) seat ∙ runs

-- What that leaves of the session's call. The registry knows n then, and the seat y.
module _ (k n v y : SessionView) (s : ℕ) where
  -- it runs on as it did
  pub still_leaves : (p : PendingCall) (answer : Answer) (to : ℕ) → n ≡ k → y ≡ v → slice_get k.pending s ≡ Some v.call → v.call ≡ Some p → LeavesCall s false p answer to k n v y
  still_leaves p answer to registry seat at runs = record {
    log = ap (λ (u : SessionView). u.log) registry;
    pending = ap (λ (u : SessionView). u.pending) registry ∙ sym (set_same k.pending s (Some p) (at ∙ ap Some runs));
    call = ap (λ (u : SessionView). u.call) seat ∙ runs;
    calls = ap (λ (u : SessionView). u.calls) seat;
  }

  -- it is this now
  pub runs_leaves : (p : PendingCall) (answer : Answer) (to : ℕ) → n ≡ registry_with k.log (slice_set k.pending s (Some p)) → y.call ≡ Some p → y.calls ≡ v.calls → LeavesCall s false p answer to k n v y
  runs_leaves p answer to view call calls = record { log = ap (λ (u : SessionView). u.log) view; pending = ap (λ (u : SessionView). u.pending) view; call = call; calls = calls }

  -- ... or it is over
  pub over_leaves : (p : PendingCall) (answer : Answer) (to : ℕ) → n ≡ registry_with (k.log ++ completed_of s p answer to ∷ []) (slice_set k.pending s None) → y.call ≡ None
      → y.calls ≡ v.calls ++ (length k.log, completed_of s p answer to) ∷ [] → LeavesCall s true p answer to k n v y
  over_leaves p answer to view call calls = record { log = ap (λ (u : SessionView). u.log) view; pending = ap (λ (u : SessionView). u.pending) view; call = call; calls = calls }
