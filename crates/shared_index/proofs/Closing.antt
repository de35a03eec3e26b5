-- What is left of an index that threads have shared.
use Rattle.std.proofs.Common.{◌≡◌, ℕ, Bool, true, false, List, [], ◌∷◌, Option, Some, slice_get, ⊎_elim, inl, sym, refl, subst}
use Rattle.std.proofs.Math.Logic.{∥∥₁_map}
use Rattle.std.specs.List.{AllByRecursion}
use Rattle.index_model.specs.Actions.{Action}
use Rattle.index_model.specs.Calls.{Call}
use Rattle.index_model.specs.declared.dead_rows.DeadRows.{Ghosts as SetGhosts}
use Rattle.index_model.specs.declared.entry.Entry.{Entry}
use Rattle.page_action.specs.declared.page_store.PageStore.{Ghosts}
use Rattle.session_calls.specs.declared.op.Op.{Op}
use Rattle.session_seats.specs.declared.call.CompletedCall.{CompletedCall}
use Rattle.session_seats.specs.declared.call.PendingCall.{PendingCall}
use Rattle.schedule.specs.TheoremMoments.{StoreAndSlots}
use Rattle.world.specs.Worlds.{inside}
use Rattle.world.specs.declared.world.World.{World}
use Rattle.shared_world.specs.Acted.{HasActed, IsKnown}
use Rattle.shared_world.specs.Handed.{ComesOf, Handed, StillFollows}
use Rattle.shared_world.specs.Kept.{KeepsAll, KeepsFitting, MatchesPending}
use Rattle.shared_world.specs.Standing.{AreIdle}
use Rattle.shared_world.specs.Transitions.{Owner, OfRecord, OfSession}
use Rattle.shared_world.proofs.Noting.{runs_there}
use Rattle.shared_index.specs.Serving.{IsServedWorld}
use Rattle.shared_index.specs.Told.{AreOfLog}

-- no session runs a call
abbrev NoneIsPending : List (Option PendingCall) → Type 0
NoneIsPending pending = (s : ℕ) (p : PendingCall) → slice_get pending s ≡ Some (Some p) → ⊥

-- ... if each is idle
none_runs : (slots : List (Option Op)) (pending : List (Option PendingCall)) → ∥ MatchesPending slots pending ∥₁ → AreIdle slots → NoneIsPending pending
none_runs slots pending matches idle s p e = let yes = runs_there slots pending s p matches e in let no = idle s in absurd (cc)

-- what is kept if none runs
keeps_none : {S : Type 0} (g : Ghosts S) (handed : Handed) (contents : Entry → Bool) (old : List Action) (calls : List Call) (Kept : Type 0) (now : StoreAndSlots S) (start : ℕ)
    (pending : List (Option PendingCall)) (log : List CompletedCall) → NoneIsPending pending
    → KeepsFitting g handed contents old calls Kept now start pending log → KeepsFitting g handed contents old calls Kept now start [] log
keeps_none g handed contents old calls Kept now start pending log none k = record {
  history = k.history;
  calls = k.calls;
  at = k.at;
  start_is = k.start_is;
  grows = k.grows;
  fit = k.fit;
  safe = k.safe;
  same = k.same;
  ours = λ number from below. ⊎_elim (λ h. inl h) (λ h. absurd (none h.call.session h.running h.waits)) (k.ours number from below);
  owned = k.owned;
  long = k.long;
  listed = k.listed;
  once = k.once;
  runs = λ s p e. absurd (cc);
  since = λ s p e. absurd (cc);
  follows = k.follows;
  in_time = k.in_time;
}

-- ... and what was done
known_none : (pending : List (Option PendingCall)) (log : List CompletedCall) → NoneIsPending pending → (owners : List Owner) → AllByRecursion (IsKnown pending log) owners → AllByRecursion (IsKnown [] log) owners
known_none pending log none [] all = all
known_none pending log none (OfRecord place ∷ owners) all = (all.0, known_none pending log none owners all.1)
known_none pending log none (OfSession s ∷ owners) all = absurd (none s (all.0).0 (all.0).1)

acts_none : {S : Type 0} (g : Ghosts S) (handed : Handed) (now : StoreAndSlots S) (pending : List (Option PendingCall)) (log : List CompletedCall) → NoneIsPending pending
    → HasActed g handed now pending log → HasActed g handed now [] log
acts_none g handed now pending log none a = record {
  first = a.first;
  transitions = a.transitions;
  owners = a.owners;
  handed_in = a.handed_in;
  unrecorded = a.unrecorded;
  path = a.path;
  long = a.long;
  known = known_none pending log none a.owners a.known;
  recorded = a.recorded;
  running = λ s p e. absurd (cc);
}

module _ {S T : Type 0} (g : Ghosts S) (rows : SetGhosts T) (stood kept_then : (Entry → Bool) → List Action → List Call → Type 0) (followed : S → Type 0) (handed : Handed)
    (world : World S T) (start : ℕ) (pending : List (Option PendingCall)) (log : List CompletedCall)
    (kept : ∥ KeepsAll g handed stood kept_then (inside rows world) start pending log ∥₁) (acted : ∥ HasActed g handed (inside rows world) pending log ∥₁)
    (matches : ∥ MatchesPending world.calls.slots.items pending ∥₁)
    (comes : ∥ ComesOf g handed start (inside rows world) ∥₁) (steps : ∥ StillFollows g followed world.store ∥₁)
    (told : List (ℕ × List (ℕ × CompletedCall))) (own : AreOfLog log told) where
  -- the whole of what is left
  pub served : (idle : Bool) → (idle ≡ true → AreIdle world.calls.slots.items) → IsServedWorld g rows stood kept_then followed handed (λ t. t ≡ told) world start idle
  served true free = record {
    log = log;
    pending = [];
    told = told;
    kept = ∥∥₁_map kept (λ all honest contents history calls stands.
        keeps_none g handed contents history calls (kept_then contents history calls) (inside rows world) start pending log (none_runs world.calls.slots.items pending matches (free refl)) (all honest contents history calls stands));
    acted = ∥∥₁_map acted (acts_none g handed (inside rows world) pending log (none_runs world.calls.slots.items pending matches (free refl)));
    comes = comes;
    steps = steps;
    own = own;
    learnt = refl;
    none = λ e. refl;
    free = free;
  }
  served false free = record {
    log = log;
    pending = pending;
    told = told;
    kept = kept;
    acted = acted;
    comes = comes;
    steps = steps;
    own = own;
    learnt = refl;
    none = λ e. absurd (cc);
    free = free;
  }

-- what is kept, if more stood and less was kept then
keeps_as : {S : Type 0} (g : Ghosts S) (handed : Handed) (contents : Entry → Bool) (old : List Action) (calls : List Call) (A B : Type 0) (now : StoreAndSlots S) (start : ℕ)
    (pending : List (Option PendingCall)) (log : List CompletedCall) → (A → B) → KeepsFitting g handed contents old calls B now start pending log → KeepsFitting g handed contents old calls A now start pending log
keeps_as g handed contents old calls A B now start pending log f k = record {
  history = k.history;
  calls = k.calls;
  at = k.at;
  start_is = k.start_is;
  grows = k.grows;
  fit = k.fit;
  safe = λ a. k.safe (f a);
  same = k.same;
  ours = k.ours;
  owned = k.owned;
  long = k.long;
  listed = k.listed;
  once = k.once;
  runs = k.runs;
  since = k.since;
  follows = k.follows;
  in_time = k.in_time;
}

module _ {S T : Type 0} (g : Ghosts S) (rows : SetGhosts T) (stood kept_then stands keeps : (Entry → Bool) → List Action → List Call → Type 0) (followed follows : S → Type 0)
    (handed known : Handed) (told : List (ℕ × List (ℕ × CompletedCall))) (Learnt : List (ℕ × List (ℕ × CompletedCall)) → Type 0) (world : World S T) (start : ℕ) (idle : Bool)
    (fits : (contents : Entry → Bool) (history : List Action) (calls : List Call) → stands contents history calls → stood contents history calls)
    (safe : (contents : Entry → Bool) (history : List Action) (calls : List Call) → keeps contents history calls → kept_then contents history calls)
    (then : (first : S) → follows first → followed first) (same : handed ≡ known) (learnt : Learnt told)
    (s : IsServedWorld g rows stood kept_then followed handed (λ t. t ≡ told) world start idle) where
  -- what is left, as one says it who knows what the type tells of
  pub served_as : IsServedWorld g rows stands keeps follows known Learnt world start idle
  served_as = record {
    log = s.log;
    pending = s.pending;
    told = s.told;
    kept = ∥∥₁_map (subst (λ (h : Handed). ∥ KeepsAll g h stood kept_then (inside rows world) start s.pending s.log ∥₁) same s.kept) (λ all honest contents history calls stand.
        keeps_as g known contents history calls (keeps contents history calls) (kept_then contents history calls) (inside rows world) start s.pending s.log (safe contents history calls)
        (all honest contents history calls (fits contents history calls stand)));
    acted = subst (λ (h : Handed). ∥ HasActed g h (inside rows world) s.pending s.log ∥₁) same s.acted;
    comes = subst (λ (h : Handed). ∥ ComesOf g h start (inside rows world) ∥₁) same s.comes;
    steps = ∥∥₁_map s.steps (λ all first was. all first (then first was));
    own = s.own;
    learnt = subst Learnt (sym s.learnt) learnt;
    none = s.none;
    free = s.free;
  }
