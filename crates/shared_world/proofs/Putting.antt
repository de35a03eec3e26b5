-- What lies under the lock after a set was put.
use Rattle.std.proofs.Common.{◌≡◌, Bool, true, ℕ, List, [], length, Option, Some, Result, Ok, Err, OnOk, OnErr, slice_get, slice_set, map, sym, ap, ◌∙◌, subst, arith, length-set}
use Rattle.index_model.specs.Calls.{Call}
use Rattle.std.proofs.lemmas.List.{map-set}
use Rattle.session_calls.specs.TheoremCalls.{DeadSets}
use Rattle.index_model.specs.Row.{Row}
use Rattle.shared_world.specs.Handed.{SetsGo}
use Rattle.shared_world.proofs.Words.{AreSameBeside}
use Rattle.shared_world.specs.Transitions.{StaysUntil}
use Rattle.shared_world.proofs.Imports.{append-nil, set_else, ∥∥₁_map, Action, Entry, SetGhosts, Ghosts, IsLater, Op, KeepsHistory, StoreAndSlots, snapshot_of, Fits, inside, World, OriginGhosts, OriginOnGhosts, GroupGhosts, Live, PendingCall, CompletedCall}
use Rattle.shared_world.proofs.Imports.{HasActed, Transition, IsPath, StillFollows, KeepsFitting, Lists, MatchesPending, view_of}
use Rattle.shared_world.proofs.Acting.{moment_of, path_append}
use Rattle.shared_world.proofs.Handing.{sets_stay, sets_then}
use Rattle.shared_world.proofs.Sharing.{IsInOrder}

-- the sets are the same but at this place, whether one was put there or not
pub put_beside : {T A E W : Type 0} (is_in : T → Row → Bool) (r : Result A E) (of : W → List T) (old new : W) (at : ℕ) (set : T) → OnOk r (of new ≡ slice_set (of old) at set) → OnErr r (new ≡ old)
    → AreSameBeside at (map is_in (of old)) (map is_in (of new))
put_beside is_in (Ok t) of old new at set put same =
    let there : map is_in (of new) ≡ slice_set (map is_in (of old)) at (is_in set) = ap (λ l. map is_in l) put ∙ map-set is_in (of old) at set in (
      ap (λ (l : DeadSets). length l) there ∙ length-set (map is_in (of old)) at (is_in set),
      λ other differs. ap (λ (l : DeadSets). slice_get l other) there ∙ set_else (map is_in (of old)) at other (is_in set) differs,
    )
put_beside is_in (Err e) of old new at set put same = sets_stay (Some at) (map is_in (of old)) (map is_in (of new)) (ap (λ w. map is_in (of w)) same)

-- sets have gone so, if that place is spare
go_on : (spare : Option ℕ) (place : ℕ) (first old new : DeadSets) → spare ≡ Some place → AreSameBeside place old new → SetsGo spare first old → SetsGo spare first new
go_on spare place first old new is beside so =
    sets_then spare first old new so (subst (λ (o : Option ℕ). SetsGo o old new) (sym is) beside)

module _ {S T J : Type 0} {g : Ghosts S} {rows : SetGhosts T} {past : OriginOnGhosts J S} {j : OriginGhosts J} {group : GroupGhosts J} (self : Live S T J g rows past j group) (world : World S T) (place : ℕ)
    (may : j.handed.spare ≡ Some place) (store : world.store ≡ self.world.store) (calls : world.calls ≡ self.world.calls) (beside : AreSameBeside place (inside rows self.world).sets (inside rows world).sets)
    (fits : (start : Entry → Bool) (history : List Action) (those : List Call) → Fits g start (snapshot_of (inside rows self.world) history those) → Fits g start (snapshot_of (inside rows world) history those))
    (keeps : (start : Entry → Bool) (history : List Action) (those : List Call) → KeepsHistory g start (snapshot_of (inside rows self.world) history those) → KeepsHistory g start (snapshot_of (inside rows world) history those)) where
  abbrev w : StoreAndSlots S
  w = inside rows self.world

  abbrev v : StoreAndSlots S
  v = inside rows world

  abbrev pending : List (Option PendingCall)
  pending = (view_of self.desk.registry).pending

  abbrev log : List CompletedCall
  log = (view_of self.desk.registry).log

  slots : v.slots ≡ w.slots
  slots = ap (λ c. c.slots.items) calls

  fitting : (contents : Entry → Bool) (acts : List Action) (old : List Call) (Then : Type 0) → KeepsFitting g j.handed contents acts old Then w self.start pending log → KeepsFitting g j.handed contents acts old Then v self.start pending log
  fitting contents acts old Then k = record {
    history = k.history;
    calls = k.calls;
    at = k.at;
    start_is = k.start_is;
    grows = k.grows;
    fit = fits contents k.history k.calls k.fit;
    safe = λ h. keeps contents k.history k.calls (k.safe h);
    same = k.same;
    ours = k.ours;
    owned = k.owned;
    long = k.long;
    listed = λ place r at. subst (λ (x : S). Lists contents k.history (g.backing x).durable j.handed k.calls k.at place r) (sym store) (k.listed place r at);
    once = k.once;
    runs = k.runs;
    since = k.since;
    follows = k.follows;
    in_time = k.in_time;
  }

  -- nothing was done but that
  put : StaysUntil j.handed.spare (moment_of w (length log)) (moment_of v (length log))
  put = (subst (λ (o : Option ℕ). SetsGo o w.sets v.sets) (sym may) beside, λ i. record { here = record { store = store i; slots = slots i; sets = v.sets }; recorded = length log })

  acted : HasActed g j.handed w pending log → HasActed g j.handed v pending log
  acted a = record {
    first = a.first;
    transitions = a.transitions;
    owners = a.owners;
    handed_in = a.handed_in;
    unrecorded = a.unrecorded;
    path = subst (λ (ts : List (Transition S)). IsPath g j.handed.spare a.first ts (moment_of v (length log))) (append-nil a.transitions)
        (path_append g j.handed.spare a.first a.transitions [] (moment_of w (length log)) (moment_of v (length log)) a.path put);
    long = a.long;
    known = a.known;
    recorded = a.recorded;
    running = a.running;
  }

  -- all is in order
  pub put_in_order : IsInOrder self world (view_of self.desk.registry)
  put_in_order = record {
    kept = ∥∥₁_map self.kept (λ all honest contents acts old so.
        fitting contents acts old (j.kept_then contents acts old) (all (subst (λ (x : S). (g.backing x).honest ≡ true) store honest) contents acts old so));
    acted = ∥∥₁_map self.acted acted;
    matches = subst (λ (l : List (Option Op)). ∥ MatchesPending l pending ∥₁) (sym slots) self.matches;
    seats = (let same = ap (λ (l : List (Option Op)). length l) slots in omega (arith, self.seats, same));
    comes = ∥∥₁_map self.comes (λ c. record {
      start_is = c.start_is;
      sessions_are = ap (λ (l : List (Option Op)). length l) slots ∙ c.sessions_are;
      sets_are = go_on j.handed.spare place j.handed.sets w.sets v.sets may beside c.sets_are;
      later = subst (λ (x : S). IsLater j.handed.backing (g.backing x)) (sym store) c.later;
    });
    steps = subst (λ (x : S). ∥ StillFollows g past.followed x ∥₁) (sym store) self.steps;
  }
