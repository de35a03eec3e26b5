-- What is known of a world as it was handed in, after an event.
use Rattle.std.proofs.Common.{◌≡◌, ◌∙◌, ℕ, List, map, Option, Some, None, length, slice_get, sym, ap, subst}
use Rattle.page_action.proofs.Laters.{later_trans}
use Rattle.schedule.proofs.Keeping.{Laws}
use Rattle.session_calls.specs.TheoremCalls.{DeadSets}
use Rattle.shared_world.specs.Handed.{SetsGo}
use Rattle.shared_world.proofs.Imports.{SetGhosts, Continues, State, Backing, IsLater, Ghosts, StoreAndSlots, Op, SameSessions, inside, World, Handed, IsAsHanded, ComesOf, StillFollows}

-- an event has made this world of that one: its sessions and sets are the same, its device is a later one,
-- and its store follows what that one's did
pub record IsMadeByEvent {S : Type 0} (g : Ghosts S) (w v : StoreAndSlots S) : Type 0 where
  pub sessions : length v.slots ≡ length w.slots
  pub sets : v.sets ≡ w.sets
  pub later : IsLater (g.backing w.store) (g.backing v.store)
  pub steps : Continues g.follows w.store v.store

-- an event of a world does so
pub is_next : {S T : Type 0} {g : Ghosts S} (rows : SetGhosts T) {old new : World S T} → Laws g → Continues g.follows old.store new.store → SameSessions old new
    → IsMadeByEvent g (inside rows old) (inside rows new)
is_next rows {old} {new} laws steps same = record {
  sessions = same.sessions;
  sets = ap (λ s. map rows.is_in s.items) same.sets;
  later = laws.follows_later old.store new.store (steps old.store (laws.follows_same old.store));
  steps = steps;
}

-- the world that was handed in has become this one, by one event more
pub comes_on : {S : Type 0} (g : Ghosts S) (first : Handed) (start : ℕ) (w v : StoreAndSlots S) → IsMadeByEvent g w v → ComesOf g first start w → ComesOf g first start v
comes_on g first start w v next c = record {
  start_is = c.start_is;
  sessions_are = next.sessions ∙ c.sessions_are;
  sets_are = subst (SetsGo first.spare first.sets) (sym next.sets) c.sets_are;
  later = later_trans first.backing (g.backing w.store) (g.backing v.store) c.later next.later;
}

-- the same sets
pub sets_stay : (spare : Option ℕ) (old new : DeadSets) → new ≡ old → SetsGo spare old new
sets_stay None old new e = e
sets_stay (Some place) old new e = (ap (λ (l : DeadSets). length l) e, λ at other. ap (λ (l : DeadSets). slice_get l at) e)

-- they go on from there
pub sets_then : (spare : Option ℕ) (a b c : DeadSets) → SetsGo spare a b → SetsGo spare b c → SetsGo spare a c
sets_then None a b c one two = two ∙ one
sets_then (Some place) a b c one two = (two.0 ∙ one.0, λ at other. two.1 at other ∙ one.1 at other)

-- a world as it was handed in, so many actions being there
pub comes_first : {S : Type 0} (g : Ghosts S) (laws : Laws g) (handed : Handed) (start : ℕ) (w : StoreAndSlots S) → start ≡ (g.state w.store).acts → IsAsHanded g handed w → ComesOf g handed start w
comes_first g laws handed start w is was = record {
  start_is = is ∙ ap (λ (st : State). st.acts) was.state_is;
  sessions_are = ap (λ (l : List (Option Op)). length l) was.slots_are;
  sets_are = sets_stay handed.spare handed.sets w.sets was.sets_are;
  later = subst (λ (b : Backing). IsLater b (g.backing w.store)) was.backing_is (laws.follows_later w.store w.store (laws.follows_same w.store));
}

-- it follows what it followed, after one event more
pub follows_on : {S : Type 0} (g : Ghosts S) (followed : S → Type 0) (w v : StoreAndSlots S) → IsMadeByEvent g w v → StillFollows g followed w.store → StillFollows g followed v.store
follows_on g followed w v next all first was = next.steps first (all first was)
