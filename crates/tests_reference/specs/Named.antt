-- The entries that can be there: those of the start, and those that a history adds.
use Rattle.std.specs.Prelude.{◌≡◌, ℕ, suc, ◌≤◌, Bool, true, false, Some, slice_get, List, [], ◌∷◌}
use Rattle.index_model.specs.Row.{Row}
use Rattle.index_model.specs.Order.{is_among}
use Rattle.index_model.specs.Range.{matches}
use Rattle.index_model.specs.Actions.{Effect, Add, Remove, Shape, Action, is_there_after, ThereAtSomeMoment, ThereThroughout}
use Rattle.index_model.specs.Calls.{IsUpToLast, IsAddedIn, actions_between, Call, end_of, MayAct, IsOwned}
use Rattle.index_model.specs.declared.entry.Entry.{Entry}
use Rattle.index_model.specs.declared.range.Range.{Range}

-- the entry that an effect adds, before others
abbrev pub with_added : Effect → List Entry → List Entry
with_added (Add e) others = e ∷ others
with_added (Remove es) others = others
with_added Shape others = others

-- the entries that a history adds
abbrev pub added_by : List Action → List Entry
added_by [] = []
added_by (a ∷ history) = with_added a.effect (added_by history)

-- the entry matches, and was there at some moment
pub record MayBeGiven (start : Entry → Bool) (history : List Action) (range : Range)
    (began now : ℕ) (e : Entry) : Type 0 where
  pub matched : matches range e ≡ true
  pub was_there : ThereAtSomeMoment start history began now e

-- how far a scan that has finished, or hasn't, owes entries: all, or up to the last one given
abbrev pub Reach : Bool → List Entry → Entry → Type 0
Reach true given e = Unit {0}
Reach false given e = IsUpToLast given e

-- the entry is given, if it is within reach, matches and was there throughout
pub record IsGivenIfOwed (start : Entry → Bool) (history : List Action) (range : Range)
    (began now : ℕ) (given : List Entry) (IsWithin : Entry → Type 0) (e : Entry) : Type 0 where
  pub if_owed : IsWithin e → matches range e ≡ true → ThereThroughout start history began now e
      → is_among given e ≡ true

-- a dead entry that was there at the beginning isn't there at the end, unless it was added
-- meanwhile
pub record IsRemoved (start : Entry → Bool) (history : List Action) (began ended : ℕ)
    (dead : Row → Bool) (e : Entry) : Type 0 where
  pub unless_added : dead e.row ≡ true → is_there_after start history began e ≡ true
      → is_there_after start history ended e ≡ true
      → IsAddedIn (actions_between began ended history) e

-- ... and so for every entry
abbrev pub AreRemoved : (Entry → Bool) → List Action → ℕ → ℕ → (Row → Bool) → Type 0
AreRemoved start history began ended dead =
    (e : Entry) → dead e.row ≡ true → is_there_after start history began e ≡ true
    → is_there_after start history ended e ≡ true
    → IsAddedIn (actions_between began ended history) e

-- the entry has its row in the set and was there just before
pub record IsRemovable (was_there : Entry → Bool) (dead : Row → Bool) (e : Entry) : Type 0 where
  pub is_dead : dead e.row ≡ true
  pub is_there : was_there e ≡ true

-- the call may have done the action that comes after `before` others
pub record HasRight (start : Entry → Bool) (history : List Action) (before : ℕ) (action : Action)
    (call : Call) : Type 0 where
  pub since : call.began ≤ before
  pub until : suc before ≤ end_of history call.ending call.until
  pub may : MayAct (is_there_after start history before) (suc before) action.effect
      call.ask call.added

-- the action that comes after `before` others, if there is one, is owned
pub record IsOwnedAt (start : Entry → Bool) (history : List Action) (calls : List Call) (before : ℕ)
    : Type 0 where
  pub owned : (action : Action) → slice_get history before ≡ Some action
      → IsOwned start history calls before action
