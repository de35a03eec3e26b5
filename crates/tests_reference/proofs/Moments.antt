-- Moments of an interval, one after the other.
use Rattle.std.proofs.Common.{◌≡◌, ℕ, zero, suc, ◌+◌, ◌≤◌, ◌<◌, Bool, List, [], ◌∷◌, Some, None, length, take, drop, get_or, refl, ap, sym, arith}
use borrow.Author.Count.{below_more}
use Rattle.tests_reference.proofs.Imports.{slice_get, take_all, history_of, action_of, PlainAction}

pub take_history_of : (k : ℕ) (actions : List PlainAction) → history_of (take k actions) ≡ take k (history_of actions)
take_history_of zero actions = refl
take_history_of (suc k) [] = refl
take_history_of (suc k) (a ∷ actions) = ap (λ h. action_of a ∷ h) (take_history_of k actions)

pub drop_history_of : (k : ℕ) (actions : List PlainAction) → history_of (drop k actions) ≡ drop k (history_of actions)
drop_history_of zero actions = refl
drop_history_of (suc k) [] = refl
drop_history_of (suc k) (a ∷ actions) = drop_history_of k actions

pub length_history_of : (actions : List PlainAction) → length (history_of actions) ≡ length actions
length_history_of [] = refl
length_history_of (a ∷ actions) = ap suc (length_history_of actions)

pub whole_history : (k : ℕ) (actions : List PlainAction) → length actions ≤ k → history_of actions ≡ take k (history_of actions)
whole_history k actions le = sym (take_all k (history_of actions) (omega (arith, length_history_of actions)))

pub nothing_after : (k : ℕ) (actions : List PlainAction) → length actions ≤ k → history_of [] ≡ drop k (history_of actions)
nothing_after k [] le = by k
  where
    by : (n : ℕ) → history_of [] ≡ drop n (history_of [])
    by zero = refl
    by (suc n) = refl
nothing_after zero (a ∷ actions) le = absurd (omega arith)
nothing_after (suc k) (a ∷ actions) le = nothing_after k actions (omega arith)

-- after the last action there is none
pub no_action : (k : ℕ) (actions : List PlainAction) → length actions ≤ k → slice_get (history_of actions) k ≡ None
no_action k [] le = refl
no_action zero (a ∷ actions) le = absurd (omega arith)
no_action (suc k) (a ∷ actions) le = no_action k actions (omega arith)

-- the action at a place means the action of the history at this place
pub action_found : (k : ℕ) (actions : List PlainAction) (a : PlainAction) → k < length actions → a ≡ get_or actions k a
    → slice_get (history_of actions) k ≡ Some (action_of a)
action_found k [] a lt is = absurd (omega arith)
action_found zero (b ∷ actions) a lt is = ap (λ (x : PlainAction). Some (action_of x)) (sym is)
action_found (suc k) (b ∷ actions) a lt is = action_found k actions a (omega arith) is

-- a test has this answer at each moment from `began` on and before `k`
abbrev pub IsSoFar : (ℕ → Bool) → Bool → ℕ → ℕ → Type 0
IsSoFar test answer began k = (j : ℕ) → began ≤ j → j < k → test j ≡ answer

pub none_so_far : (test : ℕ → Bool) (answer : Bool) (began : ℕ) → IsSoFar test answer began began
none_so_far test answer began j since before = absurd (omega arith)

pub one_more : (test : ℕ → Bool) (answer : Bool) (began k : ℕ) → IsSoFar test answer began k → test k ≡ answer → IsSoFar test answer began (k + 1)
one_more test answer began k so_far here j since before =
    below_more (λ (m : ℕ). began ≤ m → test m ≡ answer) k (λ m lt s. so_far m s lt) (λ _. here) j before since
