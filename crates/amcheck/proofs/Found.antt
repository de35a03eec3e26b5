-- What is wrong at a stop.
use Rattle.std.proofs.Common.{◌≡◌, ℕ, ◌<◌, Bool, Option, Some, None, is_some, List, length, slice_get, true, false, refl, subst}
use Rattle.amcheck.proofs.Imports.{Node, context_at, IsWrong, IsWrongAt, IsBad, IsLeastNumber, Stop}
use Rattle.amcheck.proofs.Walked.{stop_inside}

abbrev pub no_stop : Stop
no_stop = record { block = 0; low_at = None; left = None; left_is_split = false }

pub bad_inside : (at : ℕ → Node) (keys : Bool) (root : Option ℕ) (stops : List Stop) (k : ℕ) → IsBad at keys root stops k → k < length stops
bad_inside at keys root stops k bad = stop_inside stops k bad.wrong.stop bad.wrong.there

same_stop : (o : Option Stop) (s t : Stop) → o ≡ Some s → o ≡ Some t → s ≡ t
same_stop o s t e f = cc

pub wrong_there : (at : ℕ → Node) (keys : Bool) (root : Option ℕ) (stops : List Stop) (k : ℕ) (s : Stop) (n : ℕ) → slice_get stops k ≡ Some s → IsWrongAt at keys root stops k n
    → IsWrong keys (at s.block) root (context_at at s) s.block n
wrong_there at keys root stops k s n there w = subst (λ (t : Stop). IsWrong keys (at t.block) root (context_at at t) t.block n) (same_stop (slice_get stops k) w.stop s w.there there) w.wrong

pub least_where : (at : ℕ → Node) (keys : Bool) (root : Option ℕ) (stops : List Stop) (k : ℕ) (s : Stop) (o : Option ℕ) → slice_get stops k ≡ Some s
    → IsLeastNumber (IsWrong keys (at s.block) root (context_at at s) s.block) o → IsLeastNumber (IsWrongAt at keys root stops k) o
least_where at keys root stops k s None there least = λ n w. least n (wrong_there at keys root stops k s n there w)
least_where at keys root stops k s (Some n) there least = (record { stop = s; there = there; wrong = least.0 }, λ m lt w. least.1 m lt (wrong_there at keys root stops k s m there w))

pub bad_where : (at : ℕ → Node) (keys : Bool) (root : Option ℕ) (stops : List Stop) (k : ℕ) (o : Option ℕ) → IsLeastNumber (IsWrongAt at keys root stops k) o
    → (is_some o ≡ true → IsBad at keys root stops k) × (IsBad at keys root stops k → is_some o ≡ true)
bad_where at keys root stops k None least = (λ e. absurd cc, λ bad. absurd (least bad.number bad.wrong))
bad_where at keys root stops k (Some n) least = (λ e. record { number = n; wrong = least.0 }, λ bad. refl)
