-- What a read that is noted says of a file.
use Rattle.std.proofs.Common.{◌≡◌, ◌↔◌, ℕ, ◌+◌, Bool, true, false, ◌&&◌, ◌==◌, List, [], ◌∷◌, length, eqb-true, eq-eqb, refl, sym, ap, ap₂, subst, ◌∙◌}
use Rattle.std.specs.Prelude.{slice_range}
use Rattle.device.specs.Disk.{Reads}
use Rattle.device.specs.Event.{Event, after_calls, same_bytes, are_right}

and_left : (a b : Bool) → (a && b) ≡ true → a ≡ true
and_left true b e = refl
and_left false b e = e

and_right : (a b : Bool) → (a && b) ≡ true → b ≡ true
and_right true b e = e
and_right false b e = absurd (let k : false ≡ true = e in cc)

and_both : (a b : Bool) → a ≡ true → b ≡ true → (a && b) ≡ true
and_both true b p q = q
and_both false b p q = p

same_told : (xs ys : List ℕ) → same_bytes xs ys ≡ true → xs ≡ ys
same_told [] [] e = refl
same_told [] (y ∷ ys) e = absurd (let k : false ≡ true = e in cc)
same_told (x ∷ xs) [] e = absurd (let k : false ≡ true = e in cc)
same_told (x ∷ xs) (y ∷ ys) e = ap₂ (λ (a : ℕ) (as' : List ℕ). a ∷ as') (eqb-true x y (and_left (x == y) (same_bytes xs ys) e)) (same_told xs ys (and_right (x == y) (same_bytes xs ys) e))

same_self : (xs : List ℕ) → same_bytes xs xs ≡ true
same_self [] = refl
same_self (x ∷ xs) = and_both (x == x) (same_bytes xs xs) (eq-eqb x x refl) (same_self xs)

pub read_noted : (start : List ℕ) (events list : List Event) (at n : ℕ) (old new : List ℕ) → list ≡ (0, at, n, true, new) ∷ events → length new ≡ length old
    → (are_right start list ≡ true) ↔ ((are_right start events ≡ true) × Reads (after_calls start events) at old new)
read_noted start events list at n old new is size = (
  λ e. (let k : (are_right start events && same_bytes new (slice_range (after_calls start events).now.seen at (at + length new))) ≡ true = sym (ap (are_right start) is) ∙ e in (
    and_left (are_right start events) (same_bytes new (slice_range (after_calls start events).now.seen at (at + length new))) k,
    same_told new (slice_range (after_calls start events).now.seen at (at + length new))
        (and_right (are_right start events) (same_bytes new (slice_range (after_calls start events).now.seen at (at + length new))) k) ∙ range,
  )),
  λ p. ap (are_right start) is
      ∙ and_both (are_right start events) (same_bytes new (slice_range (after_calls start events).now.seen at (at + length new))) p.0
      (subst (λ (bs : List ℕ). same_bytes new bs ≡ true) (p.1 ∙ sym range) (same_self new)),
)
  where
    range : slice_range (after_calls start events).now.seen at (at + length new) ≡ slice_range (after_calls start events).now.seen at (at + length old)
    range = ap (λ (k : ℕ). slice_range (after_calls start events).now.seen at (at + k)) size
