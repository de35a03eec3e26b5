-- The shortest beginning of a key that is greater than another key is one byte longer than what the two
-- share.
use Rattle.std.proofs.Common.{◌≡◌, ℕ, zero, suc, ◌==◌, if◌then◌else◌, ◌<◌, ◌≤◌, Bool, true, false, true≢false, None, List, [], ◌∷◌, length, take, refl, sym, subst, ◌∙◌, arith}
use Rattle.tree_shape.proofs.Imports.{nat_cmp, is_lt, is_gt, ordering_then, ordering_reverse, nat_cmp_total, nat_list_cmp_total, tied_itself, eqb-true, eq-eqb, exact_unsigned, Ordering, Less}
use Rattle.tree_shape.proofs.Imports.{Equal, Greater, key_cmp, bound_cmp, bound_of, IsBefore, Bound, Entry, bounds_total, IsKeyBefore, shared, IsShortestPast}

-- equal bytes tie
same_tie : (x y : ℕ) → (x == y) ≡ true → nat_cmp x y ≡ Equal
same_tie x y e =
    let same : x ≡ y = eqb-true x y e in
    subst (λ z. nat_cmp x z ≡ Equal) same (tied_itself nat_cmp_total x)

-- other bytes don't
other_apart : (x y : ℕ) → (x == y) ≡ false → nat_cmp x y ≡ Equal → ⊥
other_apart x y e t =
    let same : (x == y) ≡ true = eq-eqb x y (exact_unsigned x y t) in
    true≢false (sym same ∙ e)

then_less : (r o p : Ordering) → (r ≡ Equal → ⊥) → is_lt (ordering_then r o) ≡ true → is_lt (ordering_then r p) ≡ true
then_less Less o p n h = refl
then_less Equal o p n h = absurd (n refl)
then_less Greater o p n h = absurd cc

-- after equal bytes the rest decides
tail_before : (x y : ℕ) (xs ys : List ℕ) → (x == y) ≡ true → IsKeyBefore (x ∷ xs) (y ∷ ys) → IsKeyBefore xs ys
tail_before x y xs ys e h = subst (λ r. is_lt (ordering_then r (key_cmp xs ys)) ≡ true) (same_tie x y e) h

-- what is greater is longer than what the two share
pub shared_within : (last next : List ℕ) → IsKeyBefore last next → suc (shared last next) ≤ length next
shared_within [] [] h = absurd cc
shared_within [] (y ∷ ys) h = omega arith
shared_within (x ∷ xs) [] h = absurd cc
shared_within (x ∷ xs) (y ∷ ys) h = by (shared_within xs ys) (x == y) refl
  where
    by : (IsKeyBefore xs ys → suc (shared xs ys) ≤ length ys) → (w : Bool) → (x == y) ≡ w → suc (if w then suc (shared xs ys) else 0) ≤ suc (length ys)
    by within true e =
        let le : suc (shared xs ys) ≤ length ys = within (tail_before x y xs ys e h) in
        omega arith
    by within false e = omega arith

-- ... and with one byte more it is greater still
pub greater_still : (last next : List ℕ) → IsKeyBefore last next → IsKeyBefore last (take (suc (shared last next)) next)
greater_still [] [] h = absurd cc
greater_still [] (y ∷ ys) h = refl
greater_still (x ∷ xs) [] h = absurd cc
greater_still (x ∷ xs) (y ∷ ys) h = by (greater_still xs ys) (x == y) refl
  where
    by : (IsKeyBefore xs ys → IsKeyBefore xs (take (suc (shared xs ys)) ys)) → (w : Bool) → (x == y) ≡ w
        → IsKeyBefore (x ∷ xs) (take (suc (if w then suc (shared xs ys) else 0)) (y ∷ ys))
    by still true e = rw (same_tie x y e) (still (tail_before x y xs ys e h))
    by still false e = then_less (nat_cmp x y) (key_cmp xs ys) (key_cmp xs []) (other_apart x y e) h

-- a beginning of what the two share isn't greater
pub no_shorter : (last next : List ℕ) (fewer : ℕ) → fewer < suc (shared last next) → is_lt (key_cmp last (take fewer next)) ≡ false
no_shorter [] next zero lt = refl
no_shorter (x ∷ xs) next zero lt = refl
no_shorter [] next (suc fewer) lt = absurd (omega arith)
no_shorter (x ∷ xs) [] (suc fewer) lt = refl
no_shorter (x ∷ xs) (y ∷ ys) (suc fewer) lt = by (no_shorter xs ys fewer) (x == y) refl lt
  where
    by : (fewer < suc (shared xs ys) → is_lt (key_cmp xs (take fewer ys)) ≡ false) → (w : Bool) → (x == y) ≡ w
        → suc fewer < suc (if w then suc (shared xs ys) else 0) → is_lt (key_cmp (x ∷ xs) (y ∷ take fewer ys)) ≡ false
    by none true e lt = rw (same_tie x y e) (none (omega arith))
    by none false e lt = absurd (omega arith)

pub shortest_is : (last next : List ℕ) → IsKeyBefore last next → IsShortestPast last next (take (suc (shared last next)) next)
shortest_is last next h = record {
  count = suc (shared last next);
  some = omega arith;
  within = shared_within last next h;
  is = refl;
  greater = greater_still last next h;
  shortest = no_shorter last next;
}

-- a beginning isn't greater than what it begins
beginning_upto : (count : ℕ) (key : List ℕ) → is_gt (key_cmp (take count key) key) ≡ false
beginning_upto zero [] = refl
beginning_upto zero (y ∷ ys) = refl
beginning_upto (suc count) [] = refl
beginning_upto (suc count) (y ∷ ys) = rw (tied_itself nat_cmp_total y) (beginning_upto count ys)

-- the place before all rows of a key that isn't greater stands before the entry
before_it : (o : Ordering) → is_gt o ≡ false → is_lt (ordering_then o Less) ≡ true
before_it Less h = refl
before_it Equal h = refl
before_it Greater h = absurd cc

pub lies_before : (key : List ℕ) (next : Entry) (count : ℕ) → key ≡ take count next.key → IsBefore (record { key = key; row = None }) (bound_of next)
lies_before key next count is =
    before_it (key_cmp key next.key) (subst (λ k. is_gt (key_cmp k next.key) ≡ false) (sym is) (beginning_upto count next.key))

-- an entry of a lesser key stands before that place
pub stands_before : (last : Entry) (key : List ℕ) → IsKeyBefore last.key key → IsBefore (bound_of last) (record { key = key; row = None })
stands_before last key h = by (key_cmp last.key key) h
  where
    by : (o : Ordering) → is_lt o ≡ true → is_lt (ordering_then o Greater) ≡ true
    by Less e = refl
    by Equal e = absurd cc
    by Greater e = absurd cc

-- two keys can't be the same if one stands before the other
pub never_itself : (key : List ℕ) → IsKeyBefore key key → ⊥
never_itself key h = true≢false (sym h ∙ rw (tied_itself nat_list_cmp_total key) refl)

-- what stands before stays no greater
pub not_below : (a b : Bound) → IsBefore a b → is_lt (bound_cmp b a) ≡ false
not_below a b h = rw (bounds_total.antisymm b a) (by (bound_cmp a b) h)
  where
    by : (o : Ordering) → is_lt o ≡ true → is_lt (ordering_reverse o) ≡ false
    by Less e = refl
    by Equal e = absurd cc
    by Greater e = absurd cc

pub not_after_itself : (a : Bound) → is_lt (bound_cmp a a) ≡ false
not_after_itself a = rw (tied_itself bounds_total a) refl
