-- Entries of one page with one key are one entry.
use Rattle.std.proofs.Common.{◌≡◌, Bool, true, false, true≢false, List, [], ◌∷◌, ℕ, refl, sym, ap, subst, ◌∙◌}
use Rattle.tree_shape.proofs.Imports.{nat_list_cmp_total, tied_itself, IsTotalOrder, is_lt, Ordering, Less, Equal, Greater, key_cmp, is_among, same_entry, Entry, Ascends, FollowedBy, KeyBefore}
use Rattle.tree_shape.proofs.Imports.{same_entry-is}

less : (o : Ordering) → is_lt o ≡ true → o ≡ Less
less Less e = refl
less Equal e = absurd cc
less Greater e = absurd cc

pub key_chain : (a b c : Entry) → KeyBefore a b → KeyBefore b c → KeyBefore a c
key_chain a b c p q = ap is_lt (total.trans a.key b.key c.key (less (key_cmp a.key b.key) p) (less (key_cmp b.key c.key) q))
  where
    total : IsTotalOrder key_cmp
    total = nat_list_cmp_total

-- keys that are before each other aren't one
pub apart_keys : (a b : Entry) → KeyBefore a b → a.key ≡ b.key → ⊥
apart_keys a b p same = true≢false (sym (subst (λ (k : List ℕ). is_lt (key_cmp a.key k) ≡ true) (sym same) p) ∙ rw (tied_itself nat_list_cmp_total a.key) refl)

-- what follows an entry has a greater key
each_follows : (a : Entry) (es : List Entry) (y : Entry) → FollowedBy KeyBefore a es → is_among es y ≡ true → KeyBefore a y
each_follows a [] y h i = absurd cc
each_follows a (e ∷ es) y h i = go (each_follows e es y h.1) (same_entry e y) refl i
  where
    go : (is_among es y ≡ true → KeyBefore e y) → (w : Bool) → same_entry e y ≡ w → is_among (e ∷ es) y ≡ true → KeyBefore a y
    go rest true same i = subst (λ (z : Entry). KeyBefore a z) (same_entry-is e y same) h.0
    go rest false other i = key_chain a e y h.0 (rest (rw other at i))

-- the rest of what ascends ascends
pub tail_ascends : (e : Entry) (es : List Entry) → Ascends KeyBefore (e ∷ es) → Ascends KeyBefore es
tail_ascends e [] h = tt
tail_ascends e (x ∷ es) h = h.1

-- two entries of one key are one
pub one_of_a_key : (es : List Entry) (x y : Entry) → Ascends KeyBefore es → is_among es x ≡ true → is_among es y ≡ true → x.key ≡ y.key → x ≡ y
one_of_a_key [] x y h i j same = absurd cc
one_of_a_key (e ∷ es) x y h i j same = go (one_of_a_key es x y (tail_ascends e es h)) (same_entry e x) (same_entry e y) refl refl i j
  where
    go : (is_among es x ≡ true → is_among es y ≡ true → x.key ≡ y.key → x ≡ y) → (v w : Bool) → same_entry e x ≡ v → same_entry e y ≡ w
        → is_among (e ∷ es) x ≡ true → is_among (e ∷ es) y ≡ true → x ≡ y
    go rest true true p q i j = sym (same_entry-is e x p) ∙ same_entry-is e y q
    go rest true false p q i j =
        let far : KeyBefore e y = each_follows e es y h (rw q at j) in
        absurd (apart_keys e y far (ap (λ (z : Entry). z.key) (same_entry-is e x p) ∙ same))
    go rest false true p q i j =
        let far : KeyBefore e x = each_follows e es x h (rw p at i) in
        absurd (apart_keys e x far (ap (λ (z : Entry). z.key) (same_entry-is e y q) ∙ sym same))
    go rest false false p q i j = rest (rw p at i) (rw q at j) same
