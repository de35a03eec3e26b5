-- If none of the two entries beside an entry's place has its key, none has.
use Rattle.std.proofs.Common.{◌≡◌, ◌≢◌, ℕ, zero, suc, ◌≤◌, true, false, Option, Some, None, List, [], ◌∷◌, length, slice_get, take, drop, refl, sym, ap, subst, ◌∙◌, arith}
use Rattle.index_model.specs.Row.{Row}
use Rattle.tree_shape.proofs.Imports.{nat_list_cmp_total, exact_bytes, take-append-drop, IfNone, IsTotalOrder, AllByRecursion, option_cmp, is_lt, ordering_then, ordering_reverse, Ordering, Less}
use Rattle.tree_shape.proofs.Imports.{Equal, Greater, key_cmp, row_cmp, bound_of, same_entry, is_among, is_past, AscendsPast, IsAscending, Bound, Entry, is_past-trans, same_entry-self, or-true}
use Rattle.tree_shape.proofs.Imports.{AllByRecursion-append, IsKeyFree, IsPlaceOf}

keys_total : IsTotalOrder key_cmp
keys_total = nat_list_cmp_total

-- what stands between two entries of one key is of that key
between_keys : (a b c : Entry) → is_past (bound_of a) b ≡ true → is_past (bound_of b) c ≡ true → a.key ≡ c.key → a.key ≡ b.key
between_keys a b c p q same = by (key_cmp a.key b.key) refl p
  where
    is_less : is_lt (ordering_then (key_cmp b.key a.key) (option_cmp row_cmp (Some b.row) (Some c.row))) ≡ true
    is_less = subst (λ (k : List ℕ). is_lt (ordering_then (key_cmp b.key k) (option_cmp row_cmp (Some b.row) (Some c.row))) ≡ true) (sym same) q

    clash : (o : Ordering) → o ≡ Greater → is_lt (ordering_then o (option_cmp row_cmp (Some b.row) (Some c.row))) ≡ true → ⊥
    clash Less e h = cc
    clash Equal e h = cc
    clash Greater e h = cc

    by : (o : Ordering) → key_cmp a.key b.key ≡ o → is_lt (ordering_then o (option_cmp row_cmp (Some a.row) (Some b.row))) ≡ true → a.key ≡ b.key
    by Less e h = absurd (clash (key_cmp b.key a.key) (keys_total.antisymm b.key a.key ∙ ap ordering_reverse e) is_less)
    by Equal e h = exact_bytes a.key b.key e
    by Greater e h = absurd cc

-- after the place, the first of another key
free_after : (e h : Entry) → is_past (bound_of e) h ≡ true → h.key ≢ e.key → (zs : List Entry) → AscendsPast (Some (bound_of h)) zs → IsKeyFree e.key zs
free_after e h p differ [] ascends = tt
free_after e h p differ (z ∷ zs) ascends =
    let apart : z.key ≢ e.key = λ same. differ (sym (between_keys e h z p ascends.0 (sym same))) in
    (apart, free_after e z (is_past-trans (bound_of e) h z p ascends.0) apart zs ascends.1)

right_free : (e : Entry) (low : Option Bound) (es : List Entry) (at : ℕ) → AscendsPast low es → AllByRecursion (λ x. is_past (bound_of e) x ≡ true) (drop at es)
    → ((x : Entry) → slice_get es at ≡ Some x → x.key ≢ e.key) → IsKeyFree e.key (drop at es)
right_free e low [] zero ascends after differ = tt
right_free e low [] (suc at) ascends after differ = tt
right_free e low (x ∷ xs) zero ascends after differ = (differ x refl, free_after e x after.0 (differ x refl) xs ascends.1)
right_free e low (x ∷ xs) (suc at) ascends after differ = right_free e (Some (bound_of x)) xs at ascends.1 after differ

-- before it, the last of another key
left_free : (e : Entry) (low : Option Bound) (es : List Entry) (at : ℕ) → at ≤ length es → AscendsPast low es → AllByRecursion (λ x. is_past (bound_of x) e ≡ true) (take at es)
    → ((x : Entry) (last : ℕ) → at ≡ suc last → slice_get es last ≡ Some x → x.key ≢ e.key) → IsKeyFree e.key (take at es)
left_free e low es zero le ascends before differ = tt
left_free e low [] (suc at) le ascends before differ = tt
left_free e low (x ∷ xs) (suc zero) le ascends before differ = (differ x zero refl refl, tt)
left_free e low (x ∷ []) (suc (suc at)) le ascends before differ = absurd (omega arith)
left_free e low (x ∷ y ∷ ys) (suc (suc at)) le ascends before differ =
    let rest : IsKeyFree e.key (take (suc at) (y ∷ ys)) =
    left_free e (Some (bound_of x)) (y ∷ ys) (suc at) (omega arith) ascends.1 before.1 (λ z last is got. differ z (suc last) (ap suc is) got) in
    ((λ same. rest.0 (sym (between_keys x y e ascends.1.0 before.1.0 same) ∙ same)), rest)

pub key_free : (e : Entry) (es : List Entry) (at : ℕ) → IsAscending es → IsPlaceOf e es at → ((x : Entry) (last : ℕ) → at ≡ suc last → slice_get es last ≡ Some x → x.key ≢ e.key)
    → ((x : Entry) → slice_get es at ≡ Some x → x.key ≢ e.key) → IsKeyFree e.key es
key_free e es at ascends place left right =
    subst (λ (l : List Entry). IsKeyFree e.key l) (take-append-drop at es)
    (AllByRecursion-append (λ x. x.key ≢ e.key) (take at es) (drop at es) (left_free e None es at place.within ascends place.before left) (right_free e None es at ascends place.after right))

-- an entry at a place, of this key, is among the entries
pub row_there : (key : List ℕ) (found : Entry) (es : List Entry) (at : ℕ) → slice_get es at ≡ Some found → found.key ≡ key → is_among es (record { key = key; row = found.row }) ≡ true
row_there key found es at got same = subst (λ (k : List ℕ). is_among es (record { key = k; row = found.row }) ≡ true) same (among es at got)
  where
    among : (xs : List Entry) (n : ℕ) → slice_get xs n ≡ Some found → is_among xs found ≡ true
    among [] n got = absurd cc
    among (x ∷ xs) zero got = (let is : x ≡ found = cc in rw (subst (λ (z : Entry). same_entry z found ≡ true) (sym is) (same_entry-self found)) refl)
    among (x ∷ xs) (suc n) got = rw (among xs n got) (or-true (same_entry x found))

-- what follows if none is found
pub free_if : {P Q : Type 0} (found : Option Row) → (P → Q) → IfNone found P → IfNone found Q
free_if None f h = f h
free_if (Some row) f h = tt

-- one and the same entry has one key
pub some_key : (a b : Entry) → Some a ≡ Some b → a.key ≡ b.key
some_key a b is = (let same : a ≡ b = cc in ap (λ (e : Entry). e.key) same)
