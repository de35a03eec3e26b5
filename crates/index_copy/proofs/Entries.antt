-- Entries of lists, and tests of them.
use Rattle.std.specs.List.{AllByRecursion, IsDistinct}
use Rattle.std.proofs.Common.{◌≡◌, ◌<◌, ◌+◌, ℕ, zero, suc, Bool, true, false, ◌||◌, Some, List, [], ◌∷◌, ◌++◌, length, take, get_or, refl, sym, ap, inl, inr, ◌∙◌}
use Rattle.std.proofs.lemmas.Bool.{or_cases}
use Rattle.std.proofs.lemmas.List.{take_more}
use Rattle.index_model.proofs.Ascending.{is_among-append, is_past-not_same, is_past-trans}
use Rattle.index_model.specs.Order.{AscendsPast, IsAscending, bound_of, is_among, is_past, same_entry}
use Rattle.index_model.specs.declared.entry.Entry.{Entry}

pub or_left : (a b : Bool) → a ≡ true → (a || b) ≡ true
or_left true b h = refl
or_left false b h = absurd cc

pub or_right : (a b : Bool) → b ≡ true → (a || b) ≡ true
or_right true b h = refl
or_right false b h = h

pub or_none : (a : Bool) → (a || false) ≡ a
or_none true = refl
or_none false = refl

-- what comes after, before it, and was there
pub or_turned : (a b c : Bool) → (b || (a || c)) ≡ ((a || b) || c)
or_turned true true c = refl
or_turned true false c = refl
or_turned false true c = refl
or_turned false false c = refl

or_last : (a b c : Bool) → ((a || b) || c) ≡ ((a || c) || b)
or_last true b c = refl
or_last false true true = refl
or_last false true false = refl
or_last false false true = refl
or_last false false false = refl

or_group : (a b c : Bool) → (a || (b || c)) ≡ ((a || b) || c)
or_group true b c = refl
or_group false b c = refl

-- two tests are one if each holds where the other does
pub one_test : (a b : Bool) → (a ≡ true → b ≡ true) → (b ≡ true → a ≡ true) → a ≡ b
one_test true b f g = sym (f refl)
one_test false true f g = g refl
one_test false false f g = refl

-- an entry among the first ones is among all
pub among_first : (n : ℕ) (xs : List Entry) (e : Entry) → is_among (take n xs) e ≡ true → is_among xs e ≡ true
among_first zero xs e h = absurd cc
among_first (suc n) [] e h = h
among_first (suc n) (x ∷ xs) e h =
    elim (or_cases (same_entry x e) (is_among (take n xs) e) h) [
      | inl same ↦ or_left (same_entry x e) (is_among xs e) same
      | inr rest ↦ or_right (same_entry x e) (is_among xs e) (among_first n xs e rest)
    ]

-- the first ones, with one more
pub among_one_more : (xs : List Entry) (x e : Entry) → is_among (xs ++ x ∷ []) e ≡ (is_among xs e || same_entry x e)
among_one_more xs x e = is_among-append xs (x ∷ []) e ∙ ap (λ (b : Bool). is_among xs e || b) (or_none (same_entry x e))

pub among_next : (xs : List Entry) (i : ℕ) (x e : Entry) → i < length xs → x ≡ get_or xs i x → is_among (take (i + 1) xs) e ≡ (is_among (take i xs) e || same_entry x e)
among_next xs i x e h at =
    ap (λ (l : List Entry). is_among l e) (take_more xs i x h ∙ ap (λ (y : Entry). take i xs ++ y ∷ []) (sym at)) ∙ among_one_more (take i xs) x e

-- the entry at a place is among them
pub among_at : (xs : List Entry) (i : ℕ) (x e : Entry) → i < length xs → x ≡ get_or xs i x → same_entry x e ≡ true → is_among xs e ≡ true
among_at xs i x e h at same = among_first (i + 1) xs e (among_next xs i x e h at ∙ or_right (is_among (take i xs) e) (same_entry x e) same)

-- one more in the first of two lists, or in the other
pub among_first_too : (after first others : List Entry) (x e : Entry) → after ≡ first ++ x ∷ [] → (is_among after e || is_among others e) ≡ ((is_among first e || is_among others e) || same_entry x e)
among_first_too after first others x e is =
    ap (λ (l : List Entry). is_among l e || is_among others e) is ∙ ap (λ (b : Bool). b || is_among others e) (among_one_more first x e)
    ∙ or_last (is_among first e) (same_entry x e) (is_among others e)

pub among_others_too : (after first others : List Entry) (x e : Entry) → after ≡ others ++ x ∷ [] → (is_among first e || is_among after e) ≡ ((is_among first e || is_among others e) || same_entry x e)
among_others_too after first others x e is =
    ap (λ (l : List Entry). is_among first e || is_among l e) is ∙ ap (λ (b : Bool). is_among first e || b) (among_one_more others x e)
    ∙ or_group (is_among first e) (is_among others e) (same_entry x e)

-- among two lists, by other names of theirs
pub among_both : (first is_first others are_others : List Entry) (e : Entry) → first ≡ is_first → others ≡ are_others
    → (is_among is_first e || is_among are_others e) ≡ (is_among first e || is_among others e)
among_both first is_first others are_others e a b =
    ap (λ (l : List Entry). is_among l e || is_among are_others e) (sym a) ∙ ap (λ (l : List Entry). is_among first e || is_among l e) (sym b)

-- ascending entries are apart
further : (a e : Entry) (es : List Entry) → is_past (bound_of a) e ≡ true → AscendsPast (Some (bound_of e)) es → AscendsPast (Some (bound_of a)) es
further a e [] past h = tt
further a e (f ∷ fs) past h = (is_past-trans (bound_of a) e f past h.0, h.1)

apart_from : (a : Entry) (es : List Entry) → AscendsPast (Some (bound_of a)) es → AllByRecursion (λ y. same_entry a y ≡ false) es
apart_from a [] h = tt
apart_from a (e ∷ es) h = (is_past-not_same a e h.0, apart_from a es (further a e es h.0 h.1))

ascending_rest : (e : Entry) (es : List Entry) → AscendsPast (Some (bound_of e)) es → IsAscending es
ascending_rest e [] h = tt
ascending_rest e (f ∷ fs) h = (tt, h.1)

pub distinct_ascending : (es : List Entry) → IsAscending es → IsDistinct same_entry es
unfolding IsDistinct
distinct_ascending [] h = tt
distinct_ascending (e ∷ es) h = (apart_from e es h.1, distinct_ascending es (ascending_rest e es h.1))
