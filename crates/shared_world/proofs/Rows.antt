-- The rows of a set tell the set.
use Rattle.std.proofs.Common.{◌≡◌, ◌⊎◌, ◌≤◌, ◌<◌, ◌+◌, ◌++◌, ◌∷◌, [], ℕ, zero, suc, Bool, true, false, cond, List, map, filter, inl, inr, ⊎_elim, refl, sym, ap, ◌∙◌, subst, arith}
use Rattle.std.specs.Prelude.{flat_map}
use Rattle.std.specs.List.{range_with_len}
use Rattle.index_model.specs.Row.{Row, IsRow}
use Rattle.shared_world.specs.Rows.{RowsTellSets, all_rows, rows_in}
use Rattle.shared_world.proofs.Imports.{nat_cases}

-- x is an element
abbrev IsElement : {A : Type 0} → List A → A → Type 0
IsElement [] x = ⊥
IsElement (y ∷ ys) x = (y ≡ x) ⊎ IsElement ys x

has_left : {A : Type 0} (xs ys : List A) (x : A) → IsElement xs x → IsElement (xs ++ ys) x
has_left [] ys x h = absurd h
has_left (y ∷ xs) ys x (inl e) = inl e
has_left (y ∷ xs) ys x (inr h) = inr (has_left xs ys x h)

has_right : {A : Type 0} (xs ys : List A) (x : A) → IsElement ys x → IsElement (xs ++ ys) x
has_right [] ys x h = h
has_right (y ∷ xs) ys x h = inr (has_right xs ys x h)

has_mapped : {A B : Type 0} (f : A → B) (xs : List A) (x : A) → IsElement xs x → IsElement (map f xs) (f x)
has_mapped f [] x h = absurd h
has_mapped f (y ∷ ys) x (inl e) = inl (ap f e)
has_mapped f (y ∷ ys) x (inr h) = inr (has_mapped f ys x h)

has_part : {A B : Type 0} (f : A → List B) (xs : List A) (x : A) (b : B) → IsElement xs x → IsElement (f x) b → IsElement (flat_map f xs) b
has_part f [] x b h part = absurd h
has_part f (y ∷ ys) x b (inl e) part = has_left (f y) (flat_map f ys) b (subst (λ z. IsElement (f z) b) (sym e) part)
has_part f (y ∷ ys) x b (inr h) part = has_right (f y) (flat_map f ys) b (has_part f ys x b h part)

has_number : (a n k : ℕ) → a ≤ k → k < a + n → IsElement (range_with_len a n) k
has_number a zero k from below = absurd (omega arith)
has_number a (suc n) k from below = ⊎_elim (λ e. inl e) (λ differs. inr (has_number (a + 1) n k (omega (arith, differs)) (omega arith))) (nat_cases a k)

-- each address is listed
listed : (row : Row) → IsRow row → IsElement all_rows row
unfolding all_rows
listed row is =
    has_part (λ block. map (λ offset. record { block = block; offset = offset }) (range_with_len 1 65535)) (range_with_len 0 4294967295) row.block row
    (has_number 0 4294967295 row.block (omega arith) (let b = is.block in omega (arith, b)))
    (has_mapped (λ offset. record { block = row.block; offset = offset }) (range_with_len 1 65535) row.offset
    (has_number 1 65535 row.offset (let o = is.offset in omega (arith, o)) (let o = is.narrow in omega (arith, o))))

-- what passes a test, and only that, is among those that pass it
has_more : {A : Type 0} (b : Bool) (y x : A) (ys : List A) → IsElement ys x → IsElement (cond b (y ∷ ys) ys) x
has_more true y x ys h = inr h
has_more false y x ys h = h

passes : {A : Type 0} (test : A → Bool) (xs : List A) (x : A) → IsElement xs x → test x ≡ true → IsElement (filter test xs) x
passes test [] x h passing = absurd h
passes test (y ∷ ys) x (inl e) passing = subst (λ b. IsElement (cond b (y ∷ filter test ys) (filter test ys)) x) (sym (ap test e ∙ passing)) (inl e)
passes test (y ∷ ys) x (inr h) passing = has_more (test y) y x (filter test ys) (passes test ys x h passing)

has_passed : {A : Type 0} (test : A → Bool) (xs : List A) (x : A) → IsElement (filter test xs) x → test x ≡ true
has_passed test [] x h = absurd h
has_passed test (y ∷ ys) x h = by (has_passed test ys x) (test y) refl h
  where
    by : (IsElement (filter test ys) x → test x ≡ true) → (b : Bool) → test y ≡ b → IsElement (cond b (y ∷ filter test ys) (filter test ys)) x → test x ≡ true
    by rest true is (inl e) = ap test (sym e) ∙ is
    by rest true is (inr more) = rest more
    by rest false is more = rest more

-- a row of one set is one of the other
goes_over : (all : List Row) (a b : Row → Bool) → filter a all ≡ filter b all → (row : Row) → IsElement all row → a row ≡ true → b row ≡ true
goes_over all a b same row there passing = has_passed b all row (subst (λ l. IsElement l row) same (passes a all row there passing))

agree : (all : List Row) (a b : Row → Bool) → filter a all ≡ filter b all → (row : Row) → IsElement all row → a row ≡ b row
agree all a b same row there = by (a row) (b row) refl refl
  where
    by : (x y : Bool) → a row ≡ x → b row ≡ y → a row ≡ b row
    by true y in_a in_b = in_a ∙ sym (goes_over all a b same row there in_a)
    by false false in_a in_b = in_a ∙ sym in_b
    by false true in_a in_b = goes_over all b a (sym same) row there in_b ∙ sym in_b

pub rows_tell : RowsTellSets
unfolding rows_in
rows_tell a b same row is = agree all_rows a b same row (listed row is)
