-- The order in which changed pages wait, while some are written.
use Rattle.std.proofs.Common.{◌≡◌, inl, inr, ℕ, zero, suc, List, [], ◌∷◌, refl, subst, ◌∙◌}
use Rattle.page_store.proofs.Imports.{remove, IsPartOf}

pub part_same : (xs : List ℕ) → IsPartOf xs xs
part_same [] = tt
part_same (x ∷ xs) = inl (refl, part_same xs)

pub part_is : (xs ys : List ℕ) → xs ≡ ys → IsPartOf xs ys
part_is xs ys is = subst (IsPartOf xs) is (part_same xs)

pub part_more : (x : ℕ) (xs ys : List ℕ) → IsPartOf xs ys → IsPartOf xs (x ∷ ys)
part_more x [] ys part = tt
part_more x (y ∷ xs) ys part = inr part

pub part_both : (xs ys zs : List ℕ) → IsPartOf xs ys → IsPartOf ys zs → IsPartOf xs zs
part_both [] ys zs a b = tt
part_both (x ∷ xs) [] zs a b = absurd a
part_both (x ∷ xs) (y ∷ ys) [] a b = absurd b
part_both (x ∷ xs) (y ∷ ys) (z ∷ zs) a (inr b) = inr (part_both (x ∷ xs) (y ∷ ys) zs a b)
part_both (x ∷ xs) (y ∷ ys) (z ∷ zs) (inl a) (inl b) = inl (a.0 ∙ b.0, part_both xs ys zs a.1 b.1)
part_both (x ∷ xs) (y ∷ ys) (z ∷ zs) (inr a) (inl b) = inr (part_both (x ∷ xs) ys zs a b.1)

pub part_remove : (xs : List ℕ) (k : ℕ) → IsPartOf (remove xs k) xs
part_remove [] zero = tt
part_remove [] (suc k) = tt
part_remove (x ∷ xs) zero = part_more x xs xs (part_same xs)
part_remove (x ∷ xs) (suc k) = inl (refl, part_remove xs k)
