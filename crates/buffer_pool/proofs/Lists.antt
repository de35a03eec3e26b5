-- What stands at a place of a list after one element is put or added.
use Rattle.std.proofs.Common.{◌≡◌, ◌≢◌, ℕ, zero, suc, ◌<◌, Some, List, [], ◌∷◌, ◌++◌, length, get_or, set, slice_get, refl, sym, ap, ◌∙◌, arith}
use Rattle.buffer_pool.proofs.Imports.{get_or-map, Page, blocks_in}

pub slice_get-set_same : {A : Type 0} (xs : List A) (at : ℕ) (y : A) → at < length xs → slice_get (set xs at y) at ≡ Some y
slice_get-set_same [] at y less = absurd (omega (arith, less))
slice_get-set_same (x ∷ xs) zero y less = refl
slice_get-set_same (x ∷ xs) (suc at) y less = slice_get-set_same xs at y (omega (arith, less))

pub slice_get-set_other : {A : Type 0} (xs : List A) (at k : ℕ) (y : A) → k ≢ at → slice_get (set xs at y) k ≡ slice_get xs k
slice_get-set_other [] at k y other = refl
slice_get-set_other (x ∷ xs) zero zero y other = absurd (other refl)
slice_get-set_other (x ∷ xs) zero (suc k) y other = refl
slice_get-set_other (x ∷ xs) (suc at) zero y other = refl
slice_get-set_other (x ∷ xs) (suc at) (suc k) y other = slice_get-set_other xs at k y (λ same. other (ap (λ (n : ℕ). suc n) same))

pub slice_get-push_same : {A : Type 0} (xs : List A) (y : A) → slice_get (xs ++ y ∷ []) (length xs) ≡ Some y
slice_get-push_same [] y = refl
slice_get-push_same (x ∷ xs) y = slice_get-push_same xs y

pub slice_get-push_other : {A : Type 0} (xs : List A) (k : ℕ) (y : A) → k ≢ length xs → slice_get (xs ++ y ∷ []) k ≡ slice_get xs k
slice_get-push_other [] zero y other = absurd (other refl)
slice_get-push_other [] (suc k) y other = refl
slice_get-push_other (x ∷ xs) zero y other = refl
slice_get-push_other (x ∷ xs) (suc k) y other = slice_get-push_other xs k y (λ same. other (ap (λ (n : ℕ). suc n) same))

-- the block of the page in a frame
pub block_of_page : (pages : List Page) (at : ℕ) (page : Page) → at < length pages → page ≡ get_or pages at page → get_or (blocks_in pages) at 0 ≡ page.block
block_of_page pages at page less is = get_or-map (λ (p : Page). p.block) pages at page 0 less ∙ ap (λ (p : Page). p.block) (sym is)
