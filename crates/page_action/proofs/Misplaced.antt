-- Which page of an act is the first that may not be changed.
use Rattle.std.proofs.Common.{◌≡◌, ℕ, ◌+◌, ◌<◌, List, length, drop, get_or, refl, sym, subst, inl, inr}
use Rattle.page_action.proofs.Imports.{Format, Page, IsActableBeside, IsFirstMisplaced}
use Rattle.page_action.proofs.StoredPages.{drop_at_item}

module _ (format : Format) (used : ℕ) (pages : List Page) (k : ℕ) (page : Page) (within : k < length pages) (is : page ≡ get_or pages k page) where
  -- it is this page
  pub first_here : (IsActableBeside format used page (drop (k + 1) pages) → ⊥) → IsFirstMisplaced format used (drop k pages) page.block
  first_here wrong = subst (λ (ps : List Page). IsFirstMisplaced format used ps page.block) (sym (drop_at_item pages k page within is)) (inl (refl, wrong))

  -- it is after this page, which may be changed
  pub first_behind : (block : ℕ) → IsActableBeside format used page (drop (k + 1) pages) → IsFirstMisplaced format used (drop (k + 1) pages) block → IsFirstMisplaced format used (drop k pages) block
  first_behind block placed rest = subst (λ (ps : List Page). IsFirstMisplaced format used ps block) (sym (drop_at_item pages k page within is)) (inr (placed, rest))
