-- Frames while pages are brought into memory, and why none can be had.
use Rattle.std.proofs.Common.{◌≡◌, ◌≢◌, inl, inr, ℕ, zero, suc, ◌<◌, true, Some, None, Result, Ok, Err, List, [], ◌∷◌, ◌++◌, map, slice_get, get_or, refl, sym, ap, subst, ◌∙◌}
use Rattle.buffer_pool.specs.Pools.{most_of, frame_of, HasSamePages, IsPut}
use Rattle.page_store.proofs.Pooling.{first_has, later_has}
use Rattle.page_store.proofs.Imports.{cases_eq, slice_get_within, slice_get-get_or, get_or_from_slice_get, is_some, IfErr, All, count_distinct, has_block, Pool, Fault, Format, Page, IsStored}
use Rattle.page_store.proofs.Imports.{AreActable, stored_at, SameFrames, AreTooMany}

-- a page was put into a frame of no pinned one
pub kept_put : (old mid new : Pool) (pinned : List ℕ) (at : ℕ) (page : Page) → HasSamePages old mid
    → ((block : ℕ) → has_block pinned block ≡ true → frame_of old block ≢ Some at) → IsPut mid new at page → SameFrames pinned old new
kept_put old mid new pinned at page same unpinned put = record {
  most = put.most ∙ same.most;
  kept = λ block among there. elim (cases_eq block page.block) [
    | inl here ↦ ap is_some (ap (frame_of new) here ∙ put.frame)
    | inr ne ↦ ap is_some (put.places block ne (λ e. unpinned block among (sym (same.places block) ∙ e)) ∙ same.places block) ∙ there
  ];
}

pub kept_same : (old new : Pool) (pinned : List ℕ) → HasSamePages old new → SameFrames pinned old new
kept_same old new pinned same = record {
  most = same.most;
  kept = λ block among there. ap is_some (same.places block) ∙ there;
}

-- if a pinned block isn't held, the pinned blocks alone are more than the frames
pub too_many : (pool : Pool) (pinned : List ℕ) (block : ℕ) → AreTooMany pool pinned → frame_of pool block ≡ None → has_block pinned block ≡ true → most_of pool < count_distinct pinned
too_many pool pinned block many none among =
    let same : count_distinct (block ∷ pinned) ≡ count_distinct pinned = rw among refl in
    subst (λ (n : ℕ). most_of pool < n) same (many block none)

-- a page of an act may be stored at its block, which is below the limit
pub actable_at : (format : Format) (used : ℕ) (changed : List Page) (k : ℕ) (page : Page) → AreActable format used changed
    → slice_get changed k ≡ Some page → IsStored format page.block page × (page.block < format.pages)
actable_at format used [] k page may at = absurd cc
actable_at format used (p ∷ changed) zero page may at =
    let e : p ≡ page = cc in
    subst (λ (x : Page). IsStored format x.block x × (x.block < format.pages)) e (stored_at format p.block p may.0.storable refl, may.1.1)
actable_at format used (p ∷ changed) (suc k) page may at = actable_at format used changed k page may.3 at

pub all_at : {A : Type 0} (P : A → Type 0) (xs : List A) (k : ℕ) (x : A) → All P xs → slice_get xs k ≡ Some x → P x
all_at P xs k x all at = subst P (get_or_from_slice_get xs k x x at) (all k x (slice_get_within xs k x at))

pub all_of : {A : Type 0} (P : A → Type 0) (xs : List A) → ((k : ℕ) (x : A) → slice_get xs k ≡ Some x → P x) → All P xs
all_of P xs each = λ k d lt. each k (get_or xs k d) (slice_get-get_or xs k d lt)

pub if_err_map : {T : Type 0} (r : Result T Fault) (P Q : Fault → Type 0) → IfErr r P → ((e : Fault) → P e → Q e) → IfErr r Q
if_err_map (Ok x) P Q h f = tt
if_err_map (Err e) P Q h f = f e h

-- the blocks of pages are among them and others
has_own : (pages : List Page) (rest : List ℕ) (k : ℕ) (page : Page) → slice_get pages k ≡ Some page → has_block (map (λ p. p.block) pages ++ rest) page.block ≡ true
has_own [] rest k page at = absurd cc
has_own (p ∷ pages) rest zero page at = let e : p ≡ page = cc in first_has p.block page.block (map (λ p. p.block) pages ++ rest) (ap (λ x. x.block) e)
has_own (p ∷ pages) rest (suc k) page at = later_has p.block page.block (map (λ p. p.block) pages ++ rest) (has_own pages rest k page at)

pub own_pinned : (pages : List Page) (rest pinned : List ℕ) → pinned ≡ map (λ p. p.block) pages ++ rest → All (λ page. has_block pinned page.block ≡ true) pages
own_pinned pages rest pinned is = all_of (λ (page : Page). has_block pinned page.block ≡ true) pages
    (λ k page at. ap (λ (bs : List ℕ). has_block bs page.block) is ∙ has_own pages rest k page at)
