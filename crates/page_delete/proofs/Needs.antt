-- What a step of a cleanup needs.
use Rattle.std.proofs.Common.{◌≡◌, ℕ, Bool, Option, Some, None, ◌∷◌, ◌++◌, map, slice_get, refl}
use Rattle.page_delete.proofs.Imports.{Page, HalfDead, State, sibling, blocks_unlinked_at, IsTakenLeft, unlinked}

-- the blocks that are written when a half-dead page is unlinked
pub dead_blocks : (st : State) (page : Page) → slice_get st.pages page.block ≡ Some page → page.state ≡ HalfDead
    → blocks_unlinked_at page.block st ≡ sibling page.left ++ page.block ∷ sibling page.right
dead_blocks st page found dead = rw (found, dead) refl

pub unlinked_are : (st : State) (honest : Bool) (session number : ℕ) (page right : Page) (block link : Option ℕ) (left : Option Page)
    → link ≡ Some right.block → IsTakenLeft st honest session page block left
    → map (λ (p : Page). p.block) (unlinked left page right number) ≡ sibling block ++ page.block ∷ sibling link
unlinked_are st honest session number page right None link None is taken = rw is refl
unlinked_are st honest session number page right None link (Some other) is taken = absurd taken
unlinked_are st honest session number page right (Some b) link None is taken = absurd taken
unlinked_are st honest session number page right (Some b) link (Some other) is taken = rw (is, taken.0.stored.block_is) refl
