-- Frames that pages take, one after the other.
use Rattle.std.proofs.Common.{◌≡◌, ℕ, zero, suc, true, false, Some, List, [], ◌∷◌, ◌++◌, slice_get, refl, sym, ap, subst, inl}
use Rattle.std.specs.Prelude.{◌==◌}
use Rattle.page_action.proofs.Imports.{eq-eqb, Page, Memory, is_block_among, CostsNothing, TakesFrame, TakesFrames, blocks_of, Backing, or-true}

pub costs_same : (m : Memory) (b : Backing) → CostsNothing m m b b
costs_same m b = record {
  log = record { durable = refl; room = refl; promised = refl; stopped = refl; waiting = refl };
  changed = refl;
  unwritten = λ block. refl;
}

-- nothing is done for a page
pub takes_nothing : (frames : ℕ) (pinned : List ℕ) (block : ℕ) (m : Memory) (b : Backing) → TakesFrame frames pinned block m m b b
takes_nothing frames pinned block m b = record {
  there = λ held. (refl, refl);
  cost = inl (costs_same m b);
  frame = inl refl;
}

-- ... for any of these
pub takes_none : (frames : ℕ) (pinned blocks : List ℕ) (m : Memory) (b : Backing) → TakesFrames frames pinned blocks m m b b
takes_none frames pinned [] m b = (refl, refl)
takes_none frames pinned (block ∷ blocks) m b = (m, b, takes_nothing frames pinned block m b, takes_none frames pinned blocks m b)

-- one page more
pub takes_next : (frames : ℕ) (pinned blocks : List ℕ) (block : ℕ) (m mid m' : Memory) (old between new : Backing)
    → TakesFrames frames pinned blocks m mid old between → TakesFrame frames pinned block mid m' between new → TakesFrames frames pinned (blocks ++ block ∷ []) m m' old new
takes_next frames pinned [] block m mid m' old between new first next =
    (m', new, subst (λ (x : Memory). TakesFrame frames pinned block x m' old new) first.0 (subst (λ (b : Backing). TakesFrame frames pinned block mid m' b new) first.1 next), (refl, refl))
takes_next frames pinned (b ∷ blocks) block m mid m' old between new first next =
    (first.0, first.1, first.2, takes_next frames pinned blocks block first.0 mid m' first.1 between new first.3 next)

-- and nothing for others
pub takes_rest : (frames : ℕ) (pinned blocks others : List ℕ) (m m' : Memory) (old new : Backing)
    → TakesFrames frames pinned blocks m m' old new → TakesFrames frames pinned (blocks ++ others) m m' old new
takes_rest frames pinned [] others m m' old new same =
    subst (λ (x : Memory). TakesFrames frames pinned others m x old new) (sym same.0)
    (subst (λ (b : Backing). TakesFrames frames pinned others m m old b) (sym same.1) (takes_none frames pinned others m old))
takes_rest frames pinned (b ∷ blocks) others m m' old new first =
    (first.0, first.1, first.2, takes_rest frames pinned blocks others first.0 m' first.1 new first.3)

-- the block of a page is among those of all
pub among_own : (pages : List Page) (k : ℕ) (page : Page) → slice_get pages k ≡ Some page → is_block_among (blocks_of pages) page.block ≡ true
among_own [] k page at = absurd cc
among_own (p ∷ pages) zero page at = let e : p ≡ page = cc in rw (eq-eqb p.block page.block (ap (λ (x : Page). x.block) e)) refl
among_own (p ∷ pages) (suc k) page at = rw (among_own pages k page at) (or-true (p.block == page.block))
