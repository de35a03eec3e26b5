-- Live leaves stay after an event that changes no page, pinned ones after any, and lows don't rise.
use Rattle.std.proofs.Common.{◌≡◌, ◌≢◌, ℕ, suc, List, sym, subst, arith}
use Rattle.tree_acts.proofs.Lows.{lows_same}
use Rattle.schedule.proofs.Imports.{Page, State, IsLeafAt, WasLeaf, NoLowRises, OthersRely, PinnedLeafPagesStay}
use Rattle.scan.specs.Laws.{PinnedLeavesLast}

-- if the pages are as they were
pub leaf_same : (old new : State) → new.pages ≡ old.pages → (block : ℕ) (page : Page) → IsLeafAt old.pages block page → WasLeaf new.pages block
leaf_same old new same block page at = record { page = page; was = subst (λ (ps : List Page). IsLeafAt ps block page) (sym same) at }

pub leaves_same : (old new : State) → new.pages ≡ old.pages → (session : ℕ) → PinnedLeavesLast session old new
leaves_same old new same session block pinned leaf = leaf_same old new same block leaf.page leaf.was

-- what one session leaves of pinned leaves is what another may rely on
pub leaves_last : (session other : ℕ) (old new : State) → other ≢ session → PinnedLeafPagesStay session old new → PinnedLeavesLast other old new
leaves_last session other old new apart stay block pinned leaf = stay other block leaf.page apart leaf.was pinned

pub lows_still : (old new : State) → new.pages ≡ old.pages → NoLowRises old.pages new.pages
lows_still old new same = subst (NoLowRises old.pages) (sym same) (lows_same old.pages)

-- if others may rely, no low rises: there is another session
pub lows_relied : (session : ℕ) (old new : State) → OthersRely session old new → NoLowRises old.pages new.pages
lows_relied session old new others = (others (suc session) (λ same. omega arith)).lows
