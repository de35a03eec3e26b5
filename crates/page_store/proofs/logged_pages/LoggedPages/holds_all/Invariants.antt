use Rattle.std.proofs.Common.{◌≡◌, ◌<◌, ℕ, Some, slice_get}
use Rattle.buffer_pool.specs.Pools.{frame_of}
use Rattle.page_store.proofs.Imports.{IsSome, Page}
use Rattle.page_store.proofs.logged_pages.LoggedPages.holds_all.Given as goal

abbrev pub invariant-loop-page : goal.invariant-loop-page
invariant-loop-page g l = (k : ℕ) (page : Page) → k < l.page-index → slice_get l.pages k ≡ Some page → IsSome (frame_of l.self.pool page.block)
