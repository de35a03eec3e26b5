use Rattle.std.proofs.Common.{◌≡◌, ◌<◌, ℕ, true, Some, map, take, slice_get}
use Rattle.buffer_pool.specs.Pools.{most_of, frame_of}
use Rattle.page_store.proofs.Imports.{IsSome, Page, is_stopped, IsSameButWritten, GetFrames}
use Rattle.page_store.proofs.logged_pages.LoggedPages.take_frames.Given as goal

abbrev pub invariant-loop-page : goal.invariant-loop-page
invariant-loop-page g l = record {
  quiet : IsSameButWritten g.D.Device l.fn.self l.self;
  frames : GetFrames g.D.Device l.pinned (map (λ page. page.block) (take l.page-index l.pages)) l.fn.self l.self;
  most : most_of l.self.pool ≡ most_of l.fn.self.pool;
  has : (k : ℕ) (page : Page) → k < l.page-index → slice_get l.pages k ≡ Some page → IsSome (frame_of l.self.pool page.block);
  alive : is_stopped l.self.log ≡ true → is_stopped l.fn.self.log ≡ true;
}
