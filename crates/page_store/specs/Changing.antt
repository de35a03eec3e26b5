-- What an act leaves in the pool.
use Rattle.std.specs.Prelude.{◌≡◌, ℕ, suc, max, true, Some, None, List, [], ◌∷◌}
use Rattle.std.specs.Prelude.{is_some}
use Rattle.buffer_pool.specs.Pools.{most_of, reach_of, pool_count, frame_of, held_page, act_of, changed_of}
use Rattle.buffer_pool.specs.declared.pool.Pool.{Pool}
use Rattle.page_action.specs.Order.{with_changed}
use Rattle.page_codec.specs.declared.page.Page.{Page}
use Rattle.redo_log.specs.Images.{last_image}

-- the pages were changed by this act, if they were held; the others are as they were
pub record AreActed (old new : Pool) (pages : List Page) (act : ℕ) : Type 0 where
  pub most : most_of new ≡ most_of old
  pub reach : reach_of new ≡ reach_of old
  pub count : pool_count new ≡ pool_count old
  pub places : (block : ℕ) → frame_of new block ≡ frame_of old block
  pub held : (block : ℕ) (page : Page) → last_image pages block ≡ Some page
      → held_page new block ≡ Some page
  pub others : (block : ℕ) → last_image pages block ≡ None
      → held_page new block ≡ held_page old block
  pub acted : (block : ℕ) → is_some (last_image pages block) ≡ true → act_of new block ≡ act
  pub before : (block : ℕ) → last_image pages block ≡ None → act_of new block ≡ act_of old block
  pub order : changed_of new ≡ with_changed (changed_of old) pages

-- the next unused block after pages were written to blocks in use or the next unused one
abbrev pub used_after : ℕ → List Page → ℕ
used_after used [] = used
used_after used (page ∷ pages) = used_after (max used (suc page.block)) pages
