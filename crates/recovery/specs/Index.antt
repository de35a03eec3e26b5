-- What bytes are an index.
use Rattle.std.specs.Prelude.{ℕ, ◌<◌, List, length}
use Rattle.index_model.specs.Limits.{AreLimits}
use Rattle.index_model.specs.declared.format.Format.{Format}
use Rattle.page_codec.specs.declared.page.Page.{Page}
use Rattle.page_store.specs.Restart.{RestartsTo}

-- the bytes are an index of these limits, in their ranges, with these pages, one or more
pub record HasIndex (format : Format) (pages : List Page) (file : List ℕ) : Type 0 where
  pub allowed : AreLimits format
  pub some : 0 < length pages
  pub restarts : RestartsTo format file pages
