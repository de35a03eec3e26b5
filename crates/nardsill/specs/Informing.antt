-- What C is told of an open index.
use Rattle.std.specs.Prelude.{◌≡◌, length, Option, None, IfSome}
use Rattle.access_method.specs.declared.index.Index.{Index}
use Rattle.index_model.specs.Faults.{number_of}
use Rattle.index_model.specs.declared.fault.Fault.TheVariants.{NoSession}
use Rattle.page_action.specs.declared.page_store.PageStore.{Ghosts}
use Rattle.vacuum.specs.Counts.{free_count}
use Rattle.nardsill.specs.declared.facts.Facts.{Facts}

-- the sizes that the index was made with, its pages in use and those that may be used again, and whether its
-- log has failed
pub record TellsIndex {S : Type 0} (g : Ghosts S) (facts : Facts) (index : Index S) : Type 0 where
  pub status : facts.status ≡ 0
  pub items : facts.items ≡ (g.state index.store).format.items
  pub pages : facts.pages ≡ (g.state index.store).format.pages
  pub log_bytes : facts.log_bytes ≡ (g.state index.store).format.log_bytes
  pub unique : facts.is_unique ≡ (g.state index.store).format.unique
  pub used : facts.pages_used ≡ length (g.state index.store).pages
  pub free : facts.pages_free ≡ free_count (g.state index.store) 63 (length (g.state index.store).pages)
  pub stopped : facts.is_stopped ≡ (g.backing index.store).stopped

-- ... of a handle's index; a handle without one answers 12
pub record IsInformed {S : Type 0} (g : Ghosts S) (facts : Facts) (index : Option (Index S)) : Type 0 where
  pub empty : index ≡ None → facts.status ≡ number_of NoSession
  pub tells : IfSome index (TellsIndex g facts)
