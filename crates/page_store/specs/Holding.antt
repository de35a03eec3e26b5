-- What the pool holds of the pages has one proof at most, so a store may keep it.
use Rattle.std.specs.Prelude.{ℕ, Bool, List}
use Rattle.std.proofs.Props.{props}
use Rattle.device.specs.Disk.{DiskMoment}
use Rattle.device.specs.Places.{Has}
use Rattle.buffer_pool.specs.declared.pool.Pool.{Pool}
use Rattle.index_model.specs.declared.format.Format.{Format}
use Rattle.page_codec.specs.declared.page.Page.{Page}
use Rattle.page_action.specs.Props.{IsStored-prop}
use Rattle.page_store.specs.Writing.{HoldsPages, HoldsWaiting}

Has-prop : (at : ℕ) (bytes file : List ℕ) → IsProp (Has at bytes file)
Has-prop at bytes file = hlevel props

pub HoldsPages-prop : (format : Format) (pages : List Page) (acts : ℕ) (pool : Pool) (honest : Bool)
    (m : DiskMoment) → IsProp (HoldsPages format pages acts pool honest m)
HoldsPages-prop format pages acts pool honest m = hlevel (props, IsStored-prop)

pub HoldsWaiting-prop : (images : List Page) (durable : ℕ) (pool : Pool)
    → IsProp (HoldsWaiting images durable pool)
HoldsWaiting-prop images durable pool = hlevel props
