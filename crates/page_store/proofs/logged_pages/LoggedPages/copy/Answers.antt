use Rattle.std.proofs.Common.{refl}
use Rattle.buffer_pool.specs.Pools.{changed_of}
use Rattle.page_store.proofs.Imports.{follows_same, held_of}
use Rattle.page_store.proofs.Ordering.{part_same}
use Rattle.page_store.proofs.Quieting.{quiet_noted}
use Rattle.page_store.proofs.logged_pages.LoggedPages.copy.Goals as goal

pub returns-clause-quiet : goal.returns-clause-quiet
returns-clause-quiet g c =
    let had = c.args.self.now in
    quiet_noted g.D.Device had _ refl refl refl refl refl refl refl (part_same (changed_of had.pool)) (follows_same (held_of g.D.Device had))
