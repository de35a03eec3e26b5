use Rattle.std.proofs.Common.{refl}
use Rattle.page_store.proofs.Imports.{syncs_goes, held_of}
use Rattle.page_store.proofs.Acting.{counts_rise}
use Rattle.page_store.proofs.WriteFollows.{follows_synced}
use Rattle.page_store.proofs.logged_pages.LoggedPages.sync.Goals as goal

pub returns-clause-steps : goal.returns-clause-steps
returns-clause-steps g c =
    let held = c.args.self.now in
    follows_synced (held_of g.D.Device held) (g.D.Device.trace c.sync.new.self) (g.D.Device.is_honest c.sync.new.self) (g.D.Device.failures c.sync.new.self) c.requires.alive
    (syncs_goes _ c.sync.result (g.D.Device.trace held.device) (g.D.Device.trace c.sync.new.self) c.sync.ensures.trace refl) c.sync.ensures.honest
    (counts_rise c.sync.result _ _ c.sync.ensures.failures)
