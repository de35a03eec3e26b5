use Rattle.std.proofs.Common.{◌<◌, ℕ, sym, subst, ◌∙◌}
use Rattle.page_store.specs.Histories.{pages_now}
use Rattle.page_store.proofs.Reading.{held_is}
use Rattle.page_store.proofs.logged_pages.LoggedPages.page.Goals as goal

pub returns-clause-stored : goal.returns-clause-stored
returns-clause-stored g c =
    let held = c.args.self.now in
    held.holds.stored c.args.block c.page.result.now (subst (λ (n : ℕ). c.args.block < n) held.used_is c.requires.used) (sym c.in-Some.ensures.held ∙ c.page.ensures)

pub returns-clause-page : goal.returns-clause-page
returns-clause-page g c honest =
    let held = c.args.self.now in
    held_is held.format (pages_now held.history.value) held.acts held.pool (g.D.Device.is_honest held.device) (g.D.Device.trace held.device).now held.holds held.stored
    c.args.block c.page.result.now (subst (λ (n : ℕ). c.args.block < n) held.used_is c.requires.used) (sym c.in-Some.ensures.held ∙ c.page.ensures) honest
