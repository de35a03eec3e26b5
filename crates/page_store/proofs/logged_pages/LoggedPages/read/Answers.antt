use Rattle.buffer_pool.specs.Pools.{changed_of}
use Rattle.std.proofs.Common.{◌≡◌, ◌<◌, ℕ, true, Some, slice_get, refl, subst}
use Rattle.page_store.proofs.Imports.{Page, pages_now, held_of, GivesPage}
use Rattle.page_store.proofs.Pooling.{clean_of_absent}
use Rattle.page_store.proofs.Ordering.{part_same}
use Rattle.page_store.proofs.Quieting.{quiet_noted}
use Rattle.page_store.proofs.Reading.{page_in_use, reading_rises, read_gives, given_right, given_fails}
use Rattle.page_store.proofs.WriteFollows.{follows_read}
use Rattle.page_store.proofs.logged_pages.LoggedPages.read.Given.{Over}
use Rattle.page_store.proofs.logged_pages.LoggedPages.read.Goals.{After-read_page}
use Rattle.page_store.proofs.logged_pages.LoggedPages.read.Goals as goal

-- the page that is in use at the block
the_page : (g : Over) (c : After-read_page g) → (page : Page) × (slice_get (pages_now c.args.self.now.history.value) c.args.block ≡ Some page)
the_page g c = page_in_use (pages_now c.args.self.now.history.value) c.args.block (subst (λ (n : ℕ). c.args.block < n) c.args.self.now.used_is c.requires.used)

-- a device that keeps its model gives it, or fails
gives : (g : Over) (c : After-read_page g) → g.D.Device.is_honest c.read_page.new.device ≡ true → GivesPage (the_page g c).0 c.read_page.new.page c.read_page.result
gives g c honest =
    let held = c.args.self.now in
    read_gives held.format (pages_now held.history.value) held.acts held.pool (g.D.Device.is_honest held.device) (g.D.Device.trace held.device).now held.holds held.stored
    c.args.block (the_page g c).0 c.read_page.new.page c.read_page.result (the_page g c).1 (clean_of_absent held.pool c.law.ensures c.args.block c.requires.absent) (c.read_page.ensures.honest honest)
    (λ there stored has. c.read_page.ensures.read honest there stored has)

pub returns-clause-quiet : goal.returns-clause-quiet
returns-clause-quiet g c =
    let held = c.args.self.now in
    quiet_noted g.D.Device held _ refl refl refl refl refl refl refl (part_same (changed_of held.pool))
    (follows_read (held_of g.D.Device held) _ _ _ c.read_page.ensures.trace c.read_page.ensures.honest (reading_rises c.args.block c.read_page.result _ _ c.read_page.ensures.cause))

pub returns-clause-right : goal.returns-clause-right
returns-clause-right g c =
    let here = (goal.at.returns-clause-right g c).After-read_page in
    given_right (pages_now c.args.self.now.history.value) c.args.block (the_page g here).0 c.read_page.new.page
    (g.D.Device.is_honest c.read_page.new.device) c.read_page.result (the_page g here).1 (gives g here)

pub returns-clause-honest : goal.returns-clause-honest
returns-clause-honest g c honest =
    let here = (goal.at.returns-clause-honest g c).After-read_page in
    given_fails (the_page g here).0 c.read_page.new.page c.read_page.result (gives g here honest)
