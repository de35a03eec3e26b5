use Rattle.std.proofs.Common.{sym, subst}
use Rattle.page_store.proofs.Imports.{AtEachMoment, ChangesOnly, goes_now, same_only, place, Format, held_of}
use Rattle.page_store.proofs.Acting.{counts_rise}
use Rattle.page_store.proofs.Keeping.{holds_written}
use Rattle.page_store.proofs.WriteFollows.{follows_written}
use Rattle.page_store.proofs.logged_pages.LoggedPages.write_home.Given.{Over}
use Rattle.page_store.proofs.logged_pages.LoggedPages.write_home.Goals.{After-write_page}
use Rattle.page_store.proofs.logged_pages.LoggedPages.write_home.Goals as goal

-- only the block's place changes
only : (g : Over) (c : After-write_page g) → ChangesOnly (place c.args.self.now.format c.args.block) 4096 (g.D.Device.trace c.args.self.now.device).now (g.D.Device.trace c.write_page.new.device).now
only g c = goes_now _ (g.D.Device.trace c.args.self.now.device) (g.D.Device.trace c.write_page.new.device) c.write_page.ensures.moments (same_only _ 4096 _)

pub invariant_of-self-clause-holds : goal.invariant_of-self-clause-holds
invariant_of-self-clause-holds g c =
    let held = c.args.self.now in
    holds_written held.format _ held.acts held.pool _ (g.D.Device.trace held.device).now (g.D.Device.trace c.write_page.new.device).now held.holds _
    c.args.block c.write_page.ensures.honest held.stored c.requires.changed (only g (goal.at.invariant_of-self-clause-holds g c).After-write_page)

pub returns-in-Some-clause-steps : goal.returns-in-Some-clause-steps
returns-in-Some-clause-steps g c =
    let held = c.args.self.now in
    follows_written (held_of g.D.Device held) c.args.block (g.D.Device.trace c.write_page.new.device) (g.D.Device.is_honest c.write_page.new.device)
    (g.D.Device.failures c.write_page.new.device) c.requires.alive c.requires.changed c.requires.durable
    (subst (λ (l : Format).
    AtEachMoment (ChangesOnly (place l c.args.block) 4096 (g.D.Device.trace held.device).now) (g.D.Device.trace held.device)
    (g.D.Device.trace c.write_page.new.device)) (sym held.log_format) c.write_page.ensures.moments) c.write_page.ensures.honest
    (counts_rise c.write_page.result _ _ c.write_page.ensures.failures)

pub returns-in-Some-clause-only : goal.returns-in-Some-clause-only
returns-in-Some-clause-only g c = only g (goal.at.returns-in-Some-clause-only g c).After-write_page
