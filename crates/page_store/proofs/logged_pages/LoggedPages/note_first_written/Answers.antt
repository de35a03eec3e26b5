use Rattle.page_store.proofs.Imports.{pages_now, held_of}
use Rattle.std.proofs.Common.{arith}
use Rattle.page_store.proofs.Holding.{waits_durable}
use Rattle.page_store.proofs.Keeping.{holds_noted, first_noted, all_clean}
use Rattle.page_store.proofs.WriteFollows.{follows_noted}
use Rattle.page_store.proofs.logged_pages.LoggedPages.note_first_written.Goals as goal

pub invariant_of-self-clause-holds : goal.invariant_of-self-clause-holds
invariant_of-self-clause-holds g c =
    let held = c.args.self.now in
    let pages = pages_now held.history.value in
    let m = (g.D.Device.trace held.device).now in
    let honest = g.D.Device.is_honest held.device in
    holds_noted held.format pages held.acts held.pool c.note_first_written.new.self honest m held.holds c.note_first_written.ensures.pages
    (first_noted held.format pages held.acts held.pool honest m held.holds c.law.ensures c.note_first_written.new.self c.args.count c.requires.home c.note_first_written.ensures)

pub invariant_of-self-clause-waits : goal.invariant_of-self-clause-waits
invariant_of-self-clause-waits g c =
    let held = c.args.self.now in
    waits_durable _ held.durable held.pool c.note_first_written.new.self held.waits (λ block. omega (arith, held.holds.few block, c.requires.durable))

pub returns-clause-steps : goal.returns-clause-steps
returns-clause-steps g c =
    let held = c.args.self.now in
    follows_noted (held_of g.D.Device held) _ _ held.format held.log_format
    (first_noted held.format (pages_now held.history.value) held.acts held.pool (g.D.Device.is_honest held.device) (g.D.Device.trace held.device).now
    held.holds c.law.ensures c.note_first_written.new.self c.args.count c.requires.home c.note_first_written.ensures)

pub returns-clause-clean : goal.returns-clause-clean
returns-clause-clean g c all =
    let held = c.args.self.now in
    all_clean held.format (pages_now held.history.value) held.acts held.pool (g.D.Device.is_honest held.device) (g.D.Device.trace held.device).now
    held.holds c.law.ensures c.note_first_written.new.self c.args.count c.note_first_written.ensures all
