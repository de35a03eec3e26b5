use Rattle.std.proofs.Common.{◌≡◌, ◌∙◌, get_or, ap, arith, sym, subst}
use Rattle.buffer_pool.specs.Pools.{act_of, changed_of}
use Rattle.std.proofs.Common.{refl}
use Rattle.page_store.proofs.Imports.{IsPartOf, get_or_from_slice_get, pages_now, held_of}
use Rattle.page_store.proofs.Holding.{waits_noted}
use Rattle.page_store.proofs.Keeping.{holds_noted, written_noted}
use Rattle.page_store.proofs.Ordering.{part_remove}
use Rattle.page_store.proofs.Quieting.{quiet_noted}
use Rattle.page_store.proofs.WriteFollows.{follows_noted}
use Rattle.page_store.proofs.logged_pages.LoggedPages.note_written.Goals as goal

pub invariant_of-self-clause-holds : goal.invariant_of-self-clause-holds
invariant_of-self-clause-holds g c =
    let held = c.args.self.now in
    let pages = pages_now held.history.value in
    let m = (g.D.Device.trace held.device).now in
    let honest = g.D.Device.is_honest held.device in
    holds_noted held.format pages held.acts held.pool c.note_written.new.self honest m held.holds c.note_written.ensures.pages
    (written_noted held.format pages held.acts held.pool honest m held.holds c.law.ensures c.note_written.new.self c.args.place c.args.block c.requires.at c.requires.home c.note_written.ensures)

pub invariant_of-self-clause-waits : goal.invariant_of-self-clause-waits
invariant_of-self-clause-waits g c =
    let held = c.args.self.now in
    let here : get_or (changed_of held.pool) c.args.place 0 ≡ c.args.block = get_or_from_slice_get (changed_of held.pool) c.args.place c.args.block 0 c.requires.at in
    waits_noted _ held.durable held.pool c.note_written.new.self held.waits c.note_written.ensures.pages
    (λ block more. c.note_written.ensures.others block (λ e. absurd (omega (arith, more, c.requires.durable, ap (act_of held.pool) (e ∙ here)))))

pub returns-clause-quiet : goal.returns-clause-quiet
returns-clause-quiet g c =
    let held = c.args.self.now in
    let pages = pages_now held.history.value in
    let m = (g.D.Device.trace held.device).now in
    let honest = g.D.Device.is_honest held.device in
    let noted = written_noted held.format pages held.acts held.pool honest m held.holds c.law.ensures c.note_written.new.self c.args.place
    c.args.block c.requires.at c.requires.home c.note_written.ensures in
    quiet_noted g.D.Device held _ refl refl refl refl refl refl refl
    (subst (λ xs. IsPartOf xs (changed_of held.pool)) (sym c.note_written.ensures.order) (part_remove (changed_of held.pool) c.args.place))
    (follows_noted (held_of g.D.Device held) _ _ held.format held.log_format noted)
