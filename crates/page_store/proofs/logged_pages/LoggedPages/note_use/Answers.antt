use Rattle.std.proofs.Common.{inl, refl}
use Rattle.page_store.proofs.Imports.{pages_now, held_of}
use Rattle.page_store.proofs.Holding.{waits_noted}
use Rattle.page_store.proofs.Keeping.{holds_same}
use Rattle.page_store.proofs.Ordering.{part_is}
use Rattle.page_store.proofs.Quieting.{quiet_noted}
use Rattle.page_store.proofs.WriteFollows.{follows_noted}
use Rattle.page_store.proofs.logged_pages.LoggedPages.note_use.Goals as goal

pub invariant_of-self-clause-holds : goal.invariant_of-self-clause-holds
invariant_of-self-clause-holds g c =
    let held = c.args.self.now in
    holds_same held.format (pages_now held.history.value) held.acts held.pool c.note_use.new.self _ _ held.holds c.note_use.ensures.pages c.note_use.ensures.changes.acts

pub invariant_of-self-clause-waits : goal.invariant_of-self-clause-waits
invariant_of-self-clause-waits g c =
    let held = c.args.self.now in
    waits_noted _ held.durable held.pool c.note_use.new.self held.waits c.note_use.ensures.pages (λ block more. c.note_use.ensures.changes.acts block)

pub returns-clause-quiet : goal.returns-clause-quiet
returns-clause-quiet g c =
    quiet_noted g.D.Device c.args.self.now _ refl refl refl refl refl refl refl (part_is _ _ c.note_use.ensures.changes.order)
    (follows_noted (held_of g.D.Device c.args.self.now) _ _ c.args.self.now.format c.args.self.now.log_format (λ block. inl (c.note_use.ensures.changes.acts block)))
