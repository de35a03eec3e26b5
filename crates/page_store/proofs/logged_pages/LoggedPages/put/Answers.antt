use Rattle.std.proofs.Common.{inl, refl, subst}
use Rattle.page_store.proofs.Imports.{IsPut, Page, pages_now, held_of}
use Rattle.page_store.proofs.Holding.{waits_same}
use Rattle.page_store.proofs.Keeping.{holds_put}
use Rattle.page_store.proofs.Pooling.{clean_of_absent}
use Rattle.page_store.proofs.Ordering.{part_is}
use Rattle.page_store.proofs.Quieting.{quiet_noted}
use Rattle.page_store.proofs.WriteFollows.{follows_noted}
use Rattle.page_store.proofs.logged_pages.LoggedPages.put.Goals as goal

pub invariant_of-self-clause-holds : goal.invariant_of-self-clause-holds
invariant_of-self-clause-holds g c =
    let held = c.args.self.now in
    holds_put held.format (pages_now held.history.value) held.acts held.pool c.put.new.self _ _ _ c.args.at c.args.self.now.decoded.value held.holds
    (subst (λ (page : Page). IsPut held.pool c.put.new.self c.args.at page) c.deref.ensures c.put.ensures) (λ h. h) (λ used. c.requires.stored) c.requires.right
    (clean_of_absent held.pool c.law.ensures c.args.self.now.decoded.value.block c.requires.absent)

pub invariant_of-self-clause-waits : goal.invariant_of-self-clause-waits
invariant_of-self-clause-waits g c =
    let held = c.args.self.now in
    waits_same _ held.durable held.pool c.put.new.self held.waits (λ block more. c.put.ensures.changes.acts block) c.put.ensures.kept

pub returns-clause-quiet : goal.returns-clause-quiet
returns-clause-quiet g c =
    let held = c.args.self.now in
    quiet_noted g.D.Device held _ refl refl refl refl refl refl refl (part_is _ _ c.put.ensures.changes.order)
    (follows_noted (held_of g.D.Device held) _ _ held.format held.log_format (λ block. inl (c.put.ensures.changes.acts block)))
