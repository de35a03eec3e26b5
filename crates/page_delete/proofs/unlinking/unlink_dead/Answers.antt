use Rattle.std.proofs.Common.{◌≡◌, Bool, true, subst}
use Rattle.page_delete.proofs.Imports.{IsLater, blocks_unlinked_at, IsTakenToChange, IsInUse, PageIsDeleted, IsNotDead}
use Rattle.page_delete.proofs.Trying.{LeavesCauses, read_on, tried_later, tried_refused, taken_later}
use Rattle.page_delete.proofs.Deleting.{dead_links}
use Rattle.page_delete.proofs.unlinking.unlink_dead.Given.{Over}
use Rattle.page_delete.proofs.unlinking.unlink_dead.Goals.{After-take_left}
use Rattle.page_delete.proofs.unlinking.unlink_dead.Goals as goal

reads : (g : Over) (c : After-take_left g)
    → ((g.S.PageStore.backing c.take_left.new.store).stopped ≡ true → (g.S.PageStore.backing c.args.store.now).stopped ≡ true) → LeavesCauses g.S.PageStore c.args.store.now c.take_left.new.store
reads g c alive = read_on g.S.PageStore c.args.store.now c.take_left.new.store c.take_left.ensures.steps c.take_left.ensures.state alive c.take_left.ensures.promised
    (g.met.S.PageStore.laws.follows_later _ _ (c.take_left.ensures.steps _ (g.met.S.PageStore.laws.follows_same _)))

was_honest : (g : Over) (c : After-take_left g) → (g.S.PageStore.backing c.take_left.new.store).honest ≡ true → (g.S.PageStore.backing c.args.store.now).honest ≡ true
was_honest g c h =
    let later : IsLater (g.S.PageStore.backing c.args.store.now) (g.S.PageStore.backing c.take_left.new.store) =
    g.met.S.PageStore.laws.follows_later _ _ (c.take_left.ensures.steps _ (g.met.S.PageStore.laws.follows_same _)) in
    later.honest h

pub unlink_right-requires-clause-page : goal.unlink_right-requires-clause-page
unlink_right-requires-clause-page g c =
    taken_later _ _ _ _ c.args.session c.args.page.block c.args.page c.take_left.ensures.state (was_honest g (goal.at.unlink_right-requires-clause-page g c).After-take_left) c.requires.page

pub returns-in-Ok-clause-all : goal.returns-in-Ok-clause-all
returns-in-Ok-clause-all g c =
    tried_later g.S.PageStore c.args.session (blocks_unlinked_at c.args.page.block) (IsInUse c.args.page.block) (PageIsDeleted c.args.page.block)
    (IsNotDead c.args.page.block) c.args.store.now c.take_left.new.store c.unlink_right.new.store c.unlink_right.result
    (reads g (goal.at.returns-in-Ok-clause-all g c).After-take_left c.in-Ok.ensures.alive) c.unlink_right.ensures.all

pub returns-in-Err-clause-all : goal.returns-in-Err-clause-all
returns-in-Err-clause-all g c =
    let st = g.S.PageStore.state c.args.store.now in
    tried_refused g.S.PageStore c.args.session (blocks_unlinked_at c.args.page.block) (IsInUse c.args.page.block) (PageIsDeleted c.args.page.block)
    (IsNotDead c.args.page.block) c.args.store.now c.take_left.new.store c.in-Err.fault c.take_left.ensures.steps c.take_left.ensures.state
    (λ h order room there.
    let page = subst (λ (k : Bool). IsTakenToChange st k c.args.session c.args.page.block c.args.page) (was_honest g (goal.at.returns-in-Err-clause-all g c).After-take_left h) c.requires.page in
    c.in-Err.ensures.cause h room ((dead_links st c.args.session c.args.page order page c.requires.dead).left) (blocks_unlinked_at c.args.page.block st))
