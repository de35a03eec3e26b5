use Rattle.std.proofs.Common.{◌≡◌, Bool, true, subst}
use Rattle.page_delete.proofs.Imports.{IsLater, blocks_unlinked_at, IsTakenToChange, IsInUse, PageIsDeleted, IsNotDead}
use Rattle.page_delete.proofs.Trying.{LeavesCauses, read_on, tried_later, tried_refused, taken_later, left_later}
use Rattle.page_delete.proofs.Deleting.{dead_links}
use Rattle.page_delete.proofs.unlinking.unlink_right.Given.{Over}
use Rattle.page_delete.proofs.unlinking.unlink_right.Goals.{After-take_right}
use Rattle.page_delete.proofs.unlinking.unlink_right.Goals as goal

-- after the reading
reads : (g : Over) (c : After-take_right g)
    → ((g.S.PageStore.backing c.take_right.new.store).stopped ≡ true → (g.S.PageStore.backing c.args.store.now).stopped ≡ true) → LeavesCauses g.S.PageStore c.args.store.now c.take_right.new.store
reads g c alive = read_on g.S.PageStore c.args.store.now c.take_right.new.store c.take_right.ensures.steps c.take_right.ensures.state alive c.take_right.ensures.promised
    (g.met.S.PageStore.laws.follows_later _ _ (c.take_right.ensures.steps _ (g.met.S.PageStore.laws.follows_same _)))

was_honest : (g : Over) (c : After-take_right g) → (g.S.PageStore.backing c.take_right.new.store).honest ≡ true → (g.S.PageStore.backing c.args.store.now).honest ≡ true
was_honest g c h =
    let later : IsLater (g.S.PageStore.backing c.args.store.now) (g.S.PageStore.backing c.take_right.new.store) =
    g.met.S.PageStore.laws.follows_later _ _ (c.take_right.ensures.steps _ (g.met.S.PageStore.laws.follows_same _)) in
    later.honest h

pub unlink_between-requires-clause-page : goal.unlink_between-requires-clause-page
unlink_between-requires-clause-page g c =
    taken_later _ _ _ _ c.args.session c.args.page.block c.args.page c.take_right.ensures.state (was_honest g (goal.at.unlink_between-requires-clause-page g c).After-take_right) c.requires.page

pub unlink_between-requires-clause-left : goal.unlink_between-requires-clause-left
unlink_between-requires-clause-left g c =
    left_later _ _ _ _ c.args.session c.args.page c.args.page.left c.args.left c.take_right.ensures.state
    (was_honest g (goal.at.unlink_between-requires-clause-left g c).After-take_right) c.requires.left

pub returns-in-Ok-clause-all : goal.returns-in-Ok-clause-all
returns-in-Ok-clause-all g c =
    tried_later g.S.PageStore c.args.session (blocks_unlinked_at c.args.page.block) (IsInUse c.args.page.block) (PageIsDeleted c.args.page.block)
    (IsNotDead c.args.page.block) c.args.store.now c.take_right.new.store c.unlink_between.new.store c.unlink_between.result
    (reads g (goal.at.returns-in-Ok-clause-all g c).After-take_right c.in-Ok.ensures.alive) c.unlink_between.ensures.all

pub returns-in-Err-clause-all : goal.returns-in-Err-clause-all
returns-in-Err-clause-all g c =
    let st = g.S.PageStore.state c.args.store.now in
    tried_refused g.S.PageStore c.args.session (blocks_unlinked_at c.args.page.block) (IsInUse c.args.page.block) (PageIsDeleted c.args.page.block)
    (IsNotDead c.args.page.block) c.args.store.now c.take_right.new.store c.in-Err.fault c.take_right.ensures.steps c.take_right.ensures.state
    (λ h order room there.
    let page = subst (λ (k : Bool). IsTakenToChange st k c.args.session c.args.page.block c.args.page) (was_honest g (goal.at.returns-in-Err-clause-all g c).After-take_right h) c.requires.page in
    c.in-Err.ensures.cause h room ((dead_links st c.args.session c.args.page order page c.requires.dead).right c.args.right c.requires.right_is) (blocks_unlinked_at c.args.page.block st))
