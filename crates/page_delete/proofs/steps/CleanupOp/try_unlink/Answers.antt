use Rattle.std.proofs.Common.{◌≡◌, ℕ, true, false, subst}
use Rattle.page_delete.proofs.Imports.{IsLater, blocks_unlinked_at, frames_for, frames_some, IsInUse, PageIsDeleted, IsNotDead, IsTried}
use Rattle.page_delete.proofs.Trying.{LeavesCauses, read_on, tried_later, tried_refused}
use Rattle.page_delete.proofs.steps.CleanupOp.try_unlink.Given.{Over}
use Rattle.page_delete.proofs.steps.CleanupOp.try_unlink.Goals.{After-read_exclusive}
use Rattle.page_delete.proofs.steps.CleanupOp.try_unlink.Goals as goal

reads : (g : Over) (c : After-read_exclusive g)
    → ((g.S.PageStore.backing c.read_exclusive.new.store).stopped ≡ true → (g.S.PageStore.backing c.args.store.now).stopped ≡ true)
    → (g.S.PageStore.backing c.read_exclusive.new.store).promised ≡ (g.S.PageStore.backing c.args.store.now).promised → LeavesCauses g.S.PageStore c.args.store.now c.read_exclusive.new.store
reads g c alive promised = read_on g.S.PageStore c.args.store.now c.read_exclusive.new.store c.read_exclusive.ensures.steps c.read_exclusive.ensures.state alive promised
    (g.met.S.PageStore.laws.follows_later _ _ (c.read_exclusive.ensures.steps _ (g.met.S.PageStore.laws.follows_same _)))

was_honest : (g : Over) (c : After-read_exclusive g) → (g.S.PageStore.backing c.read_exclusive.new.store).honest ≡ true → (g.S.PageStore.backing c.args.store.now).honest ≡ true
was_honest g c h =
    let later : IsLater (g.S.PageStore.backing c.args.store.now) (g.S.PageStore.backing c.read_exclusive.new.store) =
    g.met.S.PageStore.laws.follows_later _ _ (c.read_exclusive.ensures.steps _ (g.met.S.PageStore.laws.follows_same _)) in
    later.honest h

pub returns-in-Err-clause-all : goal.returns-in-Err-clause-all
returns-in-Err-clause-all g c =
    let before = c.args.self.now in
    tried_refused g.S.PageStore before.session (blocks_unlinked_at before.cursor) (IsInUse before.cursor) (PageIsDeleted before.cursor)
    (IsNotDead before.cursor) c.args.store.now c.read_exclusive.new.store c.in-Err.fault
    c.read_exclusive.ensures.steps c.read_exclusive.ensures.state
    (λ h order room there.
    c.in-Err.ensures.cause h room there (blocks_unlinked_at before.cursor (g.S.PageStore.state c.args.store.now))
    (frames_for (blocks_unlinked_at before.cursor (g.S.PageStore.state c.args.store.now))) false false
    (frames_some (blocks_unlinked_at before.cursor (g.S.PageStore.state c.args.store.now))))

pub returns-in-Some-clause-all : goal.returns-in-Some-clause-all
returns-in-Some-clause-all g c =
    let before = c.args.self.now in
    let block_is : c.in-Ok.page.block ≡ before.cursor = c.in-Ok.ensures.stored.block_is in
    tried_later g.S.PageStore before.session (blocks_unlinked_at before.cursor) (IsInUse before.cursor) (PageIsDeleted before.cursor)
    (IsNotDead before.cursor) c.args.store.now c.read_exclusive.new.store c.unlink_dead.new.store c.unlink_dead.result
    (reads g (goal.at.returns-in-Some-clause-all g c).After-read_exclusive c.in-Ok.ensures.alive c.read_exclusive.ensures.room.promised)
    (subst (λ (b : ℕ). IsTried g.S.PageStore before.session (blocks_unlinked_at b) (IsInUse b) (PageIsDeleted b) (IsNotDead b) c.read_exclusive.new.store
    c.unlink_dead.new.store c.unlink_dead.result) block_is c.unlink_dead.ensures.all)
