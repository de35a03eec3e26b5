use Rattle.std.proofs.Common.{◌≡◌, Bool, Ok, refl, sym, subst}
use Rattle.page_delete.proofs.Stepping.{page_goes, page_stays, unlink_in_use, try_refused}
use Rattle.page_delete.proofs.Imports.{blocks_unlinked_at, blocks_written, IsInUse, PageIsDeleted, IsNotDead, IsTried, CleanupSteps, CleanupAt, CleanupOp, Going}
use Rattle.page_delete.proofs.steps.CleanupOp.unlink.Goals as goal

pub returns-in-Err-clause-all : goal.returns-in-Err-clause-all
returns-in-Err-clause-all g c =
    try_refused g.S.PageStore (blocks_unlinked_at c.args.self.now.cursor) (IsInUse c.args.self.now.cursor) (PageIsDeleted c.args.self.now.cursor)
    (IsNotDead c.args.self.now.cursor) c.args.self.now c.args.store.now c.try_unlink.new.store c.in-Err.fault
    c.in-Err.ensures.all c.requires.alive
    (subst (λ (a : CleanupAt).
    blocks_unlinked_at c.args.self.now.cursor (g.S.PageStore.state c.args.store.now) ≡ blocks_written a c.args.self.now.cursor (g.S.PageStore.state c.args.store.now)) (sym c.requires.at) refl)
    (unlink_in_use g.S.PageStore c.args.self.now c.args.store.now c.try_unlink.new.store c.requires.at c.requires.alive)

pub returns-in-Ok-true-clause-all : goal.returns-in-Ok-true-clause-all
returns-in-Ok-true-clause-all g c =
    subst (λ (op : CleanupOp). CleanupSteps g.S.PageStore c.args.self.now op c.args.store.now c.try_unlink.new.store (Ok Going)) (sym c.pass_deleted.ensures)
    (page_goes g.S.PageStore c.args.self.now c.args.store.now c.try_unlink.new.store c.requires.at c.requires.alive
    (subst (λ (b : Bool).
    IsTried g.S.PageStore c.args.self.now.session (blocks_unlinked_at c.args.self.now.cursor) (IsInUse c.args.self.now.cursor)
    (PageIsDeleted c.args.self.now.cursor) (IsNotDead c.args.self.now.cursor) c.args.store.now c.try_unlink.new.store (Ok b))
    c.in-Ok-true.field-0-test c.in-Ok-true.ensures.all))

pub returns-in-Ok-false-clause-all : goal.returns-in-Ok-false-clause-all
returns-in-Ok-false-clause-all g c =
    subst (λ (op : CleanupOp). CleanupSteps g.S.PageStore c.args.self.now op c.args.store.now c.try_unlink.new.store (Ok Going)) (sym c.pass.ensures)
    (page_stays g.S.PageStore c.args.self.now c.args.store.now c.try_unlink.new.store c.requires.at c.requires.alive
    (subst (λ (b : Bool).
    IsTried g.S.PageStore c.args.self.now.session (blocks_unlinked_at c.args.self.now.cursor) (IsInUse c.args.self.now.cursor)
    (PageIsDeleted c.args.self.now.cursor) (IsNotDead c.args.self.now.cursor) c.args.store.now c.try_unlink.new.store (Ok b))
    c.in-Ok-false.field-0-test c.in-Ok-false.ensures.all))
