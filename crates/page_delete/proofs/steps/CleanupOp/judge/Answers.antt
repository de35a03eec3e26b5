use Rattle.std.proofs.Common.{◌≡◌, Bool, [], ◌∷◌, Ok, refl, sym, subst}
use Rattle.page_delete.proofs.Imports.{CleanupSteps, blocks_judged, blocks_written, BlocksAreInUse, LeafDies, IsSpared, IsTried, CleanupAt, CleanupOp, Going}
use Rattle.page_delete.proofs.Stepping.{leaf_dies, leaf_spared, judge_in_use, try_refused}
use Rattle.page_delete.proofs.steps.CleanupOp.judge.Goals as goal

pub returns-in-Ok-true-clause-all : goal.returns-in-Ok-true-clause-all
returns-in-Ok-true-clause-all g c = leaf_dies g.S.PageStore c.args.self.now c.requires.at.high c.args.parent c.args.store.now c.try_leaf.new.store c.requires.at.is c.requires.alive
    (subst (λ (b : Bool).
    IsTried g.S.PageStore c.args.self.now.session (blocks_judged c.args.self.now.cursor c.args.parent)
    (BlocksAreInUse c.args.self.now.cursor c.args.parent) (LeafDies c.args.self.now.cursor)
    (IsSpared c.args.self.now.session c.args.self.now.cursor c.args.parent) c.args.store.now c.try_leaf.new.store (Ok b))
    c.in-Ok-true.field-0-test c.in-Ok-true.ensures.all)

pub returns-in-Err-clause-all : goal.returns-in-Err-clause-all
returns-in-Err-clause-all g c =
    try_refused g.S.PageStore (blocks_judged c.args.self.now.cursor c.args.parent) (BlocksAreInUse c.args.self.now.cursor c.args.parent)
    (LeafDies c.args.self.now.cursor) (IsSpared c.args.self.now.session c.args.self.now.cursor c.args.parent) c.args.self.now c.args.store.now c.try_leaf.new.store c.in-Err.fault
    c.in-Err.ensures.all c.requires.alive
    (subst (λ (a : CleanupAt).
    c.args.self.now.cursor ∷ c.args.parent ∷ [] ≡ blocks_written a c.args.self.now.cursor (g.S.PageStore.state c.args.store.now))
    (sym c.requires.at.is) refl) (judge_in_use g.S.PageStore c.args.self.now c.requires.at.high c.args.parent c.args.store.now c.try_leaf.new.store c.requires.at.is c.requires.alive)

pub returns-in-Ok-false-clause-all : goal.returns-in-Ok-false-clause-all
returns-in-Ok-false-clause-all g c =
    subst (λ (op : CleanupOp). CleanupSteps g.S.PageStore c.args.self.now op c.args.store.now c.try_leaf.new.store (Ok Going)) (sym c.pass.ensures)
    (leaf_spared g.S.PageStore c.args.self.now c.requires.at.high c.args.parent c.args.store.now c.try_leaf.new.store c.requires.at.is c.requires.alive
    (subst (λ (b : Bool).
    IsTried g.S.PageStore c.args.self.now.session (blocks_judged c.args.self.now.cursor c.args.parent)
    (BlocksAreInUse c.args.self.now.cursor c.args.parent) (LeafDies c.args.self.now.cursor)
    (IsSpared c.args.self.now.session c.args.self.now.cursor c.args.parent) c.args.store.now c.try_leaf.new.store (Ok b))
    c.in-Ok-false.field-0-test c.in-Ok-false.ensures.all))
