use Rattle.std.proofs.Common.{◌≡◌, ℕ, true, subst}
use Rattle.page_delete.proofs.Imports.{IsLater, blocks_judged, CandidateAnswers, BlocksAreInUse, LeafDies, IsSpared, IsTried}
use Rattle.page_delete.proofs.Trying.{LeavesCauses, read_on, tried_later, tried_refused}
use Rattle.page_delete.proofs.steps.CleanupOp.try_leaf.Given.{Over}
use Rattle.page_delete.proofs.steps.CleanupOp.try_leaf.Goals.{After-candidate}
use Rattle.page_delete.proofs.steps.CleanupOp.try_leaf.Goals as goal

reads : (g : Over) (c : After-candidate g)
    → ((g.S.PageStore.backing c.candidate.new.store).stopped ≡ true → (g.S.PageStore.backing c.args.store.now).stopped ≡ true)
    → (g.S.PageStore.backing c.candidate.new.store).promised ≡ (g.S.PageStore.backing c.args.store.now).promised → LeavesCauses g.S.PageStore c.args.store.now c.candidate.new.store
reads g c alive promised = read_on g.S.PageStore c.args.store.now c.candidate.new.store c.candidate.ensures.steps c.candidate.ensures.state alive promised
    (g.met.S.PageStore.laws.follows_later _ _ (c.candidate.ensures.steps _ (g.met.S.PageStore.laws.follows_same _)))

was_honest : (g : Over) (c : After-candidate g) → (g.S.PageStore.backing c.candidate.new.store).honest ≡ true → (g.S.PageStore.backing c.args.store.now).honest ≡ true
was_honest g c h =
    let later : IsLater (g.S.PageStore.backing c.args.store.now) (g.S.PageStore.backing c.candidate.new.store) =
    g.met.S.PageStore.laws.follows_later _ _ (c.candidate.ensures.steps _ (g.met.S.PageStore.laws.follows_same _)) in
    later.honest h

pub returns-in-Ok-Some-clause-all : goal.returns-in-Ok-Some-clause-all
returns-in-Ok-Some-clause-all g c =
    let before = c.args.self.now in
    let answer = subst (CandidateAnswers (g.S.PageStore.state c.args.store.now) (g.S.PageStore.backing c.candidate.new.store).honest before.session
    before.cursor) c.in-Ok-Some.field-0-is c.in-Ok-Some.ensures.answer in
    let block_is : c.in-Ok-Some.leaf.block ≡ before.cursor = answer.stored.block_is in
    tried_later g.S.PageStore before.session (blocks_judged before.cursor c.args.parent) (BlocksAreInUse before.cursor c.args.parent)
    (LeafDies before.cursor) (IsSpared before.session before.cursor c.args.parent) c.args.store.now c.candidate.new.store c.try_beside.new.store c.try_beside.result
    (reads g (goal.at.returns-in-Ok-Some-clause-all g c).After-candidate c.in-Ok-Some.ensures.alive c.candidate.ensures.promised)
    (subst (λ (b : ℕ). IsTried g.S.PageStore before.session (blocks_judged b c.args.parent) (BlocksAreInUse b c.args.parent) (LeafDies b)
    (IsSpared before.session b c.args.parent) c.candidate.new.store c.try_beside.new.store c.try_beside.result) block_is c.try_beside.ensures.all)

pub returns-in-Err-clause-all : goal.returns-in-Err-clause-all
returns-in-Err-clause-all g c =
    let before = c.args.self.now in
    tried_refused g.S.PageStore before.session (blocks_judged before.cursor c.args.parent) (BlocksAreInUse before.cursor c.args.parent)
    (LeafDies before.cursor) (IsSpared before.session before.cursor c.args.parent) c.args.store.now c.candidate.new.store
    c.in-Err.fault c.candidate.ensures.steps c.candidate.ensures.state (λ h order room there. c.in-Err.ensures.cause h there.0 before.cursor c.args.parent)
