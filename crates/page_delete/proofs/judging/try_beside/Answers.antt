use Rattle.std.proofs.Common.{◌≡◌, Bool, true, subst}
use Rattle.page_delete.proofs.Imports.{Page, IsLater, same_page, blocks_judged, IsCandidate, SiblingsAllow, SiblingsAnswer, BlocksAreInUse, LeafDies, IsSpared}
use Rattle.page_delete.proofs.Dying.{leaf_links}
use Rattle.page_delete.proofs.Trying.{LeavesCauses, read_on, tried_later, tried_refused, tried_nothing, candidate_later}
use Rattle.page_delete.proofs.judging.try_beside.Given.{Over}
use Rattle.page_delete.proofs.judging.try_beside.Goals.{After-siblings_allow}
use Rattle.page_delete.proofs.judging.try_beside.Goals as goal

reads : (g : Over) (c : After-siblings_allow g)
    → ((g.S.PageStore.backing c.siblings_allow.new.store).stopped ≡ true → (g.S.PageStore.backing c.args.store.now).stopped ≡ true)
    → (g.S.PageStore.backing c.siblings_allow.new.store).promised ≡ (g.S.PageStore.backing c.args.store.now).promised → LeavesCauses g.S.PageStore c.args.store.now c.siblings_allow.new.store
reads g c alive promised = read_on g.S.PageStore c.args.store.now c.siblings_allow.new.store c.siblings_allow.ensures.steps c.siblings_allow.ensures.state alive promised
    (g.met.S.PageStore.laws.follows_later _ _ (c.siblings_allow.ensures.steps _ (g.met.S.PageStore.laws.follows_same _)))

was_honest : (g : Over) (c : After-siblings_allow g) → (g.S.PageStore.backing c.siblings_allow.new.store).honest ≡ true → (g.S.PageStore.backing c.args.store.now).honest ≡ true
was_honest g c h =
    let later : IsLater (g.S.PageStore.backing c.args.store.now) (g.S.PageStore.backing c.siblings_allow.new.store) =
    g.met.S.PageStore.laws.follows_later _ _ (c.siblings_allow.ensures.steps _ (g.met.S.PageStore.laws.follows_same _)) in
    later.honest h

pub try_parent-requires-clause-leaf : goal.try_parent-requires-clause-leaf
try_parent-requires-clause-leaf g c =
    candidate_later _ _ _ _ c.args.session c.args.leaf.block c.args.leaf c.siblings_allow.ensures.state
    (was_honest g (goal.at.try_parent-requires-clause-leaf g c).After-siblings_allow) c.requires.leaf

pub returns-in-Ok-Some-clause-all : goal.returns-in-Ok-Some-clause-all
returns-in-Ok-Some-clause-all g c =
    tried_later g.S.PageStore c.args.session (blocks_judged c.args.leaf.block c.args.parent) (BlocksAreInUse c.args.leaf.block c.args.parent)
    (LeafDies c.args.leaf.block) (IsSpared c.args.session c.args.leaf.block c.args.parent) c.args.store.now c.siblings_allow.new.store c.try_parent.new.store c.try_parent.result
    (reads g (goal.at.returns-in-Ok-Some-clause-all g c).After-siblings_allow c.in-Ok-Some.ensures.alive c.siblings_allow.ensures.promised) c.try_parent.ensures.all

pub returns-in-Ok-None-clause-all : goal.returns-in-Ok-None-clause-all
returns-in-Ok-None-clause-all g c =
    let at = (goal.at.returns-in-Ok-None-clause-all g c).After-siblings_allow in
    let old = g.S.PageStore.state c.args.store.now in
    tried_nothing g.S.PageStore c.args.session (blocks_judged c.args.leaf.block c.args.parent) (BlocksAreInUse c.args.leaf.block c.args.parent)
    (LeafDies c.args.leaf.block) (IsSpared c.args.session c.args.leaf.block c.args.parent) c.args.store.now c.siblings_allow.new.store
    c.siblings_allow.ensures.steps c.siblings_allow.ensures.state
    (λ h room die.
    let leaf = same_page old.pages c.args.leaf.block die.leaf c.args.leaf die.found (c.requires.leaf.found (was_honest g at h)) in
    subst (SiblingsAnswer old.pages c.args.leaf) c.in-Ok-None.field-0-is (c.in-Ok-None.ensures.answer h) die.right (subst (λ (p : Page). SiblingsAllow old.pages p die.right) leaf (record {
      left_whole = die.left_whole;
      right_is = die.right_is;
      page = die.right_page;
      found = die.right_found;
      alive = die.right_alive;
    })))

pub returns-in-Err-clause-all : goal.returns-in-Err-clause-all
returns-in-Err-clause-all g c =
    let st = g.S.PageStore.state c.args.store.now in
    tried_refused g.S.PageStore c.args.session (blocks_judged c.args.leaf.block c.args.parent) (BlocksAreInUse c.args.leaf.block c.args.parent)
    (LeafDies c.args.leaf.block) (IsSpared c.args.session c.args.leaf.block c.args.parent) c.args.store.now c.siblings_allow.new.store c.in-Err.fault
    c.siblings_allow.ensures.steps c.siblings_allow.ensures.state
    (λ h order room there. c.in-Err.ensures.cause h room (leaf_links st c.args.session c.args.leaf order
    (subst (λ (k : Bool). IsCandidate st k c.args.session c.args.leaf.block c.args.leaf)
    (was_honest g (goal.at.returns-in-Err-clause-all g c).After-siblings_allow h) c.requires.leaf)) c.args.leaf.block c.args.parent)
