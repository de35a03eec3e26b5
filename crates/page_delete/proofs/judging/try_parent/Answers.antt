use Rattle.std.proofs.Common.{◌≡◌, ℕ, [], ◌∷◌, true, false, sym, ap, subst, ◌∙◌, arith}
use Rattle.page_delete.proofs.Imports.{Page, State, IsLater, same_page, IsHandingOn, blocks_judged, SiblingsAllow, BlocksAreInUse, LeafDies, IsSpared, IsTried, same_Some}
use Rattle.page_delete.proofs.Trying.{LeavesCauses, read_on, tried_later, tried_refused, tried_nothing, candidate_later}
use Rattle.page_delete.proofs.judging.try_parent.Given.{Over}
use Rattle.page_delete.proofs.judging.try_parent.Goals.{After-read_exclusive}
use Rattle.page_delete.proofs.judging.try_parent.Goals as goal

reads : (g : Over) (c : After-read_exclusive g)
    → ((g.S.PageStore.backing c.read_exclusive.new.store).stopped ≡ true → (g.S.PageStore.backing c.args.store.now).stopped ≡ true)
    → (g.S.PageStore.backing c.read_exclusive.new.store).promised ≡ (g.S.PageStore.backing c.args.store.now).promised → LeavesCauses g.S.PageStore c.args.store.now c.read_exclusive.new.store
reads g c alive promised = read_on g.S.PageStore c.args.store.now c.read_exclusive.new.store c.read_exclusive.ensures.steps c.read_exclusive.ensures.state alive promised
    (g.met.S.PageStore.laws.follows_later _ _ (c.read_exclusive.ensures.steps _ (g.met.S.PageStore.laws.follows_same _)))

was_honest : (g : Over) (c : After-read_exclusive g) → (g.S.PageStore.backing c.read_exclusive.new.store).honest ≡ true → (g.S.PageStore.backing c.args.store.now).honest ≡ true
was_honest g c h =
    let later : IsLater (g.S.PageStore.backing c.args.store.now) (g.S.PageStore.backing c.read_exclusive.new.store) =
    g.met.S.PageStore.laws.follows_later _ _ (c.read_exclusive.ensures.steps _ (g.met.S.PageStore.laws.follows_same _)) in
    later.honest h

pub make_half_dead-requires-clause-leaf : goal.make_half_dead-requires-clause-leaf
make_half_dead-requires-clause-leaf g c =
    candidate_later _ _ _ _ c.args.session c.args.leaf.block c.args.leaf c.read_exclusive.ensures.state
    (was_honest g (goal.at.make_half_dead-requires-clause-leaf g c).After-read_exclusive) c.requires.leaf

pub make_half_dead-requires-clause-right : goal.make_half_dead-requires-clause-right
make_half_dead-requires-clause-right g c h =
    subst (λ (st : State). SiblingsAllow st.pages c.args.leaf c.args.right) (sym c.read_exclusive.ensures.state)
    (c.requires.right (was_honest g (goal.at.make_half_dead-requires-clause-right g c).After-read_exclusive h))

pub returns-in-Err-clause-all : goal.returns-in-Err-clause-all
returns-in-Err-clause-all g c =
    tried_refused g.S.PageStore c.args.session (blocks_judged c.args.leaf.block c.args.parent) (BlocksAreInUse c.args.leaf.block c.args.parent)
    (LeafDies c.args.leaf.block) (IsSpared c.args.session c.args.leaf.block c.args.parent) c.args.store.now c.read_exclusive.new.store c.in-Err.fault
    c.read_exclusive.ensures.steps c.read_exclusive.ensures.state (λ h order room there. c.in-Err.ensures.cause h room there.1 (c.args.leaf.block ∷ c.args.parent ∷ []) 2 false false (omega arith))

pub returns-in-Some-clause-all : goal.returns-in-Some-clause-all
returns-in-Some-clause-all g c =
    let block_is : c.in-Ok.page.block ≡ c.args.parent = c.in-Ok.ensures.stored.block_is in
    tried_later g.S.PageStore c.args.session (blocks_judged c.args.leaf.block c.args.parent) (BlocksAreInUse c.args.leaf.block c.args.parent)
    (LeafDies c.args.leaf.block) (IsSpared c.args.session c.args.leaf.block c.args.parent) c.args.store.now c.read_exclusive.new.store c.make_half_dead.new.store c.make_half_dead.result
    (reads g (goal.at.returns-in-Some-clause-all g c).After-read_exclusive c.in-Ok.ensures.alive c.read_exclusive.ensures.room.promised)
    (subst (λ (b : ℕ). IsTried g.S.PageStore c.args.session (blocks_judged c.args.leaf.block b) (BlocksAreInUse c.args.leaf.block b)
    (LeafDies c.args.leaf.block) (IsSpared c.args.session c.args.leaf.block b) c.read_exclusive.new.store c.make_half_dead.new.store c.make_half_dead.result) block_is c.make_half_dead.ensures.all)

pub returns-in-None-clause-all : goal.returns-in-None-clause-all
returns-in-None-clause-all g c =
    let at = (goal.at.returns-in-None-clause-all g c).After-read_exclusive in
    let old = g.S.PageStore.state c.args.store.now in
    tried_nothing g.S.PageStore c.args.session (blocks_judged c.args.leaf.block c.args.parent) (BlocksAreInUse c.args.leaf.block c.args.parent)
    (LeafDies c.args.leaf.block) (IsSpared c.args.session c.args.leaf.block c.args.parent) c.args.store.now c.read_exclusive.new.store
    c.read_exclusive.ensures.steps c.read_exclusive.ensures.state
    (λ h room die.
    let honest = was_honest g at h in
    let allow = c.requires.right honest in
    let leaf = same_page old.pages c.args.leaf.block die.leaf c.args.leaf die.found (c.requires.leaf.found honest) in
    let right : die.right ≡ c.args.right = same_Some die.right c.args.right (sym die.right_is ∙ ap (λ (p : Page). p.right) leaf ∙ allow.right_is) in
    let parent = same_page old.pages c.args.parent die.parent_page c.in-Ok.page die.parent_found (c.in-Ok.ensures.page h) in
    c.in-None.ensures.none die.at
    (subst (λ (p : Page). IsHandingOn p c.args.leaf.block c.args.right die.at) parent (subst (λ (r : ℕ). IsHandingOn die.parent_page c.args.leaf.block r die.at) right die.hands_on)))
