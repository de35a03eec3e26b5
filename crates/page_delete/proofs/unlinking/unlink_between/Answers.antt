use Rattle.std.proofs.Common.{◌≡◌, ℕ, Bool, true, false, map, length, refl, sym, ap, subst, ◌∙◌, arith}
use Rattle.page_delete.proofs.Imports.{Page, State, IsLater, after_act, AreActable, act_cause_of, blocks_unlinked_at, DeletesOn, IsTakenToChange, IsTakenLeft, IsTakenRight, IsInUse, PageIsDeleted}
use Rattle.page_delete.proofs.Imports.{IsNotDead, PinnedLeafPagesStay, unlinked}
use Rattle.page_delete.proofs.Moving.{unlinking_moves}
use Rattle.page_delete.proofs.Pinned.{pinned_unlinking}
use Rattle.page_delete.proofs.Trying.{tried_acted, tried_refused}
use Rattle.page_delete.proofs.Needs.{dead_blocks, unlinked_are}
use Rattle.page_delete.proofs.Deleting.{does_unlink, may_unlink, used_unlinking}
use Rattle.page_delete.proofs.unlinking.unlink_between.Given.{Over}
use Rattle.page_delete.proofs.unlinking.unlink_between.Goals.{After-act_between}
use Rattle.page_delete.proofs.unlinking.unlink_between.Goals as goal

-- what was read is so, if the device kept its model
module _ (g : Over) (c : After-act_between g) (honest : (g.S.PageStore.backing c.args.store.now).honest ≡ true) where
  abbrev st : State
  st = g.S.PageStore.state c.args.store.now

  page_taken : IsTakenToChange st true c.args.session c.args.page.block c.args.page
  page_taken = subst (λ (h : Bool). IsTakenToChange st h c.args.session c.args.page.block c.args.page) honest c.requires.page

  right_taken : IsTakenRight st true c.args.session c.args.page c.args.right.block c.args.right
  right_taken = subst (λ (h : Bool). IsTakenRight st h c.args.session c.args.page c.args.right.block c.args.right) honest c.requires.right

  left_taken : IsTakenLeft st true c.args.session c.args.page c.args.page.left c.args.left
  left_taken = subst (λ (h : Bool). IsTakenLeft st h c.args.session c.args.page c.args.page.left c.args.left) honest c.requires.left

-- ... as it did
was_honest : (g : Over) (c : After-act_between g) → (g.S.PageStore.backing c.act_between.new.store).honest ≡ true → (g.S.PageStore.backing c.args.store.now).honest ≡ true
was_honest g c h =
    let later : IsLater (g.S.PageStore.backing c.args.store.now) (g.S.PageStore.backing c.act_between.new.store) =
    g.met.S.PageStore.laws.follows_later _ _ (c.act_between.ensures.steps _ (g.met.S.PageStore.laws.follows_same _)) in
    later.honest h

pub returns-in-Ok-clause-all : goal.returns-in-Ok-clause-all
returns-in-Ok-clause-all g c =
    let at = (goal.at.returns-in-Ok-clause-all g c).After-act_between in
    let old = g.S.PageStore.state c.args.store.now in
    tried_acted g.S.PageStore c.args.session (blocks_unlinked_at c.args.page.block) (IsInUse c.args.page.block) (PageIsDeleted c.args.page.block)
    (IsNotDead c.args.page.block) c.args.store.now c.act_between.new.store
    (unlinked c.args.left c.args.page c.args.right c.begun-number.result) c.act_between.ensures.steps c.in-Ok.ensures.done
    (ap (λ (s : State). length s.pages) c.in-Ok.ensures.done
    ∙ used_unlinking old c.args.session _ c.args.page c.args.right c.begun-number.result c.args.left c.requires.page.used c.requires.right.taken.used c.requires.left)
    (λ h. let honest = was_honest g at h in
    subst (λ (s : State). PageIsDeleted c.args.page.block old s) (sym c.in-Ok.ensures.done)
    (unlinking_moves old c.args.page c.args.right c.begun-number.result (c.requires.page.found honest) c.requires.dead
    (c.requires.right.taken.found honest) c.args.session c.args.left (left_taken g at honest) c.in-Ok.ensures.may))
    (λ h. let honest = was_honest g at h in
    subst (λ (s : State). PinnedLeafPagesStay c.args.session old s) (sym c.in-Ok.ensures.done)
    (pinned_unlinking old c.args.page c.args.right c.begun-number.result (c.requires.page.found honest) c.requires.dead
    (c.requires.right.taken.found honest) c.args.session c.args.left (left_taken g at honest) c.in-Ok.ensures.may))
    (λ h order below.
    let honest = was_honest g at h in
    subst (λ (s : State). DeletesOn c.args.session old s) (sym (c.in-Ok.ensures.done ∙ ap (λ (n : ℕ). after_act (unlinked c.args.left c.args.page c.args.right n) old) c.begun-number.ensures))
    (does_unlink old c.args.session c.args.page c.args.right order (page_taken g at honest) c.requires.dead c.requires.right_is (right_taken g at honest) below c.args.left (left_taken g at honest)
    (subst (λ (n : ℕ). AreActable old.format (length old.pages) (unlinked c.args.left c.args.page c.args.right n)) c.begun-number.ensures c.in-Ok.ensures.may)))

pub returns-in-Err-clause-all : goal.returns-in-Err-clause-all
returns-in-Err-clause-all g c =
    let at = (goal.at.returns-in-Err-clause-all g c).After-act_between in
    let old = g.S.PageStore.state c.args.store.now in
    tried_refused g.S.PageStore c.args.session (blocks_unlinked_at c.args.page.block) (IsInUse c.args.page.block) (PageIsDeleted c.args.page.block)
    (IsNotDead c.args.page.block) c.args.store.now c.act_between.new.store c.in-Err.fault
    c.act_between.ensures.steps c.in-Err.ensures.refused
    (λ h order room there.
    let honest = was_honest g at h in
    let images = blocks_unlinked_at c.args.page.block old in
    let are : map (λ (page : Page). page.block) (unlinked c.args.left c.args.page c.args.right c.begun-number.result) ≡ images =
    unlinked_are old (g.S.PageStore.backing c.args.store.now).honest c.args.session c.begun-number.result c.args.page c.args.right c.args.page.left
    c.args.page.right c.args.left c.requires.right_is c.requires.left
    ∙ sym (dead_blocks old c.args.page (c.requires.page.found honest) c.requires.dead) in
    act_cause_of old (g.S.PageStore.backing c.args.store.now) (g.S.PageStore.backing c.args.store.now) (g.S.PageStore.backing c.act_between.new.store) c.args.session images false false
    (unlinked c.args.left c.args.page c.args.right c.begun-number.result) c.in-Err.fault (omega arith) (λ s. s) refl are
    (c.in-Err.ensures.cause
    (may_unlink old c.args.session c.args.page c.args.right order (page_taken g at honest) c.requires.dead c.requires.right_is (right_taken g at honest) c.requires.inside c.begun-number.result
    c.begun-number.type_inv c.args.left (left_taken g at honest))))
