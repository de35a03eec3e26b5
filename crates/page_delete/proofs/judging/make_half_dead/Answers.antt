use Rattle.std.proofs.Common.{◌≡◌, ℕ, ◌<◌, Bool, true, false, length, refl, sym, ap, subst, ◌∙◌, arith}
use Rattle.std.proofs.Common.{[], ◌∷◌, ◌≤◌}
use Rattle.page_codec.specs.Spelling.{count_of}
use Rattle.page_delete.proofs.Imports.{Page, State, IsLater, AreActable, links_of, act_cause_of, two_are, blocks_judged, DeletesOn, IsCandidate, IsTakenToChange, BlocksAreInUse, LeafDies}
use Rattle.page_delete.proofs.Imports.{IsSpared, PinnedLeafPagesStay}
use Rattle.page_delete.proofs.Moving.{dying_moves}
use Rattle.page_delete.proofs.Pinned.{pinned_dying}
use Rattle.page_delete.proofs.Trying.{tried_acted, tried_refused}
use Rattle.page_delete.proofs.Dying.{AreDying, dies, may_die_so, used_dying, count_links}
use Rattle.page_delete.proofs.judging.make_half_dead.Given.{Over}
use Rattle.page_delete.proofs.judging.make_half_dead.Goals.{After-act_on}
use Rattle.page_delete.proofs.judging.make_half_dead.Goals as goal

was_honest : (g : Over) (c : After-act_on g) → (g.S.PageStore.backing c.act_on.new.store).honest ≡ true → (g.S.PageStore.backing c.args.store.now).honest ≡ true
was_honest g c h =
    let later : IsLater (g.S.PageStore.backing c.args.store.now) (g.S.PageStore.backing c.act_on.new.store) =
    g.met.S.PageStore.laws.follows_later _ _ (c.act_on.ensures.steps _ (g.met.S.PageStore.laws.follows_same _)) in
    later.honest h

module _ (g : Over) (c : After-act_on g) (honest : (g.S.PageStore.backing c.args.store.now).honest ≡ true) where
  abbrev st : State
  st = g.S.PageStore.state c.args.store.now

  candidate : IsCandidate st true c.args.session c.args.leaf.block c.args.leaf
  candidate = subst (λ (h : Bool). IsCandidate st h c.args.session c.args.leaf.block c.args.leaf) honest c.requires.leaf

  taken : IsTakenToChange st true c.args.session c.args.parent.block c.args.parent
  taken = subst (λ (h : Bool). IsTakenToChange st h c.args.session c.args.parent.block c.args.parent) honest c.requires.parent

  fewer : count_of c.hand_on_link.new.page.items ≤ count_of c.args.parent.items
  fewer =
      let one : count_of c.hand_on_link.new.page.items ≡ length (links_of c.hand_on_link.new.page.items) = ap (λ (p : Page). count_of p.items) c.hand_on_link.ensures.only in
      let two = count_links c.args.parent.items c.requires.place.internal in
      let three = c.hand_on_link.ensures.count in
      omega (arith, one, two, three)

  may : AreActable st.format (length st.pages) (c.mark_half_dead.new.page ∷ c.hand_on_link.new.page ∷ [])
  may = may_die_so st c.args.session c.args.leaf c.args.parent c.mark_half_dead.new.page c.hand_on_link.new.page c.args.right c.args.at c.requires.inside candidate taken c.requires.place
      c.mark_half_dead.ensures.only c.hand_on_link.ensures.block (ap (λ (p : Page). p.layout) c.hand_on_link.ensures.only)
      (c.mark_half_dead.ensures.page candidate.stored.storable.admitted candidate.may_die) (c.hand_on_link.ensures.page taken.stored.storable.admitted) fewer

  dying : AreDying c.args.leaf c.args.parent c.mark_half_dead.new.page c.hand_on_link.new.page c.args.at
  dying = record { leaf_is = c.mark_half_dead.ensures.only; handed = c.hand_on_link.ensures.handed; parent_is = c.hand_on_link.ensures.node; block_is = c.hand_on_link.ensures.block }

pub returns-in-Ok-clause-all : goal.returns-in-Ok-clause-all
returns-in-Ok-clause-all g c =
    let at = (goal.at.returns-in-Ok-clause-all g c).After-act_on in
    let old = g.S.PageStore.state c.args.store.now in
    let leaf_used : c.mark_half_dead.new.page.block < length old.pages = subst (λ (p : Page). p.block < length old.pages) (sym c.mark_half_dead.ensures.only) c.requires.leaf.used in
    let parent_used : c.hand_on_link.new.page.block < length old.pages = subst (λ (b : ℕ). b < length old.pages) (sym c.hand_on_link.ensures.block) c.requires.parent.used in
    tried_acted g.S.PageStore c.args.session (blocks_judged c.args.leaf.block c.args.parent.block)
    (BlocksAreInUse c.args.leaf.block c.args.parent.block) (LeafDies c.args.leaf.block) (IsSpared c.args.session c.args.leaf.block c.args.parent.block) c.args.store.now c.act_on.new.store
    (c.mark_half_dead.new.page ∷ c.hand_on_link.new.page ∷ []) c.act_on.ensures.steps c.in-Ok.ensures.done
    (ap (λ (s : State). length s.pages) c.in-Ok.ensures.done ∙ used_dying old c.mark_half_dead.new.page c.hand_on_link.new.page leaf_used parent_used)
    (λ h. let honest = was_honest g at h in
    subst (λ (s : State). LeafDies c.args.leaf.block old s) (sym c.in-Ok.ensures.done)
    (dying_moves old c.args.leaf c.args.parent c.mark_half_dead.new.page c.hand_on_link.new.page (links_of c.hand_on_link.new.page.items)
    (c.requires.leaf.found honest) (c.requires.parent.found honest) c.requires.leaf.may_die
    c.requires.place.internal c.in-Ok.ensures.may c.mark_half_dead.ensures.only c.hand_on_link.ensures.only))
    (λ h. let honest = was_honest g at h in
    subst (λ (s : State). PinnedLeafPagesStay c.args.session old s) (sym c.in-Ok.ensures.done)
    (pinned_dying old c.args.session c.args.leaf c.args.parent c.mark_half_dead.new.page c.hand_on_link.new.page c.requires.leaf.free
    (c.requires.parent.found honest) c.requires.place.internal c.in-Ok.ensures.may
    (ap (λ (p : Page). p.block) c.mark_half_dead.ensures.only) c.hand_on_link.ensures.block))
    (λ h order below.
    let honest = was_honest g at h in
    subst (λ (s : State). DeletesOn c.args.session old s) (sym c.in-Ok.ensures.done)
    (dies old c.args.session c.args.leaf c.args.parent c.mark_half_dead.new.page c.hand_on_link.new.page c.args.right c.args.at order
    (candidate g at honest) (c.requires.right honest) (taken g at honest)
    c.requires.place (dying g at honest) (may g at honest)))

pub returns-in-Err-clause-all : goal.returns-in-Err-clause-all
returns-in-Err-clause-all g c =
    let at = (goal.at.returns-in-Err-clause-all g c).After-act_on in
    let old = g.S.PageStore.state c.args.store.now in
    tried_refused g.S.PageStore c.args.session (blocks_judged c.args.leaf.block c.args.parent.block)
    (BlocksAreInUse c.args.leaf.block c.args.parent.block) (LeafDies c.args.leaf.block)
    (IsSpared c.args.session c.args.leaf.block c.args.parent.block) c.args.store.now c.act_on.new.store c.in-Err.fault
    c.act_on.ensures.steps c.in-Err.ensures.refused
    (λ h order room there.
    act_cause_of old (g.S.PageStore.backing c.args.store.now) (g.S.PageStore.backing c.args.store.now) (g.S.PageStore.backing c.act_on.new.store) c.args.session
    (c.args.leaf.block ∷ c.args.parent.block ∷ []) false false (c.mark_half_dead.new.page ∷ c.hand_on_link.new.page ∷ []) c.in-Err.fault (omega arith) (λ s. s) refl
    (two_are c.mark_half_dead.new.page.block c.hand_on_link.new.page.block c.args.leaf.block c.args.parent.block
    (ap (λ (p : Page). p.block) c.mark_half_dead.ensures.only) c.hand_on_link.ensures.block)
    (c.in-Err.ensures.cause (may g at (was_honest g at h))))
