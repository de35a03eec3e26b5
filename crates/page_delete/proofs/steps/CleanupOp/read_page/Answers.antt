use Rattle.std.proofs.Common.{◌≡◌, ℕ, List, [], ◌≤◌, false, Some, length, slice_get, sym, ap, subst, ◌∙◌, arith}
use Rattle.index_model.specs.declared.limits.Limits.{Limits}
use Rattle.page_delete.proofs.Imports.{State, DescentIsShorter, HasCause, CleanupIsUnderway, blocks_written, causes_of_trying, CleanupAt, false≢true}
use Rattle.page_delete.proofs.Siblings.{trail_in_use}
use Rattle.page_delete.proofs.Stepping.{descends, refuses, working_cause, has_room}
use Rattle.page_delete.proofs.steps.CleanupOp.read_page.Goals as goal

pub returns-in-Err-clause-all : goal.returns-in-Err-clause-all
returns-in-Err-clause-all g c =
    let old = g.S.PageStore.state c.args.store.now in
    refuses g.S.PageStore c.args.self.now c.args.store.now c.read_shared.new.store c.in-Err.fault c.read_shared.ensures.steps c.read_shared.ensures.state (λ h. absurd (false≢true (sym c.requires.alive ∙ h)))
    (λ honest order fits.
    let u = subst (CleanupIsUnderway old fits.start c.args.self.now.cursor) c.requires.at fits.at in
    working_cause old (g.S.PageStore.backing c.args.store.now) (g.S.PageStore.backing c.read_shared.new.store) c.args.self.now c.in-Err.fault
    (let none : [] ≡ blocks_written c.args.self.now.at c.args.self.now.cursor old = ap (λ (a : CleanupAt). blocks_written a c.args.self.now.cursor old) (sym c.requires.at) in
    subst (λ (n : List ℕ). HasCause (causes_of_trying old (g.S.PageStore.backing c.args.store.now) (g.S.PageStore.backing c.read_shared.new.store) c.args.self.now.session n) c.in-Err.fault) none
    (c.in-Err.ensures.works honest (has_room old c.args.self.now fits)
    (trail_in_use old fits.start c.args.position.level c.args.position.block c.args.position.moves order.tree u.1.trail) [] 1 false false (omega arith))))

pub returns-clause-all : goal.returns-clause-all
returns-clause-all g c =
    let old = g.S.PageStore.state c.args.store.now in
    let most : c.limits-most.result.pages ≡ old.format.pages = ap (λ (l : Limits). l.pages) c.limits-most.ensures.value ∙ ap (λ (s : State). s.format.pages) c.read_shared.ensures.state in
    descends g.S.PageStore c.args.self.now c.turn_from_page.new.self c.args.high c.args.position c.args.store.now c.read_shared.new.store c.lead-next_page.result
    c.turn_from_page.result c.requires.at c.requires.alive
    c.read_shared.ensures.steps c.read_shared.ensures.state c.if-position-eq0.false
    (subst (λ (n : ℕ). DescentIsShorter 1 n c.args.position c.lead-next_page.result) most c.lead-next_page.ensures.less)
    (λ honest start order position. c.lead-next_page.ensures.goes old start false order.tree
    (subst (λ (st : State). slice_get st.pages c.args.position.block ≡ Some c.view.result.now) c.read_shared.ensures.state (c.view.ensures.page honest)) position (λ e. absurd (false≢true e))
    (subst (λ (n : ℕ). length old.pages ≤ n) (sym most) c.in-Ok.ensures.inside))
    c.turn_from_page.ensures.op c.turn_from_page.ensures.answer
