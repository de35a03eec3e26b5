use Rattle.std.proofs.Common.{[], ◌≤◌, ℕ, true, false, length, slice_get, sym, ap, subst, ◌∙◌, arith}
use Rattle.split_finish.proofs.Imports.{HasCause, State, place_inside, FinishStands, causes_of_finishing, FinishAt}
use Rattle.split_finish.proofs.Standing.{has_room}
use Rattle.split_finish.proofs.Stepping.{refuses, turns}
use Rattle.split_finish.proofs.finish.FinishOp.read_page.Goals as goal

pub returns-in-Ok-clause-all : goal.returns-in-Ok-clause-all
returns-in-Ok-clause-all g c =
    turns g.S.PageStore c.args.self.now c.leave_page.new.self c.args.store.now c.read_shared.new.store c.leave_page.result c.read_shared.ensures.steps c.read_shared.ensures.state
    c.leave_page.ensures.session c.leave_page.ensures.refused (λ h. (let k = sym c.in-Ok.is ∙ c.read_shared.ensures.stopped h in cc))
    (λ honest. c.leave_page.ensures.turn (g.S.PageStore.state c.args.store.now)
    (ap (λ (st : State). slice_get st.pages c.args.position.block) (sym c.read_shared.ensures.state) ∙ c.view.ensures.page honest)
    (ap (λ (st : State). st.format.pages) (sym c.read_shared.ensures.state) ∙ sym (ap (λ (l : _). l.pages) c.limits-most.ensures.value))
    (let most = c.in-Ok.ensures.inside in
    let same = ap (λ (st : State). st.format.pages) (sym c.read_shared.ensures.state) ∙ sym (ap (λ (l : _). l.pages) c.limits-most.ensures.value) in
    subst (λ (n : ℕ). length (g.S.PageStore.state c.args.store.now).pages ≤ n) same most))

pub returns-in-Err-clause-all : goal.returns-in-Err-clause-all
returns-in-Err-clause-all g c =
    let op = c.args.self.now in
    let st = g.S.PageStore.state c.args.store.now in
    refuses g.S.PageStore op c.args.store.now c.read_shared.new.store c.in-Err.fault c.read_shared.ensures.steps c.read_shared.ensures.state
    (λ h. (let k = sym c.in-Err.is ∙ c.read_shared.ensures.stopped h in cc))
    (λ honest order fits.
    let on = subst (FinishStands st fits.start op.target) c.requires fits.stands in
    subst (λ (a : FinishAt). HasCause (causes_of_finishing st (g.S.PageStore.backing c.args.store.now) (g.S.PageStore.backing c.read_shared.new.store) op.session op.target a) c.in-Err.fault) (sym c.requires)
    (c.in-Err.ensures.works honest (has_room st op fits) (place_inside st fits.start c.args.position.level _ true c.args.position.block order.tree on.place) [] 1 false false (omega arith)))
