use Rattle.std.proofs.Common.{slice_get, ap, sym, ◌∙◌}
use Rattle.page_action.specs.States.{State}
use Rattle.split_finish.proofs.Stepping.{turns}
use Rattle.split_finish.proofs.finish.FinishOp.read_metapage.Goals as goal

pub returns-clause-all : goal.returns-clause-all
returns-clause-all g c =
    turns g.S.PageStore c.args.self.now c.leave_metapage.new.self c.args.store.now c.read_shared.new.store c.leave_metapage.result c.read_shared.ensures.steps c.read_shared.ensures.state
    c.leave_metapage.ensures.session c.leave_metapage.ensures.refused (λ h. (let k = sym c.in_ok-read_shared.was ∙ c.read_shared.ensures.stopped h in cc))
    (λ honest. c.leave_metapage.ensures.turn (g.S.PageStore.state c.args.store.now) (ap (λ (st : State). slice_get st.pages 0) (sym c.read_shared.ensures.state) ∙ c.view.ensures.page honest))
