use Rattle.std.proofs.Common.{◌≡◌, Some, slice_get, sym, subst, ◌∙◌}
use Rattle.page_action.specs.States.{State}
use Rattle.page_delete.proofs.Stepping.{starts}
use Rattle.page_delete.proofs.steps.CleanupOp.read_metapage.Goals as goal

pub returns-clause-all : goal.returns-clause-all
returns-clause-all g c =
    starts g.S.PageStore c.args.self.now c.turn_from_root.new.self c.args.high c.args.store.now c.read_shared.new.store c.view.result.now c.in-Some.position
    c.requires.at c.requires.alive c.read_shared.ensures.steps c.read_shared.ensures.state
    c.view.ensures.stored.storable.admitted
    (λ honest. subst (λ (st : State). slice_get st.pages 0 ≡ Some c.view.result.now) c.read_shared.ensures.state (c.view.ensures.page honest))
    c.in-Some.ensures.level (λ root names. sym c.in-Some.is ∙ c.way_down.ensures.named root names) c.turn_from_root.ensures
