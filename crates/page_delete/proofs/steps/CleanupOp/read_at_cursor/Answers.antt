use Rattle.std.proofs.Common.{◌≡◌, Some, slice_get, subst}
use Rattle.page_delete.proofs.Imports.{State, IsStored}
use Rattle.page_delete.proofs.Stepping.{looks}
use Rattle.page_delete.proofs.steps.CleanupOp.read_at_cursor.Goals as goal

pub returns-clause-all : goal.returns-clause-all
returns-clause-all g c =
    let old = g.S.PageStore.state c.args.store.now in
    looks g.S.PageStore c.args.self.now c.turn_at.new.self c.args.store.now c.read_shared.new.store c.view.result.now c.requires.at c.requires.alive
    c.read_shared.ensures.steps c.read_shared.ensures.state c.requires.inside
    (subst (λ (st : State). IsStored st.format c.args.self.now.cursor c.view.result.now) c.read_shared.ensures.state c.view.ensures.stored)
    (λ honest. subst (λ (st : State). slice_get st.pages c.args.self.now.cursor ≡ Some c.view.result.now) c.read_shared.ensures.state (c.view.ensures.page honest)) c.turn_at.ensures
