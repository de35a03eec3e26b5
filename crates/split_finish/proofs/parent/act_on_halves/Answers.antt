use Rattle.std.proofs.Common.{Option, length, sym, subst}
use Rattle.split_finish.proofs.Imports.{OnOk, Page, AreActable, halves_and}
use Rattle.split_finish.proofs.parent.act_on_halves.Goals as goal

pub returns-in-None-clause-may : goal.returns-in-None-clause-may
returns-in-None-clause-may g c =
    let st = g.S.PageStore.state c.args.store.now in
    subst (λ (right : Option Page). OnOk c.act_on.result (AreActable st.format (length st.pages) (halves_and c.args.left c.args.half right c.args.page))) (sym c.in-None.is) c.act_on.ensures.may
