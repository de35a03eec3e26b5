use Rattle.std.proofs.Common.{arith, true, ◌<◌, ◌≤◌, sym, subst}
use Rattle.descent.proofs.Imports.{HasCause, State, causes_of_working}
use Rattle.descent.proofs.Blocks.{fresh_past_meta}
use Rattle.descent.proofs.Working.{full_cause}
use Rattle.descent.proofs.splitting.take_block.Goals as goal

pub returns-in-Ok-check_latch-clause-block : goal.returns-in-Ok-check_latch-clause-block
returns-in-Ok-check_latch-clause-block g c some =
    let st : State = g.S.PageStore.state c.args.store.now in
    let fresh = c.in-Ok.ensures.fresh in
    let few : st.format.pages ≤ 65536 = c.limits-limits.ensures.allowed.pages_to in
    let inside : c.in-Ok.block < st.format.pages = fresh.inside in
    (fresh_past_meta st c.in-Ok.block (g.met.S.PageStore.laws.stored c.args.store.now) some fresh, omega arith)

pub returns-in-Err-clause-cause : goal.returns-in-Err-clause-cause
returns-in-Err-clause-cause g c room images frames splits =
    let st : State = g.S.PageStore.state c.args.store.now in
    let old = g.S.PageStore.backing c.args.store.now in
    subst (HasCause (causes_of_working st old old c.args.session images frames true splits)) (sym c.in-Err.ensures.fault)
    (full_cause st old old c.args.session images frames splits c.in-Err.ensures.full)
