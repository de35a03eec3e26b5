use Rattle.descent.proofs.Working.{acting_told}
use Rattle.descent.proofs.splitting.act_on.Goals as goal

pub returns-clause-cause : goal.returns-clause-cause
returns-clause-cause g c may =
    acting_told (g.S.PageStore.state c.args.store.now) (g.S.PageStore.backing c.args.store.now) (g.S.PageStore.backing c.act.new.self)
    c.args.pages.now c.act.result c.act.ensures.full (c.act.ensures.cause)
