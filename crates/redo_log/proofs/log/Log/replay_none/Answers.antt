use Rattle.redo_log.proofs.Replaying.{nothing_found}
use Rattle.redo_log.proofs.log.Log.replay_none.Goals as goal

pub returns-clause-ok : goal.returns-clause-ok
returns-clause-ok c = λ honest m fits closed.
    let o = c.in_ok-opened.ensures in
    nothing_found c.args.format honest m _ fits c.requires.format.log_from closed c.new.ensures.items o.opened.format_is o.end o.idle o.opened.alive o.shut.0 o.shut.1
