use Rattle.std.specs.Prelude.{OnOk}
use Rattle.std.proofs.Common.{List, subst}
use Rattle.schedule.specs.Making.{EachAlways, answers_after}
use Rattle.schedule.specs.Sessions.{here}
use Rattle.schedule.specs.TheoremRuns.{ForEachHistory, Runs}
use Rattle.world.proofs.world.World.run.Goals as goal

pub returns-clause-runs : goal.returns-clause-runs
returns-clause-runs g c =
    let rows = g.T.DeadRows in
    let old = c.args.self.now in
    let answers = answers_after c.args.answers.now.items c.run.new.answers.items in
    subst (λ (ts : List g.row.T.Denot). OnOk c.run.result (ForEachHistory g.S.PageStore (here rows old.store old.calls ts) (here rows c.run.new.store c.run.new.calls ts)
    (Runs g.S.PageStore (here rows old.store old.calls ts) (here rows c.run.new.store c.run.new.calls ts) c.args.events.now answers)))
    c.deref.ensures.value c.run.ensures.runs

pub returns-clause-always : goal.returns-clause-always
returns-clause-always g c =
    let rows = g.T.DeadRows in
    let old = c.args.self.now in
    let answers = answers_after c.args.answers.now.items c.run.new.answers.items in
    subst (λ (ts : List g.row.T.Denot). OnOk c.run.result (EachAlways g.S.PageStore c.args.events.now answers (here rows old.store old.calls ts) (here rows c.run.new.store c.run.new.calls ts)))
    c.deref.ensures.value c.run.ensures.always
