use Rattle.std.proofs.Common.{rules}
use Rattle.command_line.proofs.Stepped.{put_begun, put_refused}
use Rattle.command_line.proofs.stepping.run_insert.Goals as goal

pub returns-in-Begun-clause-goes : goal.returns-in-Begun-clause-goes
returns-in-Begun-clause-goes g c =
    put_begun g.S.PageStore g.met.S.PageStore.laws g.T.DeadRows c.args.session c.args.entry c.one.result c.args.world.now c.one.new.self c.one.ensures.goes
    c.run_call.result c.run_call.new.world c.one.ensures.steps c.run_call.ensures.steps (search rules) c.run_call.ensures.goes

pub returns-in_default-clause-goes : goal.returns-in_default-clause-goes
returns-in_default-clause-goes g c =
    put_refused g.S.PageStore g.met.S.PageStore.laws g.T.DeadRows c.args.session c.args.entry c.one.result c.args.world.now c.one.new.self c.one.ensures.goes
    c.one.ensures.always.answers (search rules)
