use Rattle.std.proofs.Common.{refl}
use Rattle.world.proofs.Ending.{lets_go, lets_nothing_go, runs_nothing}
use Rattle.world.proofs.world.World.end_call.Goals as goal

pub returns-then-not-is_running-clause-kept : goal.returns-then-not-is_running-clause-kept
returns-then-not-is_running-clause-kept g c = lets_nothing_go (g.S.PageStore.state c.args.self.now.store)

pub returns-then-not-is_running-clause-fits : goal.returns-then-not-is_running-clause-fits
returns-then-not-is_running-clause-fits g c honest start history calls fits = (history, calls, fits)

pub returns-clause-over : goal.returns-clause-over
returns-clause-over g c = runs_nothing c.abandon-ended.new.self.calls.slots.items c.args.session c.abandon-ended.ensures.always.left.over

pub returns-clause-others : goal.returns-clause-others
returns-clause-others g c = c.abandon-ended.ensures.always.others c.args.session refl

pub returns-clause-same : goal.returns-clause-same
returns-clause-same g c none = absurd (let clash = c.if-not-is_running.false in cc)

pub returns-clause-backing : goal.returns-clause-backing
returns-clause-backing g c = c.abandon-ended.ensures.always.left.backing

pub returns-clause-kept : goal.returns-clause-kept
returns-clause-kept g c = lets_go _ _ _ c.abandon-ended.ensures.always.left.state_is

pub returns-clause-fits : goal.returns-clause-fits
returns-clause-fits g c honest start history calls fits =
    let goes = c.abandon-ended.ensures.goes honest start history calls fits in
    (goes.then_history, goes.then_calls, goes.fits)
