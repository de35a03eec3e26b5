use Rattle.std.proofs.Common.{ap}
use Rattle.page_action.specs.States.{State}
use Rattle.schedule.specs.TheoremMoments.{snapshot_of}
use Rattle.schedule.specs.MomentInvariants.{here_with}
use Rattle.schedule.proofs.Keeping.{no_growth, keeps_on, safe}
use Rattle.schedule.proofs.Events.{fits_still}
use Rattle.schedule.proofs.Fitting.{matches_of}
use Rattle.world.specs.Worlds.{snapshot_in}
use Rattle.world.proofs.world.World.page.Goals as goal

pub returns-clause-fits : goal.returns-clause-fits
returns-clause-fits g c honest start history calls fits =
    fits_still g.S.PageStore start (snapshot_in g.T.DeadRows c.args.self.now history calls) c.page.new.self c.page.ensures.state fits

pub returns-clause-crash : goal.returns-clause-crash
returns-clause-crash g c honest start history calls fits keeps =
    let laws = g.met.S.PageStore.laws in
    let old = snapshot_in g.T.DeadRows c.args.self.now history calls in
    let new = snapshot_of (here_with c.page.new.self old.slots old.sets) history calls in
    let now = fits_still g.S.PageStore start old c.page.new.self c.page.ensures.state fits in
    let follows = c.page.ensures.steps c.args.self.now.store (laws.follows_same c.args.self.now.store) in
    safe g.S.PageStore laws start old new follows keeps.own (matches_of now)
    (keeps_on g.S.PageStore laws start old new follows (ap (λ (st : State). st.format) c.page.ensures.state) (no_growth history) fits.explains.count (matches_of now) keeps)
