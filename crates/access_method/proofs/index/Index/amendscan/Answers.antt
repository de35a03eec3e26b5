use Rattle.std.proofs.Common.{None, ◌∙◌, rules}
use Rattle.access_method.proofs.Imports.{EndMeans}
use Rattle.access_method.proofs.Scans.{rests_by}
use Rattle.access_method.proofs.Seats.{agree_over}
use Rattle.access_method.proofs.Results.{run_fits}
use Rattle.access_method.proofs.index.Index.amendscan.Goals as goal

pub returns-clause-made : goal.returns-clause-made
returns-clause-made g c = c.give_up.ensures.made 5

pub returns-clause-rests : goal.returns-clause-rests
returns-clause-rests g c honest start history calls fits =
    let run = c.give_up.ensures.goes honest start history calls fits in
    rests_by g.S.PageStore c.args.token.session (EndMeans c.args.token.session) None c.args.self.now _ start history calls fits run run.tells.history_is

pub invariant_of-self : goal.invariant_of-self
invariant_of-self g c =
    record {
      sessions = c.give_up.ensures.others.sessions
          ∙ c.args.self.now.sessions;
      agree =
          agree_over c.args.self.now.calls.slots.items c.give_up.new.calls.slots.items c.args.self.now.seats c.args.token.session
          c.args.self.now.agree c.in-Some.ensures.low c.give_up.ensures.others.others None (search rules) c.give_up.ensures.over;
    }

pub returns-in_default-clause-fits : goal.returns-in_default-clause-fits
returns-in_default-clause-fits g c honest start history calls fits = (history, calls, fits)

pub returns-clause-fits : goal.returns-clause-fits
returns-clause-fits g c = run_fits c.give_up.ensures.goes
