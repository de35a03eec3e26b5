use Rattle.std.proofs.Common.{List, sym, subst, ◌∙◌}
use Rattle.std.proofs.lemmas.Grind.{merely}
use Rattle.session_seats.specs.Seats.{view_of}
use Rattle.shared_world.proofs.Imports.{inside, CompletedCall, HasActed, KeepsFitting}
use Rattle.shared_world.proofs.Acting.{acts_first}
use Rattle.shared_world.proofs.Handing.{comes_first}
use Rattle.shared_world.proofs.Keeping.{keeps_first}
use Rattle.shared_world.proofs.live.Live.new.Goals as goal

pub invariant_of-result : goal.invariant_of-result
invariant_of-result g c =
    let now = inside g.T.DeadRows c.args.world in
    let pending = (view_of c.args.desk.registry).pending in
    let start = c.actions-start.result in
    record {
      kept = merely (λ honest contents acts calls stood.
          subst (λ (l : List CompletedCall). KeepsFitting g.S.PageStore g.J.Origin.handed contents acts calls (g.J.Origin.kept_then contents acts calls) now start pending l) (sym c.requires.first)
          (keeps_first g.S.PageStore contents acts calls (g.J.Origin.kept_then contents acts calls) now g.J.Origin.handed start pending (c.requires.stood.fits contents acts calls stood)
          (c.requires.stood.safe contents acts calls stood) (c.actions-start.ensures ∙ (c.requires.stood.fits contents acts calls stood).explains.count) c.requires.none));
      acted = merely (subst (λ (l : List CompletedCall). HasActed g.S.PageStore g.J.Origin.handed now pending l) (sym c.requires.first) (acts_first g.S.PageStore g.J.Origin.handed now pending c.requires.handed c.requires.none));
      matches = merely (record { runs = λ s p h. absurd (c.requires.none s p h); rests = λ s h. c.requires.rests s; beyond = λ s l. c.requires.rests s });
      seats = c.requires.seats;
      comes = merely (comes_first g.S.PageStore g.met.S.PageStore.laws g.J.Origin.handed start now c.actions-start.ensures c.requires.handed);
      steps = merely c.requires.stood.follows;
    }
