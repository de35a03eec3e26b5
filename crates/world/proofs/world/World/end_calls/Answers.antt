use Rattle.std.proofs.Common.{◌≡◌, true, sym, ap, subst, refl, ◌∙◌, arith}
use Rattle.page_action.specs.States.{Backing}
use Rattle.world.specs.declared.world.World.{World}
use Rattle.session_calls.specs.Slots.{has_call}
use Rattle.world.proofs.Ending.{lets_nothing_go, lets_more_go, none_runs, over_next}
use Rattle.world.proofs.world.World.end_calls.Goals as goal

pub loop-session-init : goal.loop-session-init
loop-session-init g c = record {
  steps = λ first h. h;
  sessions = refl;
  over = λ session lt. absurd (omega arith);
  same = λ none. refl;
  backing = refl;
  kept = lets_nothing_go (g.S.PageStore.state c.args.self.now.store);
  fits = λ honest start history calls fits. (history, calls, fits);
}

pub loop-session-preserved : goal.loop-session-preserved
loop-session-preserved g c =
    let at = c.loop-session.invariant in
    let one = c.end_call.ensures in
    record {
      steps = λ first h. one.steps first (at.steps first h);
      sessions = one.sessions ∙ at.sessions;
      over = over_next c.loop-session.self.calls.slots.items c.end_call.new.self.calls.slots.items c.loop-session.session one.others one.over at.over;
      same = λ none. one.same (ap (λ (w : World g.row.S.Denot g.row.T.Denot). has_call w.calls.slots.items c.loop-session.session) (at.same none) ∙ none c.loop-session.session) ∙ at.same none;
      backing = one.backing ∙ at.backing;
      kept = lets_more_go _ _ _ at.kept one.kept;
      fits = λ honest start history calls fits.
          let mid = at.fits (ap (λ (b : Backing). b.honest) (sym one.backing) ∙ honest) start history calls fits in
          one.fits honest start mid.0 mid.1 mid.2;
    }

pub returns-clause-over : goal.returns-clause-over
returns-clause-over g c =
    let same = c.loop-session.invariant.sessions in
    let many = c.sessions-session-end.ensures in
    none_runs c.loop-session.self.calls.slots.items c.loop-session.session (omega (arith, same, many, c.loop-session-test.false)) c.loop-session.invariant.over
