use Rattle.std.proofs.Common.{◌≡◌}
use Rattle.command_line.proofs.Imports.{Continues, ForEachWorldHistory, SameSizes}
use Rattle.command_line.proofs.Stepped.{HasGoneOn, HasStepsLeft}
use Rattle.command_line.proofs.stepping.run_call.Given as goal

abbrev pub invariant-loop-left : goal.invariant-loop-left
invariant-loop-left g l =
    let store = g.S.PageStore in
    let rows = g.T.DeadRows in
    record {
      steps : Continues store.follows l.fn.world.store l.world.store;
      format : (store.state l.world.store).format ≡ (store.state l.fn.world.store).format;
      sizes : SameSizes store l.fn.world l.world;
      gone : ForEachWorldHistory store rows l.fn.world l.world (HasGoneOn store rows l.session l.fn.world l.world);
      within : ForEachWorldHistory store rows l.fn.world l.world (λ start history calls. HasStepsLeft store rows l.session l.left l.fn.world l.world);
    }

abbrev pub decreases-loop-left : goal.decreases-loop-left
decreases-loop-left g l = l.left
