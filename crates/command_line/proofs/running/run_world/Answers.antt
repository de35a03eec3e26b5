use Rattle.std.proofs.Math.Logic.{∥∥₁_map₂}
use Rattle.sessions.specs.Finishing.{IsFinished}
use Rattle.command_line.proofs.Imports.{IfOk-weaker, PrintsDone, PrintsRun}
use Rattle.command_line.proofs.running.run_world.Goals as goal

pub returns-in-Ok-clause-printed : goal.returns-in-Ok-clause-printed
returns-in-Ok-clause-printed g c =
    let done = c.in-Ok.finished in
    let e = c.in-Ok.ensures in
    let old = g.W.Write.contents c.args.out.now in
    let new = g.W.Write.contents c.finish.new.out in
    let ran : IsFinished g.S.PageStore g.T.DeadRows c.args.jobs.now c.args.workers c.args.world done = record {
      kept = e.kept;
      acted = e.acted;
      booked = e.booked;
      comes = ∥∥₁_map₂ e.later e.sets (λ later sets. record { start_is = e.start; sessions_are = e.sessions; sets_are = sets; later = later });
      steps = e.steps;
      idle = e.idle;
      all = e.all;
      once = e.once;
      receipts = e.receipts;
      each = e.each;
      workers_are = e.workers;
      calls = e.calls;
      summed = e.sum;
    } in
    IfOk-weaker c.finish.result.end (PrintsDone g.S.PageStore g.T.DeadRows done c.finish.result.world old new)
    (PrintsRun g.S.PageStore g.T.DeadRows c.args.jobs.now c.args.workers c.args.world c.finish.result.world old new)
    (λ end p. record { done = done; ran = ran; prints = p }) c.finish.ensures.printed
