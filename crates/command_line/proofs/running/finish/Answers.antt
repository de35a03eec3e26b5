use Rattle.std.proofs.Common.{◌++◌}
use Rattle.command_line.proofs.Imports.{OnOk, Appends, run_text, last_text}
use Rattle.command_line.proofs.Finished.{prints_done}
use Rattle.command_line.proofs.running.finish.Goals as goal

pub returns-clause-printed : goal.returns-clause-printed
returns-clause-printed g c =
    let done = c.args.finished in
    let old = g.W.Write.contents c.args.out.now in
    let new = g.W.Write.contents c.print_done-end.new.out in
    let answer = c.one-answer.result in
    let printed : OnOk c.print_done-end.result (Appends old new (run_text done.history.items done.receipts.items done.calls.items ++ last_text answer)) =
    rw (← c.as_slice.ensures.value, ← c.as_slice-2.ensures.value, ← c.as_slice-3.ensures.value) c.print_done-end.ensures.printed in
    prints_done g.S.PageStore g.T.DeadRows done c.one-answer.new.self old new c.print_done-end.result answer
    (record { goes = c.one-answer.ensures.goes; always = c.one-answer.ensures.always }) c.print_done-end.ensures.end printed
