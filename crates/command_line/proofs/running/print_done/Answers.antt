use Rattle.std.proofs.Common.{◌++◌, ◌∷◌, [], List, ℕ, sym, subst}
use Rattle.command_line.proofs.Imports.{Appends, Appends-trans, answer_text, run_text}
use Rattle.command_line.proofs.Finished.{not_refused}
use Rattle.command_line.proofs.running.print_done.Goals as goal

pub returns-in_ok-print_answer-in_default : goal.returns-in_ok-print_answer-in_default
returns-in_ok-print_answer-in_default g c =
    let a = g.W.Write.contents c.args.out.now in
    let b = g.W.Write.contents c.print_run.new.out in
    let d = g.W.Write.contents c.print_answer.new.out in
    let run = run_text c.args.history.now c.args.receipts.now c.args.calls.now in
    let n = not_refused c.args.answer.now c.in_default.not-Refused in
    record {
      ends = tt;
      end = n.0;
      printed = subst (λ (last : List ℕ). Appends a d (run ++ last)) (sym n.1)
          (Appends-trans a b d run (answer_text c.args.answer.now ++ 10 ∷ []) c.in_ok-print_run.ensures c.in_ok-print_answer-in_default.ensures);
    }
