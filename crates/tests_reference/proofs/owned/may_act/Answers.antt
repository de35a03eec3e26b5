use Rattle.std.proofs.Common.{suc}
use Rattle.tests_reference.proofs.Imports.{is_among, is_there_after, history_of}
use Rattle.tests_reference.proofs.owned.may_act.Goals as goal

pub returns-in-Reshapes : goal.returns-in-Reshapes
returns-in-Reshapes c =
    rw c.in-Reshapes.is (c.may_reshape.ensures (is_there_after (is_among c.args.start.now) (history_of c.args.history.now) c.args.before) (suc c.args.before) c.args.added)
