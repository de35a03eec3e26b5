use Rattle.std.proofs.Common.{ap, ◌∙◌}
use Rattle.tests_reference.proofs.Imports.{take_rest, history_of}
use Rattle.tests_reference.proofs.Moments.{drop_history_of}
use Rattle.tests_reference.proofs.bulk_delete.actions_after.Goals as goal

pub returns-then-k-history : goal.returns-then-k-history
returns-then-k-history c = ap history_of (take_rest c.args.history.now c.args.k) ∙ drop_history_of c.args.k c.args.history.now
