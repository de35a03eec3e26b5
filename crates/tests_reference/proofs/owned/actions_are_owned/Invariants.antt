use Rattle.std.proofs.Common.{ℕ, ◌<◌}
use Rattle.tests_reference.proofs.Imports.{is_among, history_of, meant_calls, IsOwnedAt}
use Rattle.tests_reference.proofs.owned.actions_are_owned.Given as goal

abbrev pub invariant-loop-before : goal.invariant-loop-before
invariant-loop-before l = (k : ℕ) → k < l.before → IsOwnedAt (is_among l.start) (history_of l.history) (meant_calls l.calls) k
