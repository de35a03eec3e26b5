use Rattle.std.proofs.Common.{ℕ, refl, arith}
use borrow.Author.Count.{below_more}
use Rattle.tests_reference.proofs.Imports.{is_among, history_of, meant_calls, IsOwnedAt}
use Rattle.tests_reference.proofs.Moments.{no_action}
use Rattle.tests_reference.proofs.Owners.{all_owned}
use Rattle.tests_reference.proofs.owned.actions_are_owned.Goals as goal

pub loop-before-preserved : goal.loop-before-preserved
loop-before-preserved c =
    let here = c.is_owned_at.ensures.0 c.if-not-is_owned_at.false in
    below_more (λ (k : ℕ). IsOwnedAt (is_among c.args.start.now) (history_of c.args.history.now) (meant_calls c.args.calls.now) k)
    c.loop-before.before c.loop-before.invariant here

pub returns : goal.returns
returns c = (
  λ _. all_owned (is_among c.args.start.now) (history_of c.args.history.now) (meant_calls c.args.calls.now) c.loop-before.before
      (λ k le. no_action k c.args.history.now (omega arith)) c.loop-before.invariant,
  λ _. refl,
)
