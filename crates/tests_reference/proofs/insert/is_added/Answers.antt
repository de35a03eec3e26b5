use Rattle.std.proofs.Common.{◌-◌, arith, refl}
use Rattle.tests_reference.proofs.Adds.{after_action, not_there}
use Rattle.tests_reference.proofs.insert.is_added.Goals as goal

pub returns-then-not-is_add_at : goal.returns-then-not-is_add_at
returns-then-not-is_add_at c = (
  λ never. absurd cc,
  λ added.
      let at = after_action _ _ c.args.number c.args.began c.args.ended c.args.entry.now c.args.action (c.args.action - 1) (omega arith) added in
      let yes = c.is_add_at.ensures.1 at.action_is in
      absurd cc,
)

pub returns : goal.returns
returns c = (
  λ yes. record {
    before = c.args.action - 1;
    number_is = omega arith;
    since = omega arith;
    until = omega arith;
    action_is = c.is_add_at.ensures.0 c.if-not-is_add_at.false;
    was_absent = not_there c.is_there_after.result _ c.is_there_after.ensures yes;
  },
  λ added.
      let at = after_action _ _ c.args.number c.args.began c.args.ended c.args.entry.now c.args.action (c.args.action - 1) (omega arith) added in
      let absent = at.was_absent in
      let is = c.is_there_after.ensures in
      rw is (rw absent refl),
)
