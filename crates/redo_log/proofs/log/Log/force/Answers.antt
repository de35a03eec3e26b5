use Rattle.std.proofs.Common.{◌∙◌, arith}
use Rattle.redo_log.proofs.Forcing.{all_forced, then_moments, then_outside, ends_alike, ends_below}
use Rattle.redo_log.proofs.Standing.{waits_none}
use Rattle.redo_log.proofs.log.Log.force.Goals as goal

pub returns-then-count-eq0-clause-keeps : goal.returns-then-count-eq0-clause-keeps
returns-then-count-eq0-clause-keeps g c = λ acts forced k. all_forced c.args.self.now _ acts forced k (omega arith)

pub returns-then-count-eq0-clause-none : goal.returns-then-count-eq0-clause-none
returns-then-count-eq0-clause-none g c = waits_none c.args.self.now (omega arith)

pub returns-in_err-open_gate-clause-moments : goal.returns-in_err-open_gate-clause-moments
returns-in_err-open_gate-clause-moments g c =
    then_moments _ _ _ _ _ c.write_group.ensures.same c.write_group.ensures.moments c.in_ok-write_group.ensures.keeps c.open_gate.ensures.moments

pub returns-in_err-open_gate-clause-outside : goal.returns-in_err-open_gate-clause-outside
returns-in_err-open_gate-clause-outside g c = then_outside _ _ _ _ _ c.write_group.ensures.same c.write_group.ensures.outside c.open_gate.ensures.outside

pub returns-clause-moments : goal.returns-clause-moments
returns-clause-moments g c =
    then_moments _ _ _ _ _ c.write_group.ensures.same c.write_group.ensures.moments c.in_ok-write_group.ensures.keeps
    (then_moments _ _ _ _ _ c.open_gate.ensures.same c.open_gate.ensures.moments c.in_ok-open_gate.ensures.keeps c.settle.ensures.moments)

pub returns-clause-room : goal.returns-clause-room
returns-clause-room g c =
    ends_below c.args.self.now c.open_gate.new.self c.settle.new.self c.settle.result (c.open_gate.ensures.end ∙ c.write_group.ensures.end) (c.open_gate.ensures.blocks ∙ c.write_group.ensures.blocks) c.settle.ensures.room

pub returns-clause-refused : goal.returns-clause-refused
returns-clause-refused g c =
    ends_alike c.args.self.now c.open_gate.new.self c.settle.new.self c.settle.result (c.open_gate.ensures.end ∙ c.write_group.ensures.end) (c.open_gate.ensures.blocks ∙ c.write_group.ensures.blocks) c.settle.ensures.refused

pub returns-clause-outside : goal.returns-clause-outside
returns-clause-outside g c =
    then_outside _ _ _ _ _ c.write_group.ensures.same c.write_group.ensures.outside
    (then_outside _ _ _ _ _ c.open_gate.ensures.same c.open_gate.ensures.outside c.settle.ensures.outside)
