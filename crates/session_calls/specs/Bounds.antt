-- What is left to do for a running call has a bound at each moment.
use Rattle.std.specs.Prelude.{◌<◌, ◌≤◌, Some}
use Rattle.page_action.specs.States.{State}
use Rattle.tree_acts.specs.StepEffects.{IsInOrder}
use Rattle.session_calls.specs.Ops.{OpInvariant}
use Rattle.session_calls.specs.Sessions.{work_in}
use Rattle.session_calls.specs.declared.op.Op.{Op}

-- fewer than 2^42 steps, and entries to give, are left while the pages stay as they are
abbrev pub CallsAreBounded : Type 0
CallsAreBounded =
    (st : State) (op : Op) → IsInOrder st → st.format.pages ≤ 65536 → OpInvariant st op
    → work_in st (Some op) < 4398046511104
