-- What bounds the steps of one call: the actions that it may still append, and its steps between them.
use Rattle.std.specs.Prelude.{◌≡◌, ℕ, ◌+◌, ◌*◌, ◌<◌, ◌≤◌, Option, Some, None}
use Rattle.page_action.specs.States.{State}
use Rattle.tree_acts.specs.Weights.{weight}
use Rattle.session_calls.specs.Sessions.{work_in}
use Rattle.session_calls.specs.declared.answer.Answer.{Answer}
use Rattle.session_calls.specs.declared.answer.Answer.TheVariants.{Going}
use Rattle.session_calls.specs.declared.op.Op.{Op}
use Rattle.session_calls.specs.declared.op.Op.TheVariants.{Insert, Scan, Bulk, Cleanup}

-- an entry that isn't added yet brings its own action, and with it one split on each level at most
abbrev pub brought_by : Option ℕ → ℕ
brought_by None = 33
brought_by (Some action) = 0

-- how many actions the call may append, at most, after which its steps are counted anew: each split that is
-- finished leaves the unfinished ones weighing less. Those of a bulk delete and of a cleanup are counted
-- through.
abbrev pub acts_left : State → Option Op → ℕ
acts_left st None = weight st
acts_left st (Some (Insert op)) = weight st + brought_by op.added
acts_left st (Some (Scan op)) = weight st
acts_left st (Some (Bulk set op)) = 0
acts_left st (Some (Cleanup op)) = 0

-- how many steps it makes, at most: fewer than 2^42 from one such action to the next
abbrev pub steps_left : State → Option Op → ℕ
steps_left st slot = acts_left st slot * 4398046511104 + work_in st slot

-- if the call goes on, within limits that are allowed, fewer steps are left
abbrev pub TakesFewer : State → State → Option Op → Option Op → Answer → Type 0
TakesFewer old new before after answer =
    old.format.pages ≤ 65536 → answer ≡ Going → steps_left new after < steps_left old before
