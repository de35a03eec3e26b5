-- A call of one session that is run in parts, between calls of others.
use Rattle.std.specs.Prelude.{◌≡◌, ◌≢◌, ◌<◌, ℕ, zero, suc, Bool, false, Option, Some, None, List, [], ◌++◌}
use Rattle.index_model.specs.declared.entry.Entry.{Entry}
use Rattle.page_action.specs.declared.page_store.PageStore.{Ghosts}
use Rattle.session_calls.specs.Ops.{RunsOn, is_last}
use Rattle.session_calls.specs.Slots.{slot_of}
use Rattle.session_calls.specs.declared.answer.Answer.{Answer}
use Rattle.session_calls.specs.declared.answer.Answer.TheVariants.{Going}
use Rattle.session_calls.specs.declared.op.Op.{Op}
use Rattle.schedule.specs.TheoremMoments.{Moment}
use Rattle.whole_calls.specs.Made.{StepComesTo}
use Rattle.whole_calls.specs.Meanings.{HasRunSoFar, SessionStepMeans}
use Rattle.whole_calls.specs.Stepping.{FinishIsRun, HasReached}
use Rattle.whole_calls.specs.Vacuuming.{CountsThrough, Followed}

-- what a part came to: the answer of its last step, unless the call goes on
abbrev pub part_outcome : Answer → Option Answer
part_outcome Going = None
part_outcome answer = Some answer

-- after these answers one step more was answered, with this
pub record OneStepMore (Before : List Answer → Type 0) (answer : Answer) (answers : List Answer) : Type 0 where
  pub before : List Answer
  pub last : List Answer
  pub begins : Before before
  pub ends : StepComesTo answer last
  pub answers_are : answers ≡ before ++ last

-- these are the answers of exactly this number of steps, after each of which the call went on; of none there
-- is no answer
abbrev pub StepsGoOn : ℕ → List Answer → Type 0
StepsGoOn zero answers = answers ≡ []
StepsGoOn (suc count) answers = OneStepMore (StepsGoOn count) Going answers

-- What a part came to that was to make `count` steps. If the call goes on, it has made exactly as many; else
-- fewer went on, and the next one answered this. So a part of no steps does nothing.
abbrev pub PartComesTo : ℕ → Answer → List Answer → Type 0
PartComesTo count Going answers = StepsGoOn count answers
PartComesTo count answer answers = (gone : ℕ) × (gone < count) × OneStepMore (StepsGoOn gone) answer answers

-- an answer that isn't the last of a call, as `Going` and a refusal with `Blocked`, leaves it running
abbrev pub RunsUnlessLast : Option Op → Option Op → Answer → Type 0
RunsUnlessLast before after answer = is_last answer ≡ false → before ≢ None → after ≢ None

-- what a part of the session's running call tells: that it has gone on; or that its last step answered so
abbrev pub PartMeans : {S : Type 0} → ℕ → Answer → Moment S → Moment S → Type 0
PartMeans session Going old new = HasRunSoFar session old new
PartMeans session answer old new = SessionStepMeans session answer old new

-- steps that went on, up to a moment that fits, and the last one; and what the session ran before that is the
-- call that it ran at first
pub record PartEnds {S : Type 0} (g : Ghosts S) (session least_room : ℕ) (answer : Answer) (start : Entry → Bool) (old new : Moment S) : Type 0 where
  pub finish : FinishIsRun g session least_room answer start old new
  pub on : RunsOn (slot_of old.slots session) (slot_of finish.last.slots session)

-- what a part of the session's call does to whatever fitted before
pub record PartIsRun {S : Type 0} (g : Ghosts S) (session least_room : ℕ) (answer : Answer) (start : Entry → Bool) (old new : Moment S) : Type 0 where
  pub told : PartMeans session answer old new
  pub going : answer ≡ Going → HasReached g session old new
  pub ends : answer ≢ Going → PartEnds g session least_room answer start old new
  pub counts : (what : Followed) → CountsThrough what old.sets (g.state old.store) (g.state new.store) (slot_of old.slots session) (slot_of new.slots session) answer
