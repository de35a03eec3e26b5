-- What a step of a session's call promises whatever the pages are, and what is followed of the call, step by
-- step.
use Rattle.std.specs.Prelude.{◌≡◌, ℕ, suc, Bool, true, false, Option, None, List}
use Rattle.index_model.specs.Actions.{Action}
use Rattle.index_model.specs.Calls.{Call}
use Rattle.index_model.specs.declared.entry.Entry.{Entry}
use Rattle.page_action.specs.States.{State}
use Rattle.page_action.specs.declared.page_store.PageStore.{Ghosts}
use Rattle.session_calls.specs.TheoremCalls.{DeadSets}
use Rattle.session_calls.specs.Due.{IsDueIn, DueCountsDown}
use Rattle.session_calls.specs.Ops.{causes_of_slot_stepped_any, RunsOn, IsCaused, StoppedAnswersFirst, AnswersLogged, is_last}
use Rattle.session_calls.specs.Sessions.{SlotFits, KeepsPages, OnlyWritersAct, OnlyOwnAreIncomplete, LeavesOwnIncomplete, KeepsBeforePins, CountsEntries, CountsPages, CountsFree, SparesLeaves, StepHasLessLeft, NoMoreIsLeft, AnswersStep, RefusalChangesNothing, RunsUntilLast, IncompleteChangesNothing, CountsStats, WaitsToGive, StandsByAnswer, no_call, slot_add}
use Rattle.session_calls.specs.declared.answer.Answer.{Answer}
use Rattle.session_calls.specs.declared.op.Op.{Op}

-- what the answer of a step says, whatever the pages are
pub record StepAnswerMeans (is_stopped : Bool) (old new : State) (before after : Option Op) (answer : Answer) : Type 0 where
  -- which faults it may tell of
  pub faults : IsCaused (causes_of_slot_stepped_any old.format.unique before) answer
  -- once the entry of an insert is logged only a page that is blocked refuses it, and it ends with the number
  -- of that action
  pub logged : AnswersLogged (slot_add before) answer
  -- a fault that leaves a split unfinished ends the call; it changes nothing else
  pub unfinished : IncompleteChangesNothing old new before answer
  -- a bulk delete or a cleanup that has finished tells what it has counted, and how many pages are in use,
  -- deleted and free
  pub stats : CountsStats old before answer
  -- while a scan has entries ready it tells how many, and changes nothing
  pub waits : WaitsToGive is_stopped old new before after answer
  -- if it isn't the last of its call, each running call keeps its start number
  pub starts : is_last answer ≡ false → new.running ≡ old.running

-- a step, whatever the pages are
pub record StepAlways {S : Type 0} (g : Ghosts S) (old new : S) (before after : Option Op) (answer : Answer) : Type 0 where
  -- without a call nothing is done
  pub idle : before ≡ None → (answer ≡ no_call (g.backing old).stopped) × (new ≡ old)
  -- a refusal ends the call, unless it is one with Blocked or NoSession; it changes nothing else
  pub refused : RefusalChangesNothing (g.state old) (g.state new) before after answer
  -- on a stopped log it is refused for that, or an insert whose entry is logged ends so
  pub stopped : (g.backing old).stopped ≡ true → StoppedAnswersFirst (slot_add before) answer
  -- it answers what its call may, and stays a call of its kind
  pub kind : AnswersStep before after answer
  pub runs_on : RunsOn before after
  -- it goes on exactly if the answer isn't its last
  pub until_last : RunsUntilLast before after answer
  -- what its answer says
  pub tells : StepAnswerMeans (g.backing old).stopped (g.state old) (g.state new) before after answer
  -- it does one act at most, and only a call that writes does one
  pub kept : KeepsPages (g.state old) (g.state new)
  pub calm : OnlyWritersAct before (g.state old) (g.state new)
  -- over a device that keeps its model, less is left to do if it goes on, and never more
  pub less : (g.backing new).honest ≡ true → StepHasLessLeft (g.state old) (g.state new) before after answer
  pub no_more : (g.backing new).honest ≡ true → NoMoreIsLeft (g.state old) (g.state new) before after

-- some history fits what the session runs
pub record IsFitted (st : State) (sets : DeadSets) (slot : Option Op) : Type 0 where
  pub start : Entry → Bool
  pub history : List Action
  pub number : ℕ
  pub call : Call
  pub fits : SlotFits st sets start history number call slot

-- what is followed, from one step to the next, of a call that some history fits
pub record FittedStepFollows (old new : State) (before after : Option Op) (answer : Answer) : Type 0 where
  -- a call that was due comes to what is awaited at its last step, and each step before leaves one fewer
  pub due : (left : ℕ) → IsDueIn old before (suc left) → DueCountsDown old new before after left answer
  -- if no other pages had incomplete splits than those that its insert is to finish, no others have them now;
  -- and none has one after its end, unless its answer names a fault
  pub incomplete : OnlyOwnAreIncomplete old before → LeavesOwnIncomplete new before after answer
  -- a scan that has read a leaf stands on it, and on none if it goes on to another page
  pub stands : StandsByAnswer new before after answer
  -- a bulk delete or a cleanup that has finished tells how many deleted pages may be used again now
  pub frees : CountsFree new before answer

-- what is followed of any call
pub record EachStepFollows (sets : DeadSets) (old new : State) (before after : Option Op) (answer : Answer) : Type 0 where
  -- a bulk delete doesn't come past a leaf that another session has pinned, nor to its end
  pub waits : KeepsBeforePins old before after answer
  -- if nobody else acts, what a bulk delete or a cleanup has counted are the entries that it has left; at
  -- its end it tells how many there are, and a cleanup leaves no half-dead page
  pub entries : CountsEntries sets old new before after answer
  -- a cleanup counts the pages that it deletes, and tells how many they were
  pub deletes : CountsPages old new before after answer
  -- if nobody else holds a page, a cleanup leaves no empty leaf that it has passed and that might leave the
  -- tree
  pub spares : SparesLeaves old new before after answer

-- what is followed of a call by its step
pub record StepFollows (sets : DeadSets) (old new : State) (before after : Option Op) (answer : Answer) : Type 0 where
  pub fitted : IsFitted old sets before → FittedStepFollows old new before after answer
  pub each : EachStepFollows sets old new before after answer
