-- One session's call over the history of all actions: what stands between its events, and what an event does.
use Rattle.std.specs.Prelude.{◌≡◌, ◌≢◌, ◌⊎◌, ℕ, zero, suc, ◌+◌, ◌<◌, ◌≤◌, ◌&&◌, not, Bool, true, false, if◌then◌else◌, Option, Some, None, List, [], ◌∷◌, ◌++◌, length, slice_get, unwrap_or}
use Rattle.index_model.specs.Actions.{Effect, Add, Remove, Shape, Action, contents_after}
use Rattle.index_model.specs.Calls.{Ask, AskInsert, AskScan, AskBulkDelete, AskCleanup, Ending, Running, Added as EndsAdded, Finished as EndsFinished, Vacuumed, GivenUp, Failed, Call, Meets}
use Rattle.index_model.specs.Faults.{Circumstances, HasCause}
use Rattle.index_model.specs.Order.{is_among}
use Rattle.index_model.specs.declared.entry.Entry.{Entry}
use Rattle.index_model.specs.declared.fault.Fault.{Fault}
use Rattle.index_model.specs.declared.fault.Fault.TheVariants.{Stopped, NoSession}
use Rattle.latch_table.specs.Holdings.{has_pin, holding_of, nothing_held}
use Rattle.page_action.specs.Contents.{entry_on_live_leaf}
use Rattle.page_action.specs.Reuse.{is_reusable}
use Rattle.page_action.specs.States.{State, Backing, Continues, after_begin, after_end, after_start_cycle, after_stop_cycle}
use Rattle.page_action.specs.declared.page_store.PageStore.{Ghosts}
use Rattle.page_codec.specs.Edits.{entries_of}
use Rattle.page_codec.specs.declared.page.Page.{Page}
use Rattle.split_finish.specs.Targets.{OnlyTargetsAreIncomplete}
use Rattle.tree_acts.specs.Deletions.{StartsAreBelow}
use Rattle.tree_acts.specs.Steps.{IsApt, HasEffect}
use Rattle.tree_acts.specs.StepEffects.{IsInOrder, OthersRely, MovesFlags, DeletesLeaves, IsOneActAtMost}
use Rattle.page_delete.specs.Cleanups.{CleanupInvariant}
use Rattle.page_delete.specs.Counts.{IsCleaned, AllIsCleaned, deleted_in}
use Rattle.page_delete.specs.Ops.{cleanup_stats}
use Rattle.page_delete.specs.Parts.{PinnedLeafPagesStay}
use Rattle.page_delete.specs.Spares.{IsAlone, IsSparing, OnlyNeededStay}
use Rattle.page_delete.specs.declared.steps.CleanupOp.{CleanupOp}
use Rattle.scan.specs.Scans.{waiting}
use Rattle.vacuum.specs.Counts.{IsCounted, entries_below, stats_of}
use Rattle.session_calls.specs.Ops.{set_at, ends_call}
use Rattle.session_calls.specs.TheoremCalls.{DeadSets, asked_by, begun_call, acts_of}
use Rattle.session_calls.specs.Ops.{op_before, session_of, asked_of, add_of, ready_of, OpInvariant, OpKnows, causes_of_requesting, causes_of_stepped_any, asks_bulk_delete, is_bulk_delete, IsOfSets, call_kind, IsCaused, is_last, StoppedAnswersFirst, AnswersLogged, op_work, op_targets}
use Rattle.tree_acts.specs.Leaves.{LeafPagesStay, IsLeafAt}
use Rattle.session_calls.specs.BulkDeletions.{OpDeletions, SlotDeletions}
use Rattle.session_calls.specs.declared.answer.Answer.{Answer}
use Rattle.session_calls.specs.declared.answer.Answer.TheVariants.{Begun, Going, Added, Ready, Done, Finished, Gave, Ended, Forced, Flushed, Checkpointed, Refused}
use Rattle.session_calls.specs.declared.op.Op.{Op}
use Rattle.session_calls.specs.declared.op.Op.TheVariants.{Insert, Scan, Bulk, Cleanup}
use Rattle.session_calls.specs.declared.request.Request.{Request}

-- the contents of the pages are those after the history; the acts are as many as its actions; all is in
-- order; each running call's start number is below the count of calls begun
pub record Matches (st : State) (start : Entry → Bool) (history : List Action) : Type 0 where
  pub contents : (e : Entry) → entry_on_live_leaf st.pages e ≡ contents_after start history e
  pub count : st.acts ≡ length history
  pub order : IsInOrder st
  pub starts : StartsAreBelow st

-- the start number of a session's call, if it has one
abbrev pub start_number : State → ℕ → Option ℕ
start_number st session = unwrap_or (slice_get st.running session) None

-- a session with no call holds nothing, and has no start number, so none of its calls keeps a page from being
-- used again
pub record IsIdle (st : State) (session : ℕ) : Type 0 where
  pub holds : holding_of st.table session ≡ nothing_held
  pub number : start_number st session ≡ None

-- a running call has a start number
pub record HasStarted (st : State) (session : ℕ) : Type 0 where
  pub number : ℕ
  pub is : start_number st session ≡ Some number

-- what holds of a running call between its events
pub record OpRuns (st : State) (sets : DeadSets) (start : Entry → Bool) (history : List Action) (call : Call) (op : Op) : Type 0 where
  pub ask : call.ask ≡ asked_of sets op
  pub session : session_of op ≡ call.session
  pub added : call.added ≡ add_of op
  pub started : HasStarted st call.session
  pub fits : OpInvariant st op
  pub knows : OpKnows start history call.began call.given op

-- the running call of this number, which this operation runs
pub record CallFits (st : State) (sets : DeadSets) (start : Entry → Bool) (history : List Action) (number : ℕ) (call : Call) (op : Op) : Type 0 where
  pub world : Matches st start history
  pub running : call.ending ≡ Running
  pub meets : Meets start history number call
  pub runs : OpRuns st sets start history call op
  pub deletions : OpDeletions st sets start history number call.began op

-- the session's slot runs this call
abbrev pub SlotFits : State → DeadSets → (Entry → Bool) → List Action → ℕ → Call → Option Op → Type 0
SlotFits st sets start history number call None = ⊥
SlotFits st sets start history number call (Some op) = CallFits st sets start history number call op

-- the slot of a session after an event, and its call
abbrev pub SlotIs : State → DeadSets → (Entry → Bool) → List Action → Call → Option Op → Type 0
SlotIs st sets start history call None = (call.ending ≢ Running) × IsIdle st call.session
SlotIs st sets start history call (Some op) = (call.ending ≡ Running) × OpRuns st sets start history call op

-- how many they are
abbrev pub act_count : Option Effect → ℕ
act_count None = 0
act_count (Some effect) = 1

-- what a call may do by what it was asked: an insert that has no Add may add its entry; a bulk delete may
-- remove entries of its set; an insert and a cleanup may change the shape of the pages
abbrev pub MayDo : Ask → Option ℕ → Effect → Type 0
MayDo (AskInsert asked) added (Add e) = (asked ≡ e) × (added ≡ None)
MayDo (AskInsert asked) added Shape = Unit {0}
MayDo (AskBulkDelete dead) added (Remove es) = (e : Entry) → is_among es e ≡ true → dead e.row ≡ true
MayDo AskCleanup added Shape = Unit {0}
MayDo ask added effect = ⊥

-- ... and by the contents before
abbrev pub IsAsked : (Entry → Bool) → Ask → Option ℕ → Option Effect → Type 0
IsAsked was_there ask added None = Unit {0}
IsAsked was_there ask added (Some effect) = MayDo ask added effect × IsApt was_there effect

-- the number of the call's Add after an action of this number and this effect
abbrev pub add_after : Option ℕ → ℕ → Option Effect → Option ℕ
add_after added action None = added
add_after added action (Some (Add e)) = Some action
add_after added action (Some (Remove es)) = added
add_after added action (Some Shape) = added

-- the call after an event of this effect, with `count` actions before it: its Add is noted
abbrev pub noted : Call → ℕ → Option Effect → Call
noted call count effect = record call { added = add_after call.added (suc count) effect }

-- the call, ended so when there are `count` actions
abbrev pub ended : Call → Ending → ℕ → Call
ended call ending count = record call { ending = ending; until = count }

-- the call, whose scan has given one entry more
abbrev pub given_one : Call → Entry → Call
given_one call e = record call { given = call.given ++ e ∷ [] }

-- what a refusal does to the call: it ends it, or leaves it as it was
abbrev pub Refuses : Fault → ℕ → Call → Call → Type 0
Refuses fault count call after = after ≡ (if ends_call fault then ended call (Failed fault) count else call)

-- an insert whose Add is noted ends with it, as of now; if a fault left a split unfinished, no action is
-- appended
pub record EndsWithAdd (action : ℕ) (unfinished : Option Fault) (count : ℕ) (effect : Option Effect) (call after : Call) : Type 0 where
  pub noted_is : (noted call count effect).added ≡ Some action
  pub after_is : after ≡ ended (noted call count effect) (EndsAdded action unfinished) (act_count effect + count)
  pub quiet : unfinished ≢ None → effect ≡ None

-- no action is appended, and the call is this one then
pub record OnlyBecomes (effect : Option Effect) (becomes after : Call) : Type 0 where
  pub none : effect ≡ None
  pub after_is : after ≡ becomes

-- What an answer says of the effect of an event, and of the call before and after it, with `count` actions
-- before.
abbrev pub AnswerMeans : Answer → ℕ → Option Effect → Call → Call → Type 0
AnswerMeans Begun count effect call after = ⊥
AnswerMeans Going count effect call after = after ≡ noted call count effect
AnswerMeans (Added action unfinished) count effect call after = EndsWithAdd action unfinished count effect call after
AnswerMeans (Ready ready) count effect call after = OnlyBecomes effect call after
AnswerMeans Done count effect call after = OnlyBecomes effect (ended call EndsFinished count) after
AnswerMeans (Finished stats) count effect call after = OnlyBecomes effect (ended call (Vacuumed stats) count) after
AnswerMeans (Gave None) count effect call after = OnlyBecomes effect call after
AnswerMeans (Gave (Some e)) count effect call after = OnlyBecomes effect (given_one call e) after
AnswerMeans Ended count effect call after = OnlyBecomes effect (ended call GivenUp count) after
AnswerMeans (Forced count') count effect call after = ⊥
AnswerMeans (Flushed block) count effect call after = ⊥
AnswerMeans (Checkpointed count') count effect call after = ⊥
AnswerMeans (Refused fault) count effect call after = (effect ≡ None) × Refuses fault count call after

-- what is left to do for a call on these pages, of which there are `most` at most: steps, and entries to give
abbrev pub work_left : ℕ → List Page → Option Op → ℕ
work_left most pages None = 0
work_left most pages (Some op) = op_work most pages op

-- ... on the pages of this state, within its limits
abbrev pub work_in : State → Option Op → ℕ
work_in st slot = work_left st.format.pages st.pages slot

-- no entry is ready
abbrev pub NothingIsReady : Option Op → Type 0
NothingIsReady None = Unit {0}
NothingIsReady (Some op) = ready_of op ≡ []

-- when a step that goes on owes to leave less to do: each of a bulk delete and of a cleanup does, any other
-- if no act is done
abbrev pub OwesLess : Option Op → State → State → Type 0
OwesLess None old new = new.acts ≡ old.acts
OwesLess (Some (Insert op)) old new = new.acts ≡ old.acts
OwesLess (Some (Scan op)) old new = new.acts ≡ old.acts
OwesLess (Some (Bulk set op)) old new = Unit {0}
OwesLess (Some (Cleanup op)) old new = Unit {0}

-- a step that ends no call leaves less to do: each `Going` that owes it, and each `Ready` after all that was
-- ready had been given
abbrev pub StepHasLessLeft : State → State → Option Op → Option Op → Answer → Type 0
StepHasLessLeft old new before after Going = OwesLess before old new → work_in new after < work_in old before
StepHasLessLeft old new before after (Ready count) = NothingIsReady before → work_in new after < work_in old before
StepHasLessLeft old new before after answer = Unit {0}

-- while no act is done, no step leaves more to do
abbrev pub NoMoreIsLeft : State → State → Option Op → Option Op → Type 0
NoMoreIsLeft old new before after = new.acts ≡ old.acts → work_in new after ≤ work_in old before

-- an entry that was given leaves less to do; if none is given, none is ready, and nothing is changed
abbrev pub GivesLess : Option Op → Option Op → Answer → Type 0
GivesLess before after (Gave (Some e)) = (most : ℕ) (pages : List Page) → work_left most pages after < work_left most pages before
GivesLess before after answer = (after ≡ before) × NothingIsReady before

-- what is ready, if the slot runs a call
abbrev pub slot_ready : Option Op → List Entry
slot_ready None = []
slot_ready (Some op) = ready_of op

-- ... how many they are
abbrev pub ready_count : Option Op → ℕ
ready_count None = 0
ready_count (Some op) = length (ready_of op)

-- a step of a scan that has entries ready tells how many, and changes nothing
pub record StepWaits (old new : State) (before after : Option Op) (answer : Answer) : Type 0 where
  pub told : answer ≡ Ready (ready_count before)
  pub state : new ≡ old
  pub slot_is : after ≡ before

-- ... unless the log has stopped
abbrev pub WaitsToGive : Bool → State → State → Option Op → Option Op → Answer → Type 0
WaitsToGive is_stopped old new before after answer = is_stopped ≡ false → (NothingIsReady before → ⊥) → StepWaits old new before after answer

-- What a step may answer, by what the session runs before and after: of an insert, that it goes on or that
-- its entry is added; of a scan, that it goes on, how many entries are ready, or that it has given all; of a
-- bulk delete and of a cleanup, that it goes on or has finished; and a refusal.
abbrev pub AnswersStep : Option Op → Option Op → Answer → Type 0
AnswersStep (Some (Insert op)) after Going = Unit {0}
AnswersStep (Some (Insert op)) after (Added action unfinished) = Unit {0}
AnswersStep (Some (Scan op)) after Going = Unit {0}
AnswersStep (Some (Scan op)) after (Ready count) = count ≡ ready_count after
AnswersStep (Some (Scan op)) after Done = Unit {0}
AnswersStep (Some (Bulk set op)) after Going = Unit {0}
AnswersStep (Some (Bulk set op)) after (Finished stats) = Unit {0}
AnswersStep (Some (Cleanup op)) after Going = Unit {0}
AnswersStep (Some (Cleanup op)) after (Finished stats) = Unit {0}
AnswersStep before after (Refused fault) = Unit {0}
AnswersStep before after answer = ⊥

-- only a scan gives: an entry, or none if none is ready; all else is refused
abbrev pub AnswersNext : Option Op → Answer → Type 0
AnswersNext (Some (Scan op)) (Gave entry) = Unit {0}
AnswersNext (Some (Scan op)) answer = ⊥
AnswersNext slot (Refused fault) = Unit {0}
AnswersNext slot answer = ⊥

-- a call is given up; without one that is refused
abbrev pub AnswersEnd : Option Op → Answer → Type 0
AnswersEnd (Some op) answer = answer ≡ Ended
AnswersEnd None answer = answer ≡ Refused NoSession

-- what is answered if the session has no call to step
abbrev pub no_call : Bool → Answer
no_call is_stopped = if is_stopped then Refused Stopped else Refused NoSession

-- the number of the Add of the session's call, if it has one
abbrev pub slot_add : Option Op → Option ℕ
slot_add None = None
slot_add (Some op) = add_of op

-- after a session's call has ended: what it held is let go; and if it was a bulk delete, none runs now
abbrev pub let_go : Bool → ℕ → State → State
let_go false session st = after_end session st
let_go true session st = after_stop_cycle (after_end session st)

abbrev pub op_after_call : Op → State → State
op_after_call op st = let_go (is_bulk_delete op) (session_of op) st

-- ... of what a session runs, if anything
abbrev pub after_slot : Option Op → State → State
after_slot None st = st
after_slot (Some op) st = op_after_call op st

-- a refusal ends the call, or leaves it as it was; nothing else is changed
pub record StepIsRefused (old new : State) (op : Op) (after : Option Op) (fault : Fault) : Type 0 where
  pub state : new ≡ (if ends_call fault then op_after_call op old else old)
  pub slot_is : after ≡ (if ends_call fault then None else Some op)

-- a refused step ends the call, unless it was refused with Blocked or NoSession; it changes nothing else
abbrev pub RefusalChangesNothing : State → State → Option Op → Option Op → Answer → Type 0
RefusalChangesNothing old new (Some op) after (Refused fault) = StepIsRefused old new op after fault
RefusalChangesNothing old new None after answer = (new ≡ old) × (after ≡ None)
RefusalChangesNothing old new (Some op) after answer = Unit {0}

-- a step whose answer names a fault that leaves a split unfinished ends the call; it changes nothing else
abbrev pub IncompleteChangesNothing : State → State → Option Op → Answer → Type 0
IncompleteChangesNothing old new (Some op) (Added action (Some fault)) = new ≡ op_after_call op old
IncompleteChangesNothing old new before answer = Unit {0}

-- On any pages an event does one act at most, and with none the pages are as they were; so are limits, frames
-- and the count of calls.
pub record KeepsPages (old new : State) : Type 0 where
  pub acts : (new.acts ≡ old.acts) ⊎ (new.acts ≡ suc old.acts)
  pub quiet : new.acts ≡ old.acts → new.pages ≡ old.pages
  pub format : new.format ≡ old.format
  pub frames : new.frames ≡ old.frames
  pub begun : new.begun ≡ old.begun

-- only an insert, a bulk delete and a cleanup do acts
abbrev pub OnlyWritersAct : Option Op → State → State → Type 0
OnlyWritersAct (Some (Insert op)) old new = Unit {0}
OnlyWritersAct (Some (Bulk set op)) old new = Unit {0}
OnlyWritersAct (Some (Cleanup op)) old new = Unit {0}
OnlyWritersAct slot old new = new.acts ≡ old.acts

-- only those pages have incomplete splits that the session's insert is to finish
abbrev pub OnlyOwnAreIncomplete : State → Option Op → Type 0
OnlyOwnAreIncomplete st None = OnlyTargetsAreIncomplete st []
OnlyOwnAreIncomplete st (Some op) = OnlyTargetsAreIncomplete st (op_targets op)

-- Which pages have incomplete splits after a step, by what it answers: those alone whose splits the insert is
-- to finish yet; none if its entry is added and nothing is left unfinished; if a fault ends it, those
-- whose splits it was to finish.
abbrev pub LeavesOwnIncomplete : State → Option Op → Option Op → Answer → Type 0
LeavesOwnIncomplete new before after (Added action (Some fault)) = OnlyOwnAreIncomplete new before
LeavesOwnIncomplete new before after (Added action None) = OnlyOwnAreIncomplete new None
LeavesOwnIncomplete new before after (Refused fault) = OnlyOwnAreIncomplete new before
LeavesOwnIncomplete new before after answer = OnlyOwnAreIncomplete new after

-- the cycle number after an event: it is as it was, but none after the end of a bulk delete
abbrev pub cycle_after : Ask → Option Op → ℕ → ℕ
cycle_after (AskBulkDelete dead) None cycle = 0
cycle_after ask slot cycle = cycle

-- what was asked is a cleanup, whose acts delete leaves
abbrev pub asks_cleanup : Ask → Bool
asks_cleanup AskCleanup = true
asks_cleanup (AskInsert e) = false
asks_cleanup (AskScan range) = false
asks_cleanup (AskBulkDelete dead) = false

-- What an effect of a call does to the shape of the pages, by what was asked: by one of a cleanup one leaf
-- goes on its way out of the tree; any other moves flags as the effect says.
abbrev pub MovesShape : Ask → Option Effect → State → State → Type 0
MovesShape AskCleanup effect old new = DeletesLeaves effect old new
MovesShape (AskInsert e) effect old new = MovesFlags effect old new
MovesShape (AskScan range) effect old new = MovesFlags effect old new
MovesShape (AskBulkDelete dead) effect old new = MovesFlags effect old new

-- A step of a session's call, by what was asked, with one effect at most. The pages are a tree again, and
-- their shape changes as what was asked allows. Leaves stay, or are split as a bulk delete beside it needs,
-- unless the call is a cleanup. Leaves that others have pinned always stay. Calls, limits and the cycle
-- number are as they were, and every other session may rely on what it held.
pub record CallEffect (session : ℕ) (ask : Ask) (effect : Option Effect) (old new : State) : Type 0 where
  pub changes : HasEffect effect old new
  pub shape : MovesShape ask effect old new
  pub leaves : asks_cleanup ask ≡ false → LeafPagesStay effect old new
  pub pinned : PinnedLeafPagesStay session old new
  pub cycle : new.cycle ≡ old.cycle
  pub format : new.format ≡ old.format
  pub frames : new.frames ≡ old.frames
  pub begun : new.begun ≡ old.begun
  pub running : new.running ≡ old.running
  pub order : IsInOrder new
  pub others : OthersRely session old new

-- One event of a running call. It appends at most one action, which the call was asked for. Its answer means
-- what it says, and a refusal has its cause. The pages match the longer history, and their shape changes as
-- what was asked allows. The limits stay; so do the pages, if no action is logged. Others may rely on what
-- they held. The cycle number stays until a bulk delete ends. While it stays, leaves stay too, or are split
-- as a bulk delete needs, unless the call is a cleanup. Leaves that others have pinned stay. The call goes on
-- meeting its definition. It says what the slot holds then, and what a bulk delete is to remove still.
pub record SessionEvent (at : Circumstances) (old new : State) (sets : DeadSets) (start : Entry → Bool) (history : List Action) (number : ℕ)
    (call : Call) (slot : Option Op) (answer : Answer) : Type 0 where
  pub effect : Option Effect
  pub after : Call
  pub asked : IsAsked (contents_after start history) call.ask call.added effect
  pub told : AnswerMeans answer (length history) effect call after
  pub caused : IsCaused at answer
  pub world : Matches new start (history ++ acts_of number effect)
  pub shape : MovesShape call.ask effect old new
  pub format : new.format ≡ old.format
  pub frames : new.frames ≡ old.frames
  pub pages : effect ≡ None → new.pages ≡ old.pages
  pub others : OthersRely call.session old new
  pub cycle : new.cycle ≡ cycle_after call.ask slot old.cycle
  pub leaves : asks_cleanup call.ask ≡ false → new.cycle ≡ old.cycle → LeafPagesStay effect old new
  pub pinned : PinnedLeafPagesStay call.session old new
  pub meets : Meets start (history ++ acts_of number effect) number after
  pub holds : SlotIs new sets start (history ++ acts_of number effect) after slot
  pub deletions : SlotDeletions new sets start (history ++ acts_of number effect) number after.began slot

-- it is still before the leaf, if it is a bulk delete that runs on
abbrev pub IsStillBefore : ℕ → Option Op → Answer → Type 0
IsStillBefore block after (Finished stats) = ⊥
IsStillBefore block (Some (Bulk set op)) answer = op.cursor ≤ block
IsStillBefore block after answer = Unit {0}

-- a bulk delete doesn't come past a leaf that another session has pinned, nor to its end
abbrev pub KeepsBeforePins : State → Option Op → Option Op → Answer → Type 0
KeepsBeforePins st (Some (Bulk set op)) after answer =
    (other block : ℕ) (page : Page) → other ≢ op.session → IsLeafAt st.pages block page → has_pin (holding_of st.table other).pins block ≡ true
    → op.cursor ≤ block → IsStillBefore block after answer
KeepsBeforePins st before after answer = Unit {0}

-- the block of the leaf that a session's scan stands on, if it runs one that stands on a leaf
abbrev pub leaf_of : Option Op → Option ℕ
leaf_of None = None
leaf_of (Some (Insert op)) = None
leaf_of (Some (Scan op)) = op.leaf
leaf_of (Some (Bulk set op)) = None
leaf_of (Some (Cleanup op)) = None

-- it stands on a live leaf, and what it has ready is of the entries there
pub record StandsOnLeaf (st : State) (slot : Option Op) : Type 0 where
  pub block : ℕ
  pub page : Page
  pub leaf : leaf_of slot ≡ Some block
  pub live : IsLeafAt st.pages block page
  pub of_leaf : (e : Entry) → is_among (slot_ready slot) e ≡ true → is_among (entries_of page.items) e ≡ true

-- where a step leaves a scan that had nothing ready: on the leaf that it has read, or on none if it goes
-- on
abbrev pub StandsByAnswer : State → Option Op → Option Op → Answer → Type 0
StandsByAnswer new (Some (Scan op)) after Going = leaf_of after ≡ None
StandsByAnswer new (Some (Scan op)) after (Ready count) = waiting op ≡ [] → StandsOnLeaf new after
StandsByAnswer new before after answer = Unit {0}

-- what it has counted are the entries that it has left, if it is a bulk delete that runs on; a cleanup also
-- leaves no half-dead page that it has passed
abbrev pub SlotIsCounted : DeadSets → State → Option Op → Type 0
SlotIsCounted sets st None = Unit {0}
SlotIsCounted sets st (Some (Insert op)) = Unit {0}
SlotIsCounted sets st (Some (Scan op)) = Unit {0}
SlotIsCounted sets st (Some (Bulk set op)) = IsCounted (set_at sets set) st op
SlotIsCounted sets st (Some (Cleanup op)) = IsCleaned st op

-- one that has finished tells how many entries there are
abbrev pub CountsAllEntries : State → Answer → Type 0
CountsAllEntries st (Finished stats) = stats.num_index_tuples ≡ entries_below st.pages (length st.pages)
CountsAllEntries st answer = Unit {0}

-- a cleanup that has finished tells so too, and no half-dead page is left
abbrev pub CountsAllCleaned : State → Answer → Type 0
CountsAllCleaned st (Finished stats) = AllIsCleaned st stats.num_index_tuples
CountsAllCleaned st answer = Unit {0}

-- a bulk delete or a cleanup that has finished tells what it has counted, and how many pages are in use,
-- deleted and free
abbrev pub CountsStats : State → Option Op → Answer → Type 0
CountsStats st (Some (Bulk set op)) (Finished stats) = stats ≡ stats_of st op
CountsStats st (Some (Cleanup op)) (Finished stats) = stats ≡ cleanup_stats st op
CountsStats st before answer = Unit {0}

-- how many of the blocks below a number may be used again
abbrev pub reusable_count : State → ℕ → ℕ
reusable_count st zero = 0
reusable_count st (suc block) = (if is_reusable st block then 1 else 0) + reusable_count st block

-- ... of those in use
abbrev pub reusable_in : State → ℕ
reusable_in st = reusable_count st (length st.pages)

-- a bulk delete or a cleanup that has finished, and runs no more, tells how many deleted pages may be used
-- again now
abbrev pub CountsFree : State → Option Op → Answer → Type 0
CountsFree st (Some (Bulk set op)) (Finished stats) = stats.pages_free ≡ reusable_in st
CountsFree st (Some (Cleanup op)) (Finished stats) = stats.pages_free ≡ reusable_in st
CountsFree st before answer = Unit {0}

-- as many more pages are deleted after a step of a cleanup as it has counted more, if it runs on
abbrev pub CountsPagesOn : State → State → CleanupOp → Option Op → Type 0
CountsPagesOn old new before (Some (Cleanup after)) = deleted_in new + before.deleted ≡ deleted_in old + after.deleted
CountsPagesOn old new before after = Unit {0}

-- a cleanup counts the pages that it deletes, and tells at its end how many they were
abbrev pub CountsPages : State → State → Option Op → Option Op → Answer → Type 0
CountsPages old new (Some (Cleanup op)) after Going = CountsPagesOn old new op after
CountsPages old new (Some (Cleanup op)) after (Finished stats) = deleted_in new + op.deleted ≡ deleted_in old + stats.pages_newly_deleted
CountsPages old new before after answer = Unit {0}

-- if nobody else acts, what a bulk delete or a cleanup has counted are the entries that it has left; at
-- the end all of them; and a cleanup leaves no half-dead page
abbrev pub CountsEntries : DeadSets → State → State → Option Op → Option Op → Answer → Type 0
CountsEntries sets old new (Some (Bulk set op)) after answer =
    IsCounted (set_at sets set) old op → SlotIsCounted sets new after × CountsAllEntries new answer
CountsEntries sets old new (Some (Cleanup op)) after answer =
    CleanupInvariant old op → IsCleaned old op → SlotIsCounted sets new after × CountsAllCleaned new answer
CountsEntries sets old new before after answer = Unit {0}

-- a cleanup that runs on leaves no empty leaf that it has passed and that might leave the tree
abbrev pub SlotIsSparing : State → Option Op → Type 0
SlotIsSparing st None = Unit {0}
SlotIsSparing st (Some (Insert op)) = Unit {0}
SlotIsSparing st (Some (Scan op)) = Unit {0}
SlotIsSparing st (Some (Bulk set op)) = Unit {0}
SlotIsSparing st (Some (Cleanup op)) = IsSparing st op

-- one that has finished has left none
abbrev pub OnlyNeededAreLeft : State → Answer → Type 0
OnlyNeededAreLeft st (Finished stats) = OnlyNeededStay st
OnlyNeededAreLeft st answer = Unit {0}

-- if nobody else holds a page, and no page was half-dead when it began, a cleanup leaves no empty leaf
-- that might leave the tree
abbrev pub SparesLeaves : State → State → Option Op → Option Op → Answer → Type 0
SparesLeaves old new (Some (Cleanup op)) after answer =
    IsInOrder old → StartsAreBelow old → CleanupInvariant old op → IsAlone old op.session → IsSparing old op
    → SlotIsSparing new after × OnlyNeededAreLeft new answer
SparesLeaves old new before after answer = Unit {0}

abbrev pub is_busy : Option Op → Bool
is_busy None = false
is_busy (Some op) = true

-- after an event of its call a session has one exactly if it had one, and the answer isn't the last of it
abbrev pub RunsUntilLast : Option Op → Option Op → Answer → Type 0
RunsUntilLast before after answer = is_busy after ≡ (is_busy before && not (is_last answer))

-- after a call has begun, which may be a bulk delete
abbrev pub after_request : Bool → ℕ → State → State
after_request false session st = after_begin session st
after_request true session st = after_start_cycle (after_begin session st)

-- a call has begun that isn't excluded: it gets a start number, a bulk delete a cycle number, and the
-- session's slot runs it from its first step on
pub record IsBegun (old new : State) (session : ℕ) (request : Request) (excluded : Bool) (before after : Option Op) : Type 0 where
  pub state : new ≡ after_request (asks_bulk_delete request) session old
  pub was_free : before ≡ None
  pub alone : excluded ≡ false
  pub runs : after ≡ Some (op_before session request)

-- a call isn't begun: nothing is changed, and there is a cause
pub record IsNotBegun (old : State) (old_backing : Backing) (new : State) (excluded : Bool) (before after : Option Op) (fault : Fault) : Type 0 where
  pub state : new ≡ old
  pub slot_is : after ≡ before
  pub cause : HasCause (causes_of_requesting excluded old old_backing (is_busy before)) fault

-- what a beginning does, by what it answers
abbrev pub BeginsBy : State → Backing → State → ℕ → Request → Bool → Option Op → Option Op → Answer → Type 0
BeginsBy old old_backing new session request excluded before after Begun = IsBegun old new session request excluded before after
BeginsBy old old_backing new session request excluded before after (Refused fault) = IsNotBegun old old_backing new excluded before after fault
BeginsBy old old_backing new session request excluded before after answer = ⊥

-- a call that has begun over this history: the pages match it still, others may rely, the call meets its
-- definition, and the slot runs it; except for a bulk delete's the cycle number stays; and all that is due to
-- it is to come
pub record SessionBegins (old new : State) (sets : DeadSets) (start : Entry → Bool) (history : List Action) (number session : ℕ) (request : Request) (slot : Option Op) : Type 0 where
  pub world : Matches new start history
  pub others : OthersRely session old new
  pub meets : Meets start history number (begun_call session (asked_by sets request) (length history))
  pub holds : SlotIs new sets start history (begun_call session (asked_by sets request) (length history)) slot
  pub cycle : asks_bulk_delete request ≡ false → new.cycle ≡ old.cycle
  pub leaves : new.cycle ≡ old.cycle → LeafPagesStay None old new
  pub deletions : IsOfSets sets request → SlotDeletions new sets start history number (length history) slot

-- what an operation runs after a step: nothing, if its answer is the last
abbrev pub slot_after : Answer → Op → Option Op
slot_after answer op = if is_last answer then None else Some op

-- A step of an operation, before what it holds is let go at its end. On any pages: it stays of its kind; what
-- it may answer; it does one act at most; a refusal changes nothing; a stopped log refuses it; what it tells
-- of the pages; and over a device that keeps its model, what is left to do.
pub record OpSteps {S : Type 0} (g : Ghosts S) (before after : Op) (old new : S) (answer : Answer) : Type 0 where
  pub steps : Continues g.follows old new
  pub session : session_of after ≡ session_of before
  pub same_bulk : is_bulk_delete after ≡ is_bulk_delete before
  pub one_kind : call_kind after ≡ call_kind before
  pub kind : AnswersStep (Some before) (Some after) answer
  pub refused : (fault : Fault) → answer ≡ Refused fault → (g.state new ≡ g.state old) × (after ≡ before)
  pub stopped : (g.backing old).stopped ≡ true → StoppedAnswersFirst (add_of before) answer
  pub unfinished : (action : ℕ) (fault : Fault) → answer ≡ Added action (Some fault) → g.state new ≡ g.state old
  pub faults : IsCaused (causes_of_stepped_any (g.state old).format.unique before) answer
  pub logged : AnswersLogged (add_of before) answer
  pub stats : CountsStats (g.state old) (Some before) answer
  pub waits : WaitsToGive (g.backing old).stopped (g.state old) (g.state new) (Some before) (Some after) answer
  pub kept : IsOneActAtMost (g.state old) (g.state new)
  pub calm : OnlyWritersAct (Some before) (g.state old) (g.state new)
  pub less : (g.backing new).honest ≡ true → StepHasLessLeft (g.state old) (g.state new) (Some before) (Some after) answer
  pub no_more : (g.backing new).honest ≡ true → NoMoreIsLeft (g.state old) (g.state new) (Some before) (slot_after answer after)

-- what the operation and its call are after a step: the call is over, or the operation runs it on
abbrev pub HoldsOn : Bool → State → DeadSets → (Entry → Bool) → List Action → Call → Op → Type 0
HoldsOn true st sets start history call op = call.ending ≢ Running
HoldsOn false st sets start history call op = (call.ending ≡ Running) × OpRuns st sets start history call op

-- a step of an operation over a history, before what it holds is let go at its end
pub record OpEvent (at : Circumstances) (old new : State) (sets : DeadSets) (start : Entry → Bool) (history : List Action) (number : ℕ) (call : Call) (op : Op) (answer : Answer) : Type 0 where
  pub effect : Option Effect
  pub then_call : Call
  pub works : CallEffect call.session call.ask effect old new
  pub asked : IsAsked (contents_after start history) call.ask call.added effect
  pub told : AnswerMeans answer (length history) effect call then_call
  pub caused : IsCaused at answer
  pub meets : Meets start (history ++ acts_of number effect) number then_call
  pub holds : HoldsOn (is_last answer) new sets start (history ++ acts_of number effect) then_call op
  pub deletions : is_last answer ≡ false → OpDeletions new sets start (history ++ acts_of number effect) number then_call.began op
