-- The slots of sessions, each with what its session runs, and what is done to one of them.
use Rattle.std.specs.Prelude.{◌≡◌, ℕ, nat_lt, Bool, true, false, Option, Some, None, Result, Ok, Err, List, length, slice_get, slice_set, unwrap_or}
use Rattle.std.specs.List.{list_any}
use Rattle.index_model.specs.Actions.{Action}
use Rattle.index_model.specs.Calls.{Call}
use Rattle.index_model.specs.declared.entry.Entry.{Entry}
use Rattle.index_model.specs.declared.fault.Fault.{Fault}
use Rattle.index_model.specs.declared.fault.Fault.TheVariants.{Stopped, NoSession, SessionBusy}
use Rattle.page_action.specs.Causes.{nothing_wrong}
use Rattle.page_action.specs.States.{State}
use Rattle.page_action.specs.declared.page_store.PageStore.{Ghosts}
use Rattle.session_calls.specs.Due.{IsDueIn, HasSteps}
use Rattle.session_calls.specs.Following.{StepAlways, StepFollows}
use Rattle.session_calls.specs.Ops.{is_vacuum, causes_of_slot_stepped, causes_of_asked_next, RunsOn}
use Rattle.session_calls.specs.Sessions.{Matches, IsIdle, SlotFits, SessionEvent, SessionBegins, BeginsBy, GivesLess, AnswersNext, AnswersEnd, RunsUntilLast, leaf_of, op_after_call, is_busy}
use Rattle.session_calls.specs.TheoremCalls.{DeadSets}
use Rattle.session_calls.specs.declared.answer.Answer.{Answer}
use Rattle.session_calls.specs.declared.answer.Answer.TheVariants.{Begun}
use Rattle.session_calls.specs.declared.op.Op.{Op}
use Rattle.session_calls.specs.declared.request.Request.{Request}
use Rattle.session_calls.specs.declared.request.Request.TheVariants.{Insert as ToInsert, Scan as ToScan, Bulk as ToBulk, Cleanup as ToCleanup}

-- what the session runs
abbrev pub slot_of : List (Option Op) → ℕ → Option Op
slot_of slots session = unwrap_or (slice_get slots session) None

-- the session of this number has a call
abbrev pub slot_has_call : Option (Option Op) → Bool
slot_has_call None = false
slot_has_call (Some slot) = is_busy slot

abbrev pub has_call : List (Option Op) → ℕ → Bool
has_call slots session = slot_has_call (slice_get slots session)

-- what a session runs is a bulk delete or a cleanup
abbrev pub slot_vacuums : Option Op → Bool
slot_vacuums None = false
slot_vacuums (Some op) = is_vacuum op

-- some session runs a bulk delete or a cleanup
abbrev pub one_vacuums : List (Option Op) → Bool
one_vacuums slots = list_any slot_vacuums slots

-- the set that a request names is there
abbrev pub is_of_sets : DeadSets → Request → Bool
is_of_sets sets (ToInsert e) = true
is_of_sets sets (ToScan range) = true
is_of_sets sets (ToBulk set) = nat_lt set (length sets)
is_of_sets sets ToCleanup = true

-- The session may begin a call if calls begin at all, if there is such a session and the set that is named,
-- and if the session has no call. Else it is refused for the first of these that isn't so.
abbrev pub session_to_begin : Bool → Bool → Option (Option Op) → ℕ → Result ℕ Fault
session_to_begin true has_set slot session = Err Stopped
session_to_begin false has_set None session = Err NoSession
session_to_begin false false (Some slot) session = Err NoSession
session_to_begin false true (Some None) session = Ok session
session_to_begin false true (Some (Some op)) session = Err SessionBusy

-- one session's slot becomes another, which stands so to what it was; each other slot stays
pub record ChangesSlot (session : ℕ) (old new : List (Option Op)) (How : Option Op → Option Op → Type 0) : Type 0 where
  pub before : Option Op
  pub after : Option Op
  pub found : slice_get old session ≡ Some before
  pub is : new ≡ slice_set old session after
  pub how : How before after

-- a call is asked for in a slot that is there: what always holds, and what it begins over a history that fits
pub record SlotBegins {S : Type 0} (g : Ghosts S) (old new : S) (session : ℕ) (request : Request) (excluded : Bool) (answer : Answer) (before after : Option Op) : Type 0 where
  pub backing : g.backing new ≡ g.backing old
  pub by : BeginsBy (g.state old) (g.backing old) (g.state new) session request excluded before after answer
  pub begins : answer ≡ Begun → (sets : DeadSets) (start : Entry → Bool) (history : List Action) (number : ℕ) → Matches (g.state old) start history → IsIdle (g.state old) session
      → SessionBegins (g.state old) (g.state new) sets start history number session request after
  pub counts : answer ≡ Begun → HasSteps (g.state old) (g.state new) request after

-- a step of what a slot runs: whatever the pages are; over a history that fits; and what is followed of the
-- call
pub record SlotSteps {S : Type 0} (g : Ghosts S) (sets : DeadSets) (old new : S) (answer : Answer) (before after : Option Op) : Type 0 where
  pub always : StepAlways g old new before after answer
  pub goes : (g.backing new).honest ≡ true → (start : Entry → Bool) (history : List Action) (number : ℕ) (call : Call) → SlotFits (g.state old) sets start history number call before
      → SessionEvent (causes_of_slot_stepped sets before (g.state old) (g.backing old) (g.backing new)) (g.state old) (g.state new) sets start history number call after answer
  pub follows : (g.backing new).honest ≡ true → StepFollows sets (g.state old) (g.state new) before after answer

-- what a slot runs is asked for its next entry, which changes no pages
pub record SlotGives (answer : Answer) (before after : Option Op) : Type 0 where
  pub kind : AnswersNext before answer
  pub runs_on : RunsOn before after
  pub until_last : RunsUntilLast before after answer
  pub less : GivesLess before after answer
  pub goes : (st : State) (sets : DeadSets) (start : Entry → Bool) (history : List Action) (number : ℕ) (call : Call) → SlotFits st sets start history number call before
      → SessionEvent (causes_of_asked_next call.ask) st st sets start history number call after answer
  pub due : (st : State) (steps : ℕ) → IsDueIn st before steps → IsDueIn st after steps
  pub stands : leaf_of after ≡ leaf_of before

-- what a slot runs is given up
pub record SlotEnds {S : Type 0} (g : Ghosts S) (old new : S) (answer : Answer) (before after : Option Op) : Type 0 where
  pub kind : AnswersEnd before answer
  pub over : after ≡ None
  pub backing : g.backing new ≡ g.backing old
  pub given_up : (op : Op) → before ≡ Some op → g.state new ≡ op_after_call op (g.state old)
  pub goes : (sets : DeadSets) (start : Entry → Bool) (history : List Action) (number : ℕ) (call : Call) → SlotFits (g.state old) sets start history number call before
      → SessionEvent nothing_wrong (g.state old) (g.state new) sets start history number call after answer
