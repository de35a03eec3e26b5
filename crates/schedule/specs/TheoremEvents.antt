-- The theorem's words: what an event does to the history and to the calls, by what it answers.
use Rattle.std.specs.Prelude.{◌≡◌, ◌≢◌, ◌⊎◌, ℕ, suc, ◌≤◌, Bool, true, false, Option, Some, None, [], ◌∷◌, ◌++◌, length, slice_get, slice_set}
use Rattle.index_model.specs.Actions.{Effect, Shape}
use Rattle.index_model.specs.Calls.{Ask, AskInsert, AskCleanup, Call}
use Rattle.index_model.specs.Row.{Row}
use Rattle.index_model.specs.declared.entry.Entry.{Entry}
use Rattle.index_model.specs.declared.fault.Fault.{Fault}
use Rattle.index_model.specs.declared.fault.Fault.TheVariants.{Blocked, Exists, KeyExists}
use Rattle.page_action.specs.declared.page_store.PageStore.{Ghosts}
use Rattle.page_codec.specs.declared.page.PageState.TheVariants.{Live, HalfDead, Deleted}
use Rattle.tree_shape.specs.Nodes.{Node, nodes_of}
use Rattle.session_calls.specs.TheoremCalls.{asked_by, begun_call, acts_of, becomes, MayComeWith}
use Rattle.session_calls.specs.declared.answer.Answer.{Answer}
use Rattle.session_calls.specs.declared.answer.Answer.TheVariants.{Begun, Added, Forced, Flushed, Checkpointed, Refused}
use Rattle.session_calls.specs.declared.op.Op.{Op}
use Rattle.session_calls.specs.declared.request.Request.{Request}
use Rattle.schedule.specs.TheoremMoments.{Moment, RunsOne, IsRunningCall, Explains}
use Rattle.schedule.specs.TheoremKinds.{Move, Forces, Flushes, Checkpoints, Kind, BeginsCall, MovesCall, MaintainsStore}
use Rattle.schedule.specs.TheoremRefusals.{MoveFails, EventFails}

-- nothing is changed: neither the pages, holdings and counts of the store, nor what the sessions run, nor the
-- history and the calls
pub record IsSameState {S : Type 0} (g : Ghosts S) (old new : Moment S) : Type 0 where
  pub state_is : g.state new.store ≡ g.state old.store
  pub slots_is : new.slots ≡ old.slots
  pub history_is : new.history ≡ old.history
  pub calls_is : new.calls ≡ old.calls

-- a session that ran nothing begins a call, which gets the next number
pub record CallIsBegun {S : Type 0} (session : ℕ) (request : Request) (old new : Moment S) : Type 0 where
  pub was_free : slice_get old.slots session ≡ Some None
  pub history_is : new.history ≡ old.history
  pub calls_is : new.calls ≡ old.calls ++ begun_call session (asked_by old.sets request) (length old.history) ∷ []

-- one split is finished: one page no longer has an incomplete split, and one page at most, one level higher,
-- has one now that had none
pub record ClearsOneSplit (old new : ℕ → Node) : Type 0 where
  pub cleared : ℕ
  pub was : (old cleared).split ≡ true
  pub is : (new cleared).split ≡ false
  pub raised : ℕ
  pub higher : (old raised).split ≡ false → (new raised).split ≡ true → (new raised).level ≡ suc (new cleared).level
  pub others : (block : ℕ) → block ≢ cleared → block ≢ raised → (new block).split ≡ (old block).split

-- one leaf goes on its way out of the tree: a live one is half-dead then, or a half-dead one deleted
pub record DeletesOneLeaf (old new : ℕ → Node) : Type 0 where
  pub block : ℕ
  pub goes : (((old block).state ≡ Live) × ((new block).state ≡ HalfDead)) ⊎ (((old block).state ≡ HalfDead) × ((new block).state ≡ Deleted))
  pub others : (other : ℕ) → other ≢ block → (new other).state ≡ (old other).state

-- what an action of the pages' shape changes, if it is one of a call that was asked this
abbrev pub ShapeMoves : Ask → Option Effect → (ℕ → Node) → (ℕ → Node) → Type 0
ShapeMoves (AskInsert e) (Some Shape) old new = ClearsOneSplit old new
ShapeMoves AskCleanup (Some Shape) old new = DeletesOneLeaf old new
ShapeMoves ask effect old new = Unit {0}

-- a refusal has this cause, and so has the fault of a split that an insert leaves unfinished; that fault is
-- not that its entry or its key was there, nor that another session stands in the way
abbrev pub IsRefusedFor : (Fault → Type 0) → Answer → Type 0
IsRefusedFor Fails (Refused fault) = Fails fault
IsRefusedFor Fails (Added action (Some fault)) = Fails fault × (fault ≢ Exists) × ((row : Row) → fault ≢ KeyExists row) × ((block : ℕ) → fault ≢ Blocked block)
IsRefusedFor Fails answer = Unit {0}

-- The session's running call goes on. One action at most is appended, which is its own. The call is what the
-- answer makes of it, with the number of its Add, if it has one then. A refusal has its cause.
pub record CallContinues {S : Type 0} (g : Ghosts S) (session : ℕ) (move : Move) (answer : Answer) (old new : Moment S) : Type 0 where
  pub op : Op
  pub runs : slice_get old.slots session ≡ Some (Some op)
  pub number : ℕ
  pub call : Call
  pub is : IsRunningCall old.calls session number call
  pub effect : Option Effect
  pub added : Option ℕ
  pub comes : MayComeWith answer effect
  pub history_is : new.history ≡ old.history ++ acts_of number effect
  pub calls_is : new.calls ≡ slice_set old.calls number (record (becomes answer (length new.history) call) { added = added })
  pub shape : ShapeMoves call.ask effect (nodes_of (g.state old.store).pages) (nodes_of (g.state new.store).pages)
  pub caused : IsRefusedFor (MoveFails g move session call.ask op old new.store) answer

-- there are `count` actions, and all are durable
pub record AllAreDurable {S : Type 0} (g : Ghosts S) (count : ℕ) (old new : Moment S) : Type 0 where
  pub still : IsSameState g old new
  pub count_is : count ≡ length old.history
  pub durable : (g.backing new.store).durable ≡ count

-- What an event means by its answer. A session that runs nothing has no call to move: that is refused, and
-- nothing is changed. A flush answers the block of the page that it wrote: the changed page that waited
-- longest.
abbrev pub Means : {S : Type 0} → Ghosts S → Kind → Answer → Moment S → Moment S → Type 0
Means g (BeginsCall session request) Begun old new = CallIsBegun session request old new
Means g (BeginsCall session request) (Refused fault) old new = IsSameState g old new × EventFails g (BeginsCall session request) old new.store fault
Means g (BeginsCall session request) answer old new = ⊥
Means g (MovesCall session move) (Refused fault) old new =
    CallContinues g session move (Refused fault) old new
    ⊎ ((RunsOne old.slots session → ⊥) × IsSameState g old new × EventFails g (MovesCall session move) old new.store fault)
Means g (MovesCall session move) answer old new = CallContinues g session move answer old new
Means g (MaintainsStore Forces) (Forced count) old new = AllAreDurable g count old new
Means g (MaintainsStore Flushes) (Flushed block) old new = IsSameState g old new × (block ≡ slice_get (g.backing old.store).changed 0)
Means g (MaintainsStore Checkpoints) (Checkpointed count) old new = AllAreDurable g count old new
Means g (MaintainsStore upkeep) (Refused fault) old new = IsSameState g old new × EventFails g (MaintainsStore upkeep) old new.store fault
Means g (MaintainsStore upkeep) answer old new = ⊥

-- a number of actions that an answer gives as durable is at most this
abbrev pub IsDurable : ℕ → Answer → Type 0
IsDurable durable (Forced count) = count ≤ durable
IsDurable durable (Checkpointed count) = count ≤ durable
IsDurable durable answer = Unit {0}

-- an event of this kind with this answer: what it means, by a history and calls that explain the moment after
-- it
pub record EventMeans {S : Type 0} (g : Ghosts S) (start : Entry → Bool) (kind : Kind) (answer : Answer) (old new : Moment S) : Type 0 where
  pub means : Means g kind answer old new
  pub sets : new.sets ≡ old.sets
  -- the format stays: an index that is unique stays so
  pub format : (g.state new.store).format ≡ (g.state old.store).format
  pub explains : Explains g start new
