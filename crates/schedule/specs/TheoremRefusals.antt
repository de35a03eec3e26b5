-- The theorem's words: why an event is refused.
use Rattle.std.specs.Prelude.{◌≡◌, ◌≢◌, ◌⊎◌, ℕ, ◌+◌, ◌<◌, ◌≤◌, true, Some, length, map, slice_get, slice_index}
use Rattle.index_model.specs.Calls.{Ask, AskInsert, AskScan, AskBulkDelete, AskCleanup, Call}
use Rattle.index_model.specs.declared.fault.Fault.{Fault}
use Rattle.index_model.specs.declared.fault.Fault.TheVariants.{Io, Stopped, Blocked, Exists, IndexFull, LogFull, NoFrame, VacuumRunning, NoSession, SessionBusy, TooTall, KeyExists}
use Rattle.latch_table.specs.Holdings.{Holding, Table, pinned_blocks}
use Rattle.page_action.specs.Contents.{entry_on_live_leaf}
use Rattle.page_action.specs.States.{State}
use Rattle.page_action.specs.declared.page_store.PageStore.{Ghosts}
use Rattle.page_codec.specs.declared.page.PageState.TheVariants.{Deleted}
use Rattle.tree_shape.specs.Chains.{IsIn}
use Rattle.tree_shape.specs.Nodes.{nodes_of}
use Rattle.session_calls.specs.TheoremCalls.{asked_by}
use Rattle.session_calls.specs.declared.op.Op.{Op}
use Rattle.session_calls.specs.declared.op.Op.TheVariants.{Insert, Scan, Bulk, Cleanup}
use Rattle.session_calls.specs.declared.request.Request.TheVariants.{Bulk as ToBulk}
use Rattle.schedule.specs.TheoremMoments.{Moment, RunsOne, IsRunningCall}
use Rattle.schedule.specs.TheoremKinds.{Move, Steps, Takes, Kind, BeginsCall, MovesCall, MaintainsStore}

-- what stands in the way of a call that was asked this: a latch of the block; of a bulk delete also a pin
abbrev pub BlocksCall : Ask → Holding → ℕ → Type 0
BlocksCall (AskBulkDelete dead) holding block = IsIn block (map (λ latch. latch.block) holding.latches) ⊎ IsIn block holding.pins
BlocksCall ask holding block = IsIn block (map (λ latch. latch.block) holding.latches)

-- what another session holds stands in the way
pub record IsHeldByAnother (table : Table) (session : ℕ) (ask : Ask) (block : ℕ) : Type 0 where
  pub other : ℕ
  pub apart : other ≢ session
  pub holding : Holding
  pub held : slice_get table other ≡ Some holding
  pub stands : BlocksCall ask holding block

-- no block is unused; to each deleted page a running call may still come, which began before the page was
-- deleted
pub record HasNoBlock (st : State) : Type 0 where
  pub used : st.format.pages ≤ length st.pages
  pub kept : (block : ℕ) → (nodes_of st.pages block).state ≡ Deleted
      → (session start : ℕ) × (slice_get st.running session ≡ Some (Some start)) × (start < slice_index st.counted block)

-- a count of a bulk delete or of a cleanup is at its end
abbrev pub HasFullCount : Op → Type 0
HasFullCount (Insert op) = ⊥
HasFullCount (Scan op) = ⊥
HasFullCount (Bulk set op) = (18446744073709551565 < op.left) ⊎ (18446744073709551565 < op.removed)
HasFullCount (Cleanup op) = (18446744073709551565 < op.left) ⊎ (op.cursor ≡ 4294967295) ⊎ (op.deleted ≡ 4294967295)

-- Why a call that was asked this is refused at a move, or leaves a split unfinished. At a step: a device call
-- failed in it; the log failed before, or a count is at its end; another session stands in the way; the entry
-- is there, or on a unique index another of its key, whose row the fault names; no block can be had; no more
-- than four images, the most that a step writes, are promised, and the log has no room for four; four pages,
-- the most that it looks at, may be more than the frames that are not pinned; the root is on level 31. Asking
-- for the next entry: the call is no scan.
abbrev pub MoveFails : {S : Type 0} → Ghosts S → Move → ℕ → Ask → Op → Moment S → S → Fault → Type 0
MoveFails g Steps session ask op old new Io = (g.backing old.store).failures < (g.backing new).failures
MoveFails g Steps session ask op old new Stopped =
    ((g.backing old.store).stopped ≡ true) ⊎ ((g.state old.store).acts ≡ 18446744073709551615) ⊎ HasFullCount op
MoveFails g Steps session ask op old new (Blocked block) = IsHeldByAnother (g.state old.store).table session ask block
MoveFails g Steps session (AskInsert e) op old new Exists = entry_on_live_leaf (g.state old.store).pages e ≡ true
MoveFails g Steps session (AskInsert e) op old new (KeyExists r) =
    ((g.state old.store).format.unique ≡ true) × (r ≢ e.row) × (entry_on_live_leaf (g.state old.store).pages (record { key = e.key; row = r }) ≡ true)
MoveFails g Steps session (AskInsert e) op old new IndexFull = HasNoBlock (g.state old.store)
MoveFails g Steps session (AskInsert e) op old new TooTall = 31 ≤ (nodes_of (g.state old.store).pages 0).level
MoveFails g Steps session (AskScan range) op old new LogFull = ⊥
MoveFails g Steps session ask op old new LogFull = ((g.backing old.store).promised ≤ 4) × ((g.backing new).room < 4)
MoveFails g Steps session ask op old new NoFrame = (g.state old.store).frames < 4 + length (pinned_blocks (g.state old.store).table)
MoveFails g Takes session (AskScan range) op old new NoSession = ⊥
MoveFails g Takes session ask op old new NoSession = Unit {0}
MoveFails g move session ask op old new fault = ⊥

-- a call that was asked this is a bulk delete or a cleanup: one at most runs
abbrev pub Vacuums : Ask → Type 0
Vacuums (AskInsert e) = ⊥
Vacuums (AskScan range) = ⊥
Vacuums (AskBulkDelete dead) = Unit {0}
Vacuums AskCleanup = Unit {0}

-- Why another event is refused. A beginning: the log failed before, or a count is at its end; there is no
-- such session, or no such set; the session runs a call; a bulk delete or a cleanup runs. A move of a session
-- that runs nothing: that, or the log failed before. What is done for the store: a device call failed in it,
-- or the log failed before.
abbrev pub EventFails : {S : Type 0} → Ghosts S → Kind → Moment S → S → Fault → Type 0
EventFails g (BeginsCall session request) old new Stopped =
    ((g.backing old.store).stopped ≡ true) ⊎ ((g.state old.store).begun ≡ 18446744073709551615)
EventFails g (BeginsCall session request) old new NoSession =
    (length old.slots ≤ session) ⊎ ((set : ℕ) × (request ≡ ToBulk set) × (length old.sets ≤ set))
EventFails g (BeginsCall session request) old new SessionBusy = RunsOne old.slots session
EventFails g (BeginsCall session request) old new VacuumRunning =
    Vacuums (asked_by old.sets request) × ((other number : ℕ) × (call : Call) × IsRunningCall old.calls other number call × Vacuums call.ask)
EventFails g (MovesCall session move) old new NoSession = Unit {0}
EventFails g (MovesCall session Steps) old new Stopped = (g.backing old.store).stopped ≡ true
EventFails g (MaintainsStore upkeep) old new Io = (g.backing old.store).failures < (g.backing new).failures
EventFails g (MaintainsStore upkeep) old new Stopped = (g.backing old.store).stopped ≡ true
EventFails g kind old new fault = ⊥
