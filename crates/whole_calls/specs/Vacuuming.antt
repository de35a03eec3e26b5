-- A bulk delete or a cleanup that is run to its end, as a run of events.
use Rattle.std.specs.Prelude.{◌≡◌, ◌≢◌, ℕ, ◌+◌, Option, Some, None, Result, Ok, Err, List, [], ◌∷◌, ◌++◌, length}
use Rattle.index_model.specs.Actions.{Effect, Add, Remove, Shape}
use Rattle.index_model.specs.Calls.{Ask, AskBulkDelete, AskCleanup, Vacuumed}
use Rattle.index_model.specs.declared.entry.Entry.{Entry}
use Rattle.index_model.specs.declared.fault.Fault.{Fault}
use Rattle.index_model.specs.declared.fault.Fault.TheVariants.{NoSession}
use Rattle.index_model.specs.declared.stats.VacuumStats.{VacuumStats}
use Rattle.page_codec.specs.declared.page.PageState.TheVariants.{HalfDead}
use Rattle.page_action.specs.States.{State}
use Rattle.tree_acts.specs.Deletions.{state_in}
use Rattle.vacuum.specs.Counts.{IsCounted, entries_below, deleted_count}
use Rattle.page_delete.specs.Counts.{IsCleaned, AllIsCleaned, deleted_in}
use Rattle.page_delete.specs.Spares.{IsAlone, IsSparing, OnlyNeededStay}
use Rattle.session_calls.specs.Ops.{set_at}
use Rattle.session_calls.specs.TheoremCalls.{DeadSets}
use Rattle.session_calls.specs.Sessions.{ended, reusable_in}
use Rattle.session_calls.specs.declared.answer.Answer.{Answer}
use Rattle.session_calls.specs.declared.answer.Answer.TheVariants.{Going, Finished, Refused}
use Rattle.session_calls.specs.declared.op.Op.{Op}
use Rattle.session_calls.specs.declared.op.Op.TheVariants.{Insert, Scan, Bulk, Cleanup}
use Rattle.session_calls.specs.declared.request.Request.{Request}
use Rattle.session_calls.specs.declared.request.Request.TheVariants.{Bulk as ToBulk, Cleanup as ToCleanup}
use Rattle.schedule.specs.TheoremMoments.{Moment}
use Rattle.whole_calls.specs.Meanings.{acts_by, AreOwnEffects, first_call}

-- what a bulk delete or a cleanup answers that came to this
abbrev pub vacuum_result : Answer → Result VacuumStats Fault
vacuum_result (Finished stats) = Ok stats
vacuum_result (Refused fault) = Err fault
vacuum_result answer = Err NoSession

-- ... and what it came to
abbrev pub vacuum_outcome : Result VacuumStats Fault → Option Answer
vacuum_outcome (Ok stats) = Some (Finished stats)
vacuum_outcome (Err fault) = Some (Refused fault)

-- the entries that these effects remove
abbrev pub removed_of : List Effect → List Entry
removed_of [] = []
removed_of (Add e ∷ effects) = removed_of effects
removed_of (Remove es ∷ effects) = es ++ removed_of effects
removed_of (Shape ∷ effects) = removed_of effects

-- the actions of the bulk delete or cleanup that is asked for, one after the other, are its own; its call has
-- finished with these statistics
pub record IsVacuumed {S : Type 0} (session : ℕ) (request : Request) (stats : VacuumStats) (old new : Moment S) : Type 0 where
  pub effects : List Effect
  pub own : AreOwnEffects (first_call session request old) (length old.history) effects
  pub history_is : new.history ≡ old.history ++ acts_by (length old.calls) effects
  pub calls_is : new.calls ≡ old.calls ++ ended (first_call session request old) (Vacuumed stats) (length new.history) ∷ []

-- it has done the actions that it was asked for, so far
pub record IsVacuumedSoFar {S : Type 0} (session : ℕ) (request : Request) (old new : Moment S) : Type 0 where
  pub effects : List Effect
  pub own : AreOwnEffects (first_call session request old) (length old.history) effects
  pub history_is : new.history ≡ old.history ++ acts_by (length old.calls) effects

-- it has finished, or it was refused and is over
abbrev pub VacuumMeans : {S : Type 0} → ℕ → Request → Result VacuumStats Fault → Moment S → Moment S → Type 0
VacuumMeans session request (Ok stats) old new = IsVacuumed session request stats old new
VacuumMeans session request (Err fault) old new = IsVacuumedSoFar session request old new

-- the statistics tell how many pages are in use, how many of them are deleted, and how many of these may be
-- used again
pub record StatsCountPages (st : State) (stats : VacuumStats) : Type 0 where
  pub in_use : stats.num_pages ≡ length st.pages
  pub deleted : stats.pages_deleted ≡ deleted_count st (length st.pages)
  pub free : stats.pages_free ≡ reusable_in st

-- ... and that a bulk delete has deleted no page, and a cleanup removed no entry
abbrev pub StatsCountFor : Ask → State → VacuumStats → Type 0
StatsCountFor (AskBulkDelete dead) st stats = StatsCountPages st stats × (stats.pages_newly_deleted ≡ 0)
StatsCountFor AskCleanup st stats = StatsCountPages st stats × (stats.tuples_removed ≡ 0)
StatsCountFor ask st stats = ⊥

-- what is followed through the steps of a vacuum beside which nobody acts
pub data Followed : Type 0 where
  -- the entries that a bulk delete counts
  of_bulk_delete : Followed
  -- those that a cleanup counts, and the half-dead pages
  of_cleanup : Followed
  -- the pages that a cleanup deletes, beside `was` pages that were deleted before
  of_deleted : (was : ℕ) → Followed
  -- if nobody else holds a page, the empty leaves that a cleanup leaves
  of_leaves : Followed

-- such a vacuum runs, and what it has counted are the entries that it has left; a cleanup leaves no half-dead
-- page that it has passed, nor an empty leaf that might leave the tree, and has counted the pages that it has
-- deleted
abbrev pub IsCountedAs : Followed → DeadSets → State → Option Op → Type 0
IsCountedAs what sets st None = ⊥
IsCountedAs what sets st (Some (Insert op)) = ⊥
IsCountedAs what sets st (Some (Scan op)) = ⊥
IsCountedAs of_bulk_delete sets st (Some (Bulk set op)) = IsCounted (set_at sets set) st op
IsCountedAs of_cleanup sets st (Some (Bulk set op)) = ⊥
IsCountedAs (of_deleted was) sets st (Some (Bulk set op)) = ⊥
IsCountedAs of_leaves sets st (Some (Bulk set op)) = ⊥
IsCountedAs of_bulk_delete sets st (Some (Cleanup op)) = ⊥
IsCountedAs of_cleanup sets st (Some (Cleanup op)) = IsCleaned st op
IsCountedAs (of_deleted was) sets st (Some (Cleanup op)) = deleted_in st ≡ was + op.deleted
IsCountedAs of_leaves sets st (Some (Cleanup op)) = IsAlone st op.session × IsSparing st op

-- a bulk delete runs, and what it has counted are the entries that it has left
abbrev pub IsCountedIn : DeadSets → State → Option Op → Type 0
IsCountedIn sets st slot = IsCountedAs of_bulk_delete sets st slot

-- the statistics tell how many entries there are
abbrev pub StatsCountEntries : State → Result VacuumStats Fault → Type 0
StatsCountEntries st (Ok stats) = stats.num_index_tuples ≡ entries_below st.pages (length st.pages)
StatsCountEntries st (Err fault) = Unit {0}

-- ... and no half-dead page is left
abbrev pub StatsCountCleaned : State → Result VacuumStats Fault → Type 0
StatsCountCleaned st (Ok stats) = AllIsCleaned st stats.num_index_tuples
StatsCountCleaned st (Err fault) = Unit {0}

-- the statistics tell how many pages are deleted now, beside `was` pages that were deleted before
abbrev pub StatsCountDeleted : ℕ → State → Result VacuumStats Fault → Type 0
StatsCountDeleted was st (Ok stats) = deleted_in st ≡ was + stats.pages_newly_deleted
StatsCountDeleted was st (Err fault) = Unit {0}

-- no empty leaf is left that might leave the tree
abbrev pub ResultLeavesNeeded : State → Result VacuumStats Fault → Type 0
ResultLeavesNeeded st (Ok stats) = OnlyNeededStay st
ResultLeavesNeeded st (Err fault) = Unit {0}

-- what it tells at its end
abbrev pub StatsCountAs : Followed → State → Result VacuumStats Fault → Type 0
StatsCountAs of_bulk_delete st result = StatsCountEntries st result
StatsCountAs of_cleanup st result = StatsCountCleaned st result
StatsCountAs (of_deleted was) st result = StatsCountDeleted was st result
StatsCountAs of_leaves st result = ResultLeavesNeeded st result

-- if nobody else acts: a bulk delete or a cleanup that goes on counts on, also after a refusal that hasn't
-- ended it; and at its end it tells how many entries there are
abbrev pub CountsThrough : Followed → DeadSets → State → State → Option Op → Option Op → Answer → Type 0
CountsThrough what sets old new before after Going = IsCountedAs what sets old before → IsCountedAs what sets new after
CountsThrough what sets old new before after (Finished stats) = IsCountedAs what sets old before → StatsCountAs what new (Ok stats)
CountsThrough what sets old new before after (Refused fault) = after ≢ None → IsCountedAs what sets old before → IsCountedAs what sets new after
CountsThrough what sets old new before after answer = Unit {0}

-- a bulk delete or a cleanup that has begun has counted what it has left
abbrev pub BeginsToCount : Followed → DeadSets → State → Option Op → Result (Unit {0}) Fault → Type 0
BeginsToCount what sets new after (Ok begun) = IsCountedAs what sets new after
BeginsToCount what sets new after (Err fault) = Unit {0}

-- nobody else holds a page, and no page is half-dead
pub record IsUndisturbed (st : State) (session : ℕ) : Type 0 where
  pub alone : IsAlone st session
  pub none_dead : (block : ℕ) → state_in st block ≢ HalfDead

-- what may be followed from the beginning of what is asked for: of the leaves that a cleanup leaves only
-- if it is undisturbed
abbrev pub FollowsFrom : Followed → Request → State → ℕ → Type 0
FollowsFrom of_bulk_delete (ToBulk set) st session = Unit {0}
FollowsFrom of_cleanup ToCleanup st session = Unit {0}
FollowsFrom (of_deleted was) ToCleanup st session = was ≡ deleted_in st
FollowsFrom of_leaves ToCleanup st session = IsUndisturbed st session
FollowsFrom what request st session = ⊥
