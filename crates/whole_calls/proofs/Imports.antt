-- What several proofs of this crate import, passed on from one place. Declares nothing.
pub use Rattle.std.proofs.lemmas.Bool.{and_parts, cases_eq, eq-eqb, eqb-true, false≢true, le-leb, leb-true, lt-ltb, ltb-false, ltb-true, ne_eqb, or_cases}
pub use Rattle.std.proofs.lemmas.List.{append-nil, take_at}
pub use Rattle.index_model.specs.Actions.{Action, Add, Effect, Remove, Shape, contents_after}
pub use Rattle.index_model.specs.Calls.{ActionsAreOwned, Added as EndsAdded, AnswersRight, Ask, AskBulkDelete, AskCleanup, AskInsert, AskScan, Call, Ending, Failed, Finished as EndsFinished}
pub use Rattle.index_model.specs.Calls.{GivenUp, MayAct, Meets, Running, Vacuumed, end_of, removed_by, removed_count}
pub use Rattle.index_model.specs.Faults.{Circumstances, HasCause}
pub use Rattle.index_model.specs.Limits.{AreLimits}
pub use Rattle.index_model.specs.Row.{Row}
pub use Rattle.index_model.specs.declared.entry.Entry.{Entry}
pub use Rattle.index_model.specs.declared.fault.Fault.{Fault}
pub use Rattle.index_model.specs.declared.fault.Fault.TheVariants.{BadLimits, BadRow, BadSuper, BadVersion, Blocked, DeviceTooSmall, Exists, IndexFull, Io, KeyExists, KeyTooLong, LogDamaged}
pub use Rattle.index_model.specs.declared.fault.Fault.TheVariants.{LogFull, NoFrame, NoSession, PageDamaged, SessionBusy, Stopped, TooTall, VacuumRunning}
pub use Rattle.index_model.specs.declared.format.Format.{Format}
pub use Rattle.index_model.specs.declared.range.Range.{Range}
pub use Rattle.index_model.specs.declared.stats.VacuumStats.{VacuumStats}
pub use Rattle.page_codec.specs.declared.page.Page.{Page}
pub use Rattle.page_codec.specs.declared.page.PageState.TheVariants.{Deleted, HalfDead, Live}
pub use Rattle.page_action.specs.Causes.{causes_of_forced, count_apart, has_failed, is_at_end, nothing_wrong, other_row_is_there, pinned_blocks}
pub use Rattle.page_action.specs.Contents.{entry_on_live_leaf, is_on, live_entries}
pub use Rattle.page_action.specs.Reuse.{is_deleted, is_reusable, others_began_after}
pub use Rattle.page_action.specs.States.{Backing, Continues, IsLater, State}
pub use Rattle.page_action.specs.declared.page_store.PageStore.{Ghosts}
pub use Rattle.tree_shape.specs.Nodes.{Node, nodes_of}
pub use Rattle.tree_acts.specs.StepEffects.{IsInOrder, MovesFlags, OthersRely, any_is_reusable, count_new, frames_for, is_out_of_blocks, lacks_room}
pub use Rattle.insert_split.specs.declared.insert.InsertOp.{InsertOp}
pub use Rattle.vacuum.specs.BulkDeletes.{BulkDeleteInvariant, block_if, causes_of_deleting, has_dead, is_counted_out, is_full_count}
pub use Rattle.vacuum.specs.Counts.{deleted_count, entries_below, entry_count}
pub use Rattle.vacuum.specs.declared.steps.BulkDeleteOp.{BulkDeleteOp}
pub use Rattle.page_delete.proofs.Tallying.{deleted_alike}
pub use Rattle.page_delete.specs.Counts.{AllIsCleaned, come_to, deleted_in}
pub use Rattle.page_delete.specs.Ops.{cleanup_counted_out as is_cleanup_full, is_last_number}
pub use Rattle.page_delete.specs.Spares.{IsAlone, OnlyNeededStay}
pub use Rattle.page_delete.specs.declared.steps.CleanupOp.{CleanupOp}
pub use Rattle.session_calls.proofs.RunningOn.{runs_on_same, runs_on_then, runs_over}
pub use Rattle.session_calls.specs.Ops.{IsCaused, OpInvariant, RunsOn, add_of, asked_of, asks_bulk_delete, asks_vacuum, call_kind, causes_of_stepped, ends_call, is_bulk_delete, is_last}
pub use Rattle.session_calls.specs.Ops.{once_added, op_before, session_of, set_at}
pub use Rattle.session_calls.specs.Sessions.{AnswerMeans, AnswersEnd, AnswersNext, AnswersStep, CountsEntries, CountsFree, CountsPages, CountsStats, IncompleteChangesNothing, IsAsked, MayDo}
pub use Rattle.session_calls.specs.Sessions.{MovesShape, OwesLess, RefusalChangesNothing, RunsUntilLast, SparesLeaves, StepIsRefused, act_count, add_after, after_request, after_slot, ended}
pub use Rattle.session_calls.specs.Sessions.{given_one, is_busy, let_go, noted, op_after_call, reusable_in, slot_add, start_number, work_in}
pub use Rattle.session_calls.specs.Slots.{has_call, is_of_sets, one_vacuums, slot_of}
pub use Rattle.session_calls.specs.TheoremCalls.{DeadSets, acts_of, asked_by}
pub use Rattle.session_calls.specs.declared.answer.Answer.{Answer}
pub use Rattle.session_calls.specs.declared.answer.Answer.TheVariants.{Added, Begun, Checkpointed, Done, Ended, Finished, Gave, Going, Ready, Refused}
pub use Rattle.session_calls.specs.declared.op.Op.{Op}
pub use Rattle.session_calls.specs.declared.op.Op.TheVariants.{Bulk, Bulk as Bulks, Cleanup, Cleanup as Cleanups, Insert, Insert as Inserts, Scan, Scan as Scans}
pub use Rattle.session_calls.specs.declared.request.Request.{Request}
pub use Rattle.session_calls.specs.declared.request.Request.TheVariants.{Bulk as ToBulk, Cleanup as ToCleanup, Insert as ToInsert, Scan as ToScan}
pub use Rattle.schedule.proofs.Bounds.{work_bounded}
pub use Rattle.schedule.proofs.Fitting.{beyond_of, fits_after, goes_does, running_of}
pub use Rattle.schedule.proofs.Joining.{are_of_both, ran_then}
pub use Rattle.schedule.proofs.Keeping.{Laws}
pub use Rattle.schedule.proofs.Lists.{get_append_cases, get_append_new, get_append_some, get_set_other, get_set_same, get_some, get_within, same_some}
pub use Rattle.schedule.proofs.Standing.{slot_found}
pub use Rattle.schedule.specs.Events.{AnswersBeginning, AnswersMove, AnswersUpkeep, CallBegins, CallMoves, DoesOneAct, IsOf, IsOfSession, MayBegin, MovesOn, OthersStay, Stays, causes_of_begun_at}
pub use Rattle.schedule.specs.Events.{causes_of_moving}
pub use Rattle.schedule.specs.Making.{EventDoes, EventEffect}
pub use Rattle.schedule.specs.MomentInvariants.{SlotMatches, SlotRuns, here_at, here_with}
pub use Rattle.schedule.specs.Sessions.{here}
pub use Rattle.schedule.specs.TheoremKinds.{BeginsCall, Checkpoints, GivesUp, Kind, MaintainsStore, Move, MovesCall, Steps, Takes, Upkeep, kind_of}
pub use Rattle.schedule.specs.TheoremMoments.{IsRunningCall, Moment, StoreAndSlots, snapshot_of}
pub use Rattle.schedule.specs.TheoremRuns.{EventIsRun, Fits, ForEachHistory, Runs}
pub use Rattle.schedule.specs.declared.event.Event.{Event}
pub use Rattle.schedule.specs.declared.event.Event.TheVariants.{Bulk as BulkEvent, Checkpoint, Cleanup as CleanupEvent, End, Insert as InsertEvent, Next, Scan as ScanEvent, Step}
pub use Rattle.whole_calls.specs.Giving.{AnswersSeek, Becomes, GivenMeans, LessIsLeft, ScanIsUnanswered, SessionGivenMeans, SessionScanMeans, given_of, given_outcome}
pub use Rattle.whole_calls.specs.Going.{CallIsRun, CallIsRunFrom, CallRuns, IsAmong, IsOutcomeOf}
pub use Rattle.whole_calls.specs.Made.{Answered, AreMade, ComesTo, HasItsRoom, InsertComesTo, IsMadeOf, StepComesTo}
pub use Rattle.whole_calls.specs.Meanings.{AreOwnEffects, BeginMeans, CallAnswers, EndMeans, HasBegun, HasContinued, HasNone, HasRunSoFar, InsertMeans, IsAddedNow, IsNotAdded, IsOwnEffect}
pub use Rattle.whole_calls.specs.Meanings.{IsSameHistory, MayAnswer, MayComeTo, NextMeans, NothingIsDone, RoomIsMade, SessionStepMeans, StepMeans, acts_by, begin_outcome, begun_of, first_call}
pub use Rattle.whole_calls.specs.Meanings.{inserted_call, outcome_at_fault, noted_after, outcome_of, shapes, with_one_call}
pub use Rattle.whole_calls.specs.OneStep.{HasStepped, IsGivenUpFor, IsMadeAsStep, IsRoomTried, IsStepMade, OneStepAlways, OneStepComesTo, OneStepIsRun, cut_short}
pub use Rattle.whole_calls.specs.Refusing.{InsertCallIsCaused, ScanIsCaused, another_runs, causes_of_asked, causes_of_called, causes_of_gone, causes_of_inserted, has_no_block, is_full_vacuum}
pub use Rattle.whole_calls.specs.Refusing.{is_tall, others_run, with_number}
pub use Rattle.whole_calls.specs.Spending.{TakesFewer, acts_left, brought_by, steps_left}
pub use Rattle.whole_calls.specs.Stepping.{BeginIsRun, FinishCounts, FinishIsRun, HasCompleted, HasReached, Lasts, RequestIsRun, RoomMeans, ScanGivesNothing, ScanIsRun, StepIsRun}
pub use Rattle.whole_calls.specs.Vacuuming.{BeginsToCount, CountsThrough, Followed, FollowsFrom, IsCountedAs, IsCountedIn, IsVacuumed, IsVacuumedSoFar, StatsCountAs, StatsCountFor}
pub use Rattle.whole_calls.specs.Vacuuming.{StatsCountPages, VacuumMeans, of_bulk_delete, of_cleanup, of_deleted, of_leaves, removed_of, vacuum_outcome, vacuum_result}
