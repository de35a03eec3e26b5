-- What several proofs of this crate import, passed on from one place. Declares nothing.
pub use Rattle.std.proofs.lemmas.Bool.{and_parts, cases_Bool, cases_eq, cases_lt, eq-eqb, eqb-true, false≢true, leb-false, leb-true, ltb-false, ltb-true, ne_eqb, or_cases, or_parts, true≢false}
pub use Rattle.std.proofs.lemmas.List.{append-nil, append_cancel_left, drop-append-le, take-append-le, take_all, take_more}
pub use Rattle.std.specs.List.{list_any}
pub use Rattle.std.specs.Prelude.{if◌then◌else◌, nat_lt, unwrap_or}
pub use Rattle.index_model.proofs.Ascending.{AscendsPast-back, is_among-append, same_entry-self}
pub use Rattle.index_model.proofs.Histories.{contents_after-add, meets_later, there_before, there_now}
pub use Rattle.index_model.specs.Actions.{Action, Add, Effect, KeysDiffer, Remove, Shape, contents_after, is_there_after}
pub use Rattle.index_model.specs.Calls.{ActionsAreOwned, AddIsRight, Added as EndsAdded, AnswersRight, Ask, AskBulkDelete, AskCleanup, AskInsert, AskScan, Call, Failed, IsAdded, IsInsertAnswer}
pub use Rattle.index_model.specs.Calls.{IsOwned, MayAct, Meets, Running, end_of}
pub use Rattle.index_model.specs.Faults.{Circumstances, HasCause}
pub use Rattle.index_model.specs.Order.{IsAscending, is_among, same_entry}
pub use Rattle.index_model.specs.Row.{Row}
pub use Rattle.index_model.specs.declared.bound.Bound.{Bound}
pub use Rattle.index_model.specs.declared.entry.Entry.{Entry}
pub use Rattle.index_model.specs.declared.fault.Fault.{Fault}
pub use Rattle.index_model.specs.declared.fault.Fault.TheVariants.{BadLimits, BadRow, BadSuper, BadVersion, Blocked, DeviceTooSmall, Exists, IndexFull, Io, KeyExists, KeyTooLong, LogDamaged}
pub use Rattle.index_model.specs.declared.fault.Fault.TheVariants.{LogFull, NoFrame, NoMemory, NoSession, PageDamaged, SessionBusy, Stopped, TooTall, VacuumRunning}
pub use Rattle.index_model.specs.declared.format.Format.{Format}
pub use Rattle.page_codec.specs.declared.page.Page.{Page}
pub use Rattle.page_codec.specs.declared.page.PageState.{PageState}
pub use Rattle.page_codec.specs.declared.page.PageState.TheVariants.{Deleted, HalfDead, Live}
pub use Rattle.latch_table.specs.Holdings.{Holding, Table, excludes, has_pin, holding_excludes, holding_of, is_held_by_another, latches_exclude, others_exclude, pinned_blocks, pins_exclude}
pub use Rattle.page_action.specs.Causes.{causes_of_forced, count_apart, has_failed, is_at_end, nothing_wrong}
pub use Rattle.page_action.specs.Contents.{entry_on_live_leaf}
pub use Rattle.page_action.specs.Reuse.{IsFresh, began_after, is_deleted, is_deleted_page, is_deleted_state, is_reusable, others_began_after}
pub use Rattle.page_action.specs.States.{Backing, Continues, IsLater, State}
pub use Rattle.page_action.specs.declared.page_store.PageStore.{Ghosts}
pub use Rattle.tree_shape.specs.Chains.{FitsState, IsIn, IsRunOf, LeftContext, first_context, past, context_after}
pub use Rattle.tree_shape.specs.Nodes.{Node, links_of, node_from, nodes_of}
pub use Rattle.tree_shape.specs.Walks.{IsCoverOn, IsNoHigher, IsTrail, LeadsOn, bound_aim, entry_aim, frontier_aim, here, over, reached, step}
pub use Rattle.tree_acts.specs.Leaves.{IsLeafAt, LeafPagesStay, WasLeaf}
pub use Rattle.tree_acts.specs.Levels.{level_of, level_with, root_level}
pub use Rattle.tree_acts.specs.Lows.{HasLow, NoLowRises}
pub use Rattle.tree_acts.specs.StepEffects.{DeletesALeaf, FinishesASplit, IsInOrder, IsRaised, OthersRely, any_is_reusable, count_new, frames_for, fresh_block, is_incomplete, is_out_of_blocks}
pub use Rattle.tree_acts.specs.StepEffects.{lacks_room, level_in, sibling}
pub use Rattle.split_finish.specs.Targets.{FinishInvariant, FinishStands, OnlyTargetsAreIncomplete, targets_of}
pub use Rattle.split_finish.specs.declared.finish.FinishAt.{FinishAt}
pub use Rattle.split_finish.specs.declared.finish.FinishAt.TheVariants.{Down, Down as FinishDown, Link, Root, Start as FinishStart}
pub use Rattle.split_finish.specs.declared.finish.Target.{Target}
pub use Rattle.insert_split.specs.Inserts.{InsertStands, blocks_beside, blocks_halved, frames_at, images_at, splits_root_at, takes_block_at}
pub use Rattle.insert_split.specs.declared.insert.InsertAt.{InsertAt}
pub use Rattle.insert_split.specs.declared.insert.InsertAt.TheVariants.{Coming, Finishing}
pub use Rattle.insert_split.specs.declared.insert.Stage.TheVariants.{At, At as InsertsAt, Holding as Holds, Start, Start as InsertStart}
pub use Rattle.scan.specs.Scans.{LeafIsLive, ScanStands, leaf_pinned, waiting}
pub use Rattle.scan.specs.declared.steps.ScanOp.{ScanOp}
pub use Rattle.vacuum.specs.BulkDeletes.{IsGoingBack, block_if, has_dead, is_counted_out, is_full_count}
pub use Rattle.vacuum.specs.declared.steps.BulkDeleteOp.{BulkDeleteOp}
pub use Rattle.page_delete.specs.Parts.{PinnedLeafPagesStay}
pub use Rattle.page_delete.specs.declared.steps.CleanupAt.{CleanupAt}
pub use Rattle.page_delete.specs.declared.steps.CleanupAt.TheVariants.{Down as CleanupDown, Judge, Look, Start as CleanupStart, Unlink}
pub use Rattle.session_calls.proofs.Meanings.{IsSameCall, told_same}
pub use Rattle.session_calls.proofs.Meeting.{grown, other_row_is}
pub use Rattle.session_calls.proofs.Undisturbed.{idle_undisturbed, undisturbed}
pub use Rattle.session_calls.proofs.Vacuuming.{deletions_undisturbed}
pub use Rattle.session_calls.specs.BulkDeletions.{OpDeletions, SlotDeletions}
pub use Rattle.session_calls.specs.Due.{DueCountsDown, HasSteps, IsDueIn, IsServable, steps_for}
pub use Rattle.session_calls.specs.Following.{IsFitted, StepAlways, StepAnswerMeans, StepFollows}
pub use Rattle.session_calls.specs.Ops.{IsCaused, IsOfSets, IsScanSoFar, OpInvariant, RunsOn, ScanKind, StoppedAnswersFirst, asked_of, asks_bulk_delete, asks_vacuum, call_kind}
pub use Rattle.session_calls.specs.Ops.{causes_of_asked_next, causes_of_beginning, causes_of_requesting, causes_of_slot_stepped, causes_of_slot_stepped_any, causes_of_stepped, ends_call}
pub use Rattle.session_calls.specs.Ops.{is_bulk_delete, is_vacuum, no_call_begins, once_added, op_before, op_targets, ready_of, runs_bulk_delete, session_of, set_at}
pub use Rattle.session_calls.specs.Sessions.{AnswerMeans, AnswersEnd, AnswersNext, AnswersStep, BeginsBy, CallFits, GivesLess, IsAsked, IsBegun, IsIdle, IsStillBefore, KeepsBeforePins}
pub use Rattle.session_calls.specs.Sessions.{LeavesOwnIncomplete, Matches, MovesShape, NothingIsReady, OnlyOwnAreIncomplete, OnlyWritersAct, OpRuns, OwesLess, RefusalChangesNothing, RunsUntilLast}
pub use Rattle.session_calls.specs.Sessions.{SessionBegins, SessionEvent, SlotFits, SlotIs, StepHasLessLeft, act_count, add_after, after_request, after_slot, asks_cleanup, cycle_after, ended}
pub use Rattle.session_calls.specs.Sessions.{is_busy, leaf_of, let_go, no_call, noted, op_after_call, ready_count, slot_add, work_in, work_left}
pub use Rattle.session_calls.specs.Slots.{ChangesSlot, SlotBegins, SlotEnds, SlotGives, SlotSteps, has_call, is_of_sets, one_vacuums, session_to_begin, slot_has_call, slot_of, slot_vacuums}
pub use Rattle.session_calls.specs.TheoremCalls.{DeadSets, MayComeWith, acts_of, asked_by, becomes, begun_call}
pub use Rattle.session_calls.specs.declared.answer.Answer.{Answer}
pub use Rattle.session_calls.specs.declared.answer.Answer.TheVariants.{Added, Begun, Checkpointed, Done, Ended, Finished, Flushed, Forced, Gave, Going, Ready, Refused}
pub use Rattle.session_calls.specs.declared.op.Op.{Op}
pub use Rattle.session_calls.specs.declared.op.Op.TheVariants.{Bulk, Cleanup, Insert, Scan}
pub use Rattle.session_calls.specs.declared.request.Request.{Request}
pub use Rattle.session_calls.specs.declared.request.Request.TheVariants.{Bulk as ToBulk, Cleanup as ToCleanup, Insert as ToInsert, Scan as ToScan}
pub use Rattle.schedule.specs.Events.{AnswersBeginning, AnswersUpkeep, AreOf, CallIsFollowed, CallMoves, DoesOneAct, EventAlso, EventAlways, GrowsByOne, Happens, IsFlushed, IsOfSession, MayBegin}
pub use Rattle.schedule.specs.Events.{MovesOn, OthersStay, SameButForActs, Stays, StaysAsDue, StepIsFollowed, UpkeepAnswerMeans, UpkeepChanges, UpkeepIsDone, UpkeepIsDurable, causes_of_begun_at}
pub use Rattle.schedule.specs.Events.{causes_of_happening, causes_of_moving, causes_of_no_call, kept_answer, session_at}
pub use Rattle.schedule.specs.Making.{EachAlways, EventDoes, EventEffect, EventRuns, answers_after}
pub use Rattle.schedule.specs.MomentInvariants.{IsFreeSession, IsUnused, OneVacuums, SlotMatches, SlotRuns, here_at, here_with, one_is_bulk_delete, slot_is_bulk_delete}
pub use Rattle.schedule.specs.Spans.{BeginsNone, CallIsUnanswered, CallIsUnansweredAfterAll, CallsComeInTime, IsNotDeleted, IsStillDue, IsUnanswered, IsUnfailed, LeavesNoneIncomplete, LowsStay}
pub use Rattle.schedule.specs.Spans.{SplitsAreFinished, WorkIsSpent, goes_on, spends, steps_gone}
pub use Rattle.schedule.specs.Stands.{BeforeEach, BegunBulkDeletesWait, BulkDeletesWait, DoesNotFinish, HasLeaf, HasNotCome, NoneFinishes, NoneHasCome, ScansStandOnLeaves, StandsOn}
pub use Rattle.schedule.specs.TheoremCrashes.{ArePagesAfter, IsCrashSafe, KeepsHistory}
pub use Rattle.schedule.specs.TheoremEvents.{AllAreDurable, CallContinues, ClearsOneSplit, DeletesOneLeaf, IsDurable, IsRefusedFor, IsSameState, Means, ShapeMoves}
pub use Rattle.schedule.specs.TheoremKinds.{BeginsCall, Checkpoints, Flushes, Forces, GivesUp, Kind, MaintainsStore, Move, MovesCall, Steps, Takes, Upkeep, kind_of}
pub use Rattle.schedule.specs.TheoremMoments.{HasOneCall, IsRunningCall, Moment, RunsOne, StoreAndSlots, snapshot_of}
pub use Rattle.schedule.specs.TheoremRefusals.{BlocksCall, EventFails, HasNoBlock, IsHeldByAnother, MoveFails, Vacuums}
pub use Rattle.schedule.specs.TheoremRuns.{AreDurable, EventFollows, EventIsRun, Fits, ForEachHistory, IsRun, Ran, Runs}
pub use Rattle.schedule.specs.declared.event.Event.{Event}
