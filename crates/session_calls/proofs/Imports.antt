-- What several proofs of this crate import, passed on from one place. Declares nothing.
pub use Rattle.std.proofs.lemmas.Bool.{and_parts, cases_Bool, cases_eq, eq-eqb, lt-ltb, or_cases}
pub use Rattle.std.proofs.lemmas.Bool.Decides.{eqb_tells}
pub use Rattle.std.proofs.lemmas.List.{append-nil, drop-append-le, drop_all, take_all}
pub use Rattle.std.proofs.lemmas.Option.{slice_get-get_or, slice_get-map}
pub use Rattle.std.specs.Prelude.{None, Some, if◌then◌else◌, nat_lt, slice_index, suc, unwrap_or, ◌==◌}
pub use Rattle.index_model.proofs.Ascending.{AscendsPast-append, AscendsPast-back, AscendsPast-from, AscendsPast-front, IsPast-trans, is_among-append, is_among-past, is_past-falls, last_or-append}
pub use Rattle.index_model.proofs.Ascending.{same_entry-is, same_entry-self, three_ways}
pub use Rattle.index_model.proofs.Histories.{at_some_moment_later, contents_after-append, gives_all_later, meets_later, there_before, there_now}
pub use Rattle.index_model.specs.Actions.{Action, Add, Effect, Remove, Shape, ThereAtSomeMoment, contents_after, is_there_after, said_of}
pub use Rattle.index_model.specs.Calls.{Added as EndsAdded, AnswersRight, Ask, AskBulkDelete, AskCleanup, AskInsert, AskScan, Call, Ending, Failed, Finished as EndsFinished, GivenUp, GivesOnly}
pub use Rattle.index_model.specs.Calls.{InsertMayFail, IsAdded, IsAddedIn, IsBulkDeleteAnswer, IsInsertAnswer, IsReached, IsScanAnswer, IsScanAnswerSoFar, IsUpToLast, Meets, Running, Vacuumed}
pub use Rattle.index_model.specs.Calls.{actions_between, end_of, removed_by}
pub use Rattle.index_model.specs.Faults.{Circumstances, HasCause}
pub use Rattle.index_model.specs.Order.{AscendsPast, IsAscending, IsPast, bound_of, is_among, is_past, last_or, same_entry}
pub use Rattle.index_model.specs.Range.{below_admits, from_admits, matches, start_of}
pub use Rattle.index_model.specs.Row.{Row}
pub use Rattle.index_model.specs.declared.bound.Bound.{Bound}
pub use Rattle.index_model.specs.declared.entry.Entry.{Entry}
pub use Rattle.index_model.specs.declared.fault.Fault.{Fault}
pub use Rattle.index_model.specs.declared.fault.Fault.TheVariants.{BadLimits, BadRow, BadSuper, BadVersion, Blocked, DeviceTooSmall, Exists, IndexFull, Io, KeyExists, KeyTooLong, LogDamaged}
pub use Rattle.index_model.specs.declared.fault.Fault.TheVariants.{LogFull, NoFrame, NoMemory, NoSession, PageDamaged, SessionBusy, Stopped, TooTall, VacuumRunning}
pub use Rattle.index_model.specs.declared.range.Range.{Range}
pub use Rattle.index_model.specs.declared.stats.VacuumStats.{VacuumStats}
pub use Rattle.page_codec.specs.declared.page.Page.{Page}
pub use Rattle.page_action.specs.Causes.{nothing_wrong, other_row_is_there, with_row}
pub use Rattle.page_action.specs.Contents.{entry_on_live_leaf}
pub use Rattle.page_action.specs.States.{Backing, Continues, State, after_begin, after_end, after_start_cycle, after_stop_cycle, next_cycle, with_table}
pub use Rattle.tree_acts.proofs.Lows.{lows_same}
pub use Rattle.tree_acts.specs.Deletions.{OneLeafDies, OneLeafIsDeleted, OneStateMoves, StartsAreBelow}
pub use Rattle.tree_acts.specs.Leaves.{IsAddedBy, IsLeafAt, LeafPagesStay, WasLeaf}
pub use Rattle.tree_acts.specs.Levels.{root_level}
pub use Rattle.tree_acts.specs.StepEffects.{CleanupEffect, DeletesLeaves, IsInOrder, IsOneActAtMost, IsRaised, MayRely, MovesFlags, NumbersStay, OthersRely, StepEffect, causes_of_writing_any}
pub use Rattle.tree_acts.specs.StepEffects.{is_out_of_blocks, level_in}
pub use Rattle.tree_acts.specs.Steps.{HasEffect}
pub use Rattle.tree_acts.specs.Trees.{HasCover, HasTree, IsStart}
pub use Rattle.tree_acts.specs.Ways.{NoneIsIncomplete}
pub use Rattle.descent.proofs.Acting.{nothing_else}
pub use Rattle.insert_split.proofs.Lasting.{bounded as insert_bounded, undisturbed as insert_undisturbed}
pub use Rattle.insert_split.specs.Inserts.{AnswersStopped as InsertAnswersStopped, InsertContinues, InsertEnds, InsertInvariant, InsertStays, IsLeft, IsNoted, IsToCome, causes_of_inserting}
pub use Rattle.insert_split.specs.Inserts.{splits_root_at, takes_block_at}
pub use Rattle.insert_split.specs.Turns.{IsRefusedRightly, is_blocked}
pub use Rattle.insert_split.specs.declared.insert.InsertOp.{InsertOp}
pub use Rattle.scan.proofs.Lasting.{bounded as scan_bounded, undisturbed as scan_undisturbed}
pub use Rattle.scan.specs.Scans.{IsAfter, IsDone, IsMoving, IsNext, IsReading, IsUnderway, IsWaiting, LeafIsRead, ScanInvariant, ScanWaits, moved_to, waiting}
pub use Rattle.scan.specs.declared.steps.ScanAt.{ScanAt}
pub use Rattle.scan.specs.declared.steps.ScanAt.TheVariants.{At, At as ScanReads, Last, Start, Start as ScanStart}
pub use Rattle.scan.specs.declared.steps.ScanOp.{ScanOp}
pub use Rattle.vacuum.proofs.Lasting.{all_to_come, due_undisturbed, undisturbed as bulk_undisturbed}
pub use Rattle.vacuum.specs.BulkDeletes.{BulkDeleteContinues, BulkDeleteEnds, BulkDeleteStays, IsDueOf, causes_of_deleting, dead_at, removes}
pub use Rattle.vacuum.specs.Counts.{IsCounted, entries_below, free_count, stats_of}
pub use Rattle.vacuum.specs.declared.steps.BulkDeleteOp.{BulkDeleteOp}
pub use Rattle.page_delete.proofs.Lasting.{cleanups_bounded, undisturbed as cleanup_undisturbed}
pub use Rattle.page_delete.specs.Counts.{AllIsCleaned, IsCleaned}
pub use Rattle.page_delete.specs.Parts.{PinnedLeafPagesStay}
pub use Rattle.page_delete.specs.declared.steps.CleanupOp.{CleanupOp}
pub use Rattle.session_calls.specs.BulkDeletions.{IsBulkDeleteSoFar, IsDue, OpDeletions, SlotDeletions}
pub use Rattle.session_calls.specs.Due.{DueCountsDown, HasSteps, InsertIsDue, IsDueIn, IsHindered, IsKeyAbsent, IsServable, ScanIsDue, steps_for}
pub use Rattle.session_calls.specs.Ops.{AnswersLogged, BulkKind, CallKind, CleanupKind, InsertKind, IsCaused, IsFaultCaused, IsOfSets, IsScanSoFar, OpInvariant, OpKnows, RunsOn, ScanKind}
pub use Rattle.session_calls.specs.Ops.{StoppedAnswersFirst, add_of, asked_of, asks_bulk_delete, asks_vacuum, call_kind, causes_of_asked_next, causes_of_stepped, causes_of_stepped_any, ends_call}
pub use Rattle.session_calls.specs.Ops.{is_bulk_delete, is_last, is_vacuum, once_added, op_before, runs_bulk_delete, session_of, set_at}
pub use Rattle.session_calls.specs.Sessions.{AnswerMeans, AnswersStep, BeginsBy, CallEffect, CallFits, CountsAllCleaned, CountsAllEntries, CountsEntries, CountsFree, CountsPages, CountsStats}
pub use Rattle.session_calls.specs.Sessions.{HasStarted, HoldsOn, IsAsked, IsIdle, KeepsBeforePins, LeavesOwnIncomplete, Matches, MovesShape, OnlyBecomes, OnlyNeededAreLeft, OnlyOwnAreIncomplete}
pub use Rattle.session_calls.specs.Sessions.{OnlyWritersAct, OpEvent, OpRuns, OpSteps, RunsUntilLast, SessionBegins, SessionEvent, SlotFits, SlotIsCounted, SparesLeaves, StandsByAnswer}
pub use Rattle.session_calls.specs.Sessions.{StandsOnLeaf, WaitsToGive, act_count, add_after, after_request, asks_cleanup, cycle_after, ended, given_one, let_go, noted, op_after_call}
pub use Rattle.session_calls.specs.Sessions.{reusable_count, reusable_in, slot_after, start_number, work_in, work_left}
pub use Rattle.session_calls.specs.Slots.{one_vacuums, session_to_begin, slot_has_call}
pub use Rattle.session_calls.specs.TheoremCalls.{DeadSets, acts_of, asked_by, begun_call}
pub use Rattle.session_calls.specs.Undisturbed.{CallsAreUndisturbed, DeletionsAreUndisturbed}
pub use Rattle.session_calls.specs.declared.answer.Answer.{Answer}
pub use Rattle.session_calls.specs.declared.answer.Answer.TheVariants.{Added, Begun, Checkpointed, Done, Ended, Finished, Flushed, Forced, Gave, Going, Ready, Refused}
pub use Rattle.session_calls.specs.declared.op.Op.{Op}
pub use Rattle.session_calls.specs.declared.op.Op.TheVariants.{Bulk, Cleanup, Insert, Scan}
