-- What several proofs of this crate import, passed on from one place. Declares nothing.
pub use Rattle.session_calls.proofs.Lists.{get_append_new, get_set_other, get_set_same}
pub use Rattle.std.proofs.lemmas.Bool.{cases_eq, cases_lt, eq-eqb, eqb-true, leb-true, lt-ltb, ltb-true, ne_eqb, or_cases, or_left, or_right}
pub use Rattle.std.proofs.lemmas.List.{length-replicate, take_all, take_at}
pub use Rattle.std.proofs.lemmas.Option.{slice_get_within}
pub use Rattle.std.specs.Prelude.{Bool, IfErr, IfOk, IsOk, List, OnOk, [], false, is_none, true, unwrap_or, ℕ, ◌||◌}
pub use Rattle.index_model.proofs.Histories.{contents_after-add, contents_after-append, there_before, there_now}
pub use Rattle.index_model.specs.Actions.{Action, Add, Effect, KeysDiffer, Remove, Shape, ThereAtSomeMoment, contents_after, is_there_after, last_said, later_or, said_of}
pub use Rattle.index_model.specs.Calls.{AnswersRight, Ask, AskBulkDelete, AskCleanup, AskInsert, AskScan, Call, Ending, Failed, Finished as EndsFinished, InsertMayFail, IsAddedIn}
pub use Rattle.index_model.specs.Calls.{IsBulkDeleteAnswer, IsScanAnswer, IsScanAnswerSoFar, Meets, Running, Vacuumed, actions_between, end_of, removed_by}
pub use Rattle.index_model.specs.Faults.{HasCause}
pub use Rattle.index_model.specs.Order.{is_among, same_entry}
pub use Rattle.index_model.specs.Row.{Row}
pub use Rattle.index_model.specs.declared.entry.Entry.{Entry}
pub use Rattle.index_model.specs.declared.fault.Fault.{Fault}
pub use Rattle.index_model.specs.declared.fault.Fault.TheVariants.{BadLimits, BadRow, BadSuper, BadVersion, Blocked, DeviceTooSmall, Exists, IndexFull, Io, KeyExists, KeyTooLong, LogDamaged}
pub use Rattle.index_model.specs.declared.fault.Fault.TheVariants.{LogFull, NoFrame, NoMemory, NoSession, PageDamaged, SessionBusy, Stopped, TooTall, VacuumRunning}
pub use Rattle.index_model.specs.declared.format.Format.{Format}
pub use Rattle.index_model.specs.declared.range.Range.{Range}
pub use Rattle.index_model.specs.declared.stats.VacuumStats.{VacuumStats}
pub use Rattle.vacuum.specs.declared.steps.BulkDeleteOp.{BulkDeleteOp}
pub use Rattle.device.specs.Disk.{MayCrashTo, Trace}
pub use Rattle.page_action.specs.Causes.{causes_of_forced, has_failed, is_at_end, nothing_wrong, other_row_is_there, with_row}
pub use Rattle.page_action.specs.States.{Backing, State}
pub use Rattle.page_action.specs.declared.page_store.PageStore.{Ghosts}
pub use Rattle.page_store.specs.Stores.{device_of, held_by, state_of}
pub use Rattle.recovery.specs.Index.{HasIndex}
pub use Rattle.session_calls.specs.Ops.{IsFaultCaused, RunsOn, is_vacuum}
pub use Rattle.session_calls.specs.Sessions.{ended, given_one, is_busy}
pub use Rattle.session_calls.specs.Slots.{one_vacuums, slot_of, slot_vacuums}
pub use Rattle.session_calls.specs.TheoremCalls.{DeadSets, begun_call}
pub use Rattle.session_calls.specs.declared.answer.Answer.{Answer}
pub use Rattle.session_calls.specs.declared.answer.Answer.TheVariants.{Added, Begun, Checkpointed, Done, Ended, Finished, Flushed, Forced, Gave, Going, Ready, Refused}
pub use Rattle.session_calls.specs.declared.op.Op.{Op}
pub use Rattle.session_calls.specs.declared.op.Op.TheVariants.{Bulk, Cleanup, Insert, Scan}
pub use Rattle.session_calls.specs.declared.request.Request.TheVariants.{Bulk as ToBulk, Cleanup as ToCleanup, Insert as ToInsert, Scan as ToScan}
pub use Rattle.schedule.proofs.Lists.{get_some, same_some}
pub use Rattle.schedule.proofs.Running.{makes_runs}
pub use Rattle.schedule.proofs.Unused.{empty_at, fits_with, in_replicate, no_set_runs, unused_fits, unused_keeps}
pub use Rattle.schedule.specs.Events.{AnswersUpkeep, IsOfSession, OthersStay, StoreIsKept, causes_of_begun_at, kept_answer}
pub use Rattle.schedule.specs.MomentInvariants.{IsFreeSession, IsUnused, here_with}
pub use Rattle.schedule.specs.TheoremKinds.{Checkpoints, Flushes, Forces, Kind, MaintainsStore, Upkeep, kind_of}
pub use Rattle.schedule.specs.TheoremMoments.{Moment, StoreAndSlots, snapshot_of}
pub use Rattle.schedule.specs.TheoremRuns.{Fits, ForEachHistory, IsRun, Runs}
pub use Rattle.schedule.specs.declared.event.Event.{Event}
pub use Rattle.schedule.specs.declared.event.Event.TheVariants.{Checkpoint, Force}
pub use Rattle.whole_calls.proofs.Composing.{goes_by, goes_then}
pub use Rattle.whole_calls.proofs.Refusing.{others_idle}
pub use Rattle.whole_calls.proofs.Tellings.{keeps_silent, runs_has_call}
pub use Rattle.whole_calls.specs.Going.{CallIsRun, CallRuns}
pub use Rattle.whole_calls.specs.Inserting.{InsertIsRun}
pub use Rattle.whole_calls.specs.Meanings.{AreOwnEffects, BeginMeans, EndMeans, InsertMeans, IsSameHistory, acts_by, first_call, inserted_call, shapes}
pub use Rattle.whole_calls.specs.Refusing.{InsertCallIsCaused, another_runs, causes_of_called, causes_of_gone, causes_of_inserted, is_tall}
pub use Rattle.whole_calls.specs.Vacuuming.{StatsCountCleaned, StatsCountDeleted, StatsCountEntries, StatsCountPages, VacuumMeans, removed_of, vacuum_outcome}
pub use Rattle.whole_calls.specs.declared.inserted.Inserted.{Inserted}
pub use Rattle.world.proofs.Leaving.{left_index}
pub use Rattle.access_method.specs.Indexes.{AnswersScan, IndexFits, IndexKeeps, InsertsOrKeeps, IsBulkDeletedOrLess, IsCleanedUp, RescanMeans, has_entry, slots_with, slots_within}
pub use Rattle.access_method.specs.Refusals.{InsertHasCause, InsertsUnhindered, IsForWantOfSpace, IsOfSpace, NothingHinders, causes_of_aminsert, causes_of_run, causes_of_vacuum}
pub use Rattle.access_method.specs.Refusals.{none_is_left}
pub use Rattle.access_method.specs.Tokens.{IsVacuumSeat, NoVacuumIsOpen, SeatsAgree, seat_for, sitter_of}
pub use Rattle.access_method.specs.declared.index.Index.{Index}
