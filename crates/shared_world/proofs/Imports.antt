-- What several proofs of this crate import, passed on from one place. Declares nothing.
pub use Rattle.std.proofs.Math.Logic.{∥∥₁_map}
pub use Rattle.std.proofs.lemmas.Bool.Decides.{nat_tests}
pub use Rattle.std.proofs.lemmas.List.{append-nil, length-map}
pub use Rattle.std.proofs.lemmas.Option.{slice_get_read}
pub use Rattle.std.specs.List.{AllByRecursion}
pub use Rattle.index_model.proofs.Histories.{at_some_moment_later}
pub use Rattle.index_model.specs.Actions.{Action, Effect, ThereAtSomeMoment}
pub use Rattle.index_model.specs.Calls.{AskScan, Call, Running}
pub use Rattle.index_model.specs.Faults.{HasCause}
pub use Rattle.index_model.specs.declared.dead_rows.DeadRows.{Ghosts as SetGhosts}
pub use Rattle.index_model.specs.declared.entry.Entry.{Entry}
pub use Rattle.index_model.specs.declared.fault.Fault.{Fault}
pub use Rattle.index_model.specs.declared.fault.Fault.TheVariants.{Blocked, NoSession}
pub use Rattle.page_action.specs.States.{Backing, Continues, IsLater, State}
pub use Rattle.page_action.specs.declared.page_store.PageStore.{Ghosts}
pub use Rattle.session_calls.specs.Ops.{IsCaused, ends_call, is_last}
pub use Rattle.session_calls.specs.Sessions.{AnswerMeans, AnswersEnd, AnswersStep, GivesLess, RunsUntilLast, act_count, is_busy, ready_count, slot_add}
pub use Rattle.session_calls.specs.Slots.{has_call, one_vacuums, slot_has_call, slot_of}
pub use Rattle.session_calls.specs.TheoremCalls.{DeadSets, acts_of, asked_by, begun_call}
pub use Rattle.session_calls.specs.declared.answer.Answer.{Answer}
pub use Rattle.session_calls.specs.declared.answer.Answer.TheVariants.{Added, Begun, Checkpointed, Done, Ended, Finished, Flushed, Forced, Gave, Going, Ready, Refused}
pub use Rattle.session_calls.specs.declared.op.Op.{Op}
pub use Rattle.session_calls.specs.declared.op.Op.TheVariants.{Bulk as Bulks, Cleanup as Cleanups, Insert as Inserts, Scan as Scans}
pub use Rattle.session_calls.specs.declared.request.Request.{Request}
pub use Rattle.schedule.proofs.Fitting.{goes_does}
pub use Rattle.schedule.specs.CallLists.{OneCallRuns, RefusedCallsFit, refused_call}
pub use Rattle.schedule.specs.Events.{AnswersBeginning, AnswersEvent, AnswersUpkeep, CallMoves, EventAlways, MovesOn, OthersStay, Stays, UpkeepIsDone, causes_of_begun_at, kept_answer}
pub use Rattle.schedule.specs.Making.{EventDoes, EventEffect}
pub use Rattle.schedule.specs.TheoremCrashes.{KeepsHistory}
pub use Rattle.schedule.specs.TheoremKinds.{BeginsCall, Checkpoints, Flushes, Forces, GivesUp, Kind, MaintainsStore, Move, MovesCall, Takes, Upkeep, kind_of}
pub use Rattle.schedule.specs.TheoremMoments.{IsRunningCall, Moment, StoreAndSlots, snapshot_of}
pub use Rattle.schedule.specs.TheoremRuns.{EventFollows, Fits, ForEachHistory}
pub use Rattle.schedule.specs.declared.event.Event.{Event}
pub use Rattle.schedule.specs.declared.event.Event.TheVariants.{Checkpoint, End, Next, Step}
pub use Rattle.whole_calls.proofs.Tellings.{begins_told, keeps_silent, one_runs, runs_has_call, runs_in_slot}
pub use Rattle.whole_calls.specs.OneStep.{HasStepped, IsGivenUpFor, IsMadeAsStep, OneStepAlways, OneStepIsRun, cut_short}
pub use Rattle.world.specs.Worlds.{SameSessions, inside}
pub use Rattle.world.specs.declared.world.World.{World}
pub use Rattle.shared_world.specs.Handed.{ComesOf, Handed, IsAsHanded, StillFollows}
pub use Rattle.shared_world.specs.Transitions.{IsPath, LockMoment, OfRecord, OfSession, Owner, Transition, gifts_of, is_owner, owned_by}
pub use Rattle.session_seats.specs.Calls.{gift_of}
pub use Rattle.session_seats.specs.declared.job.Job.{Job}
pub use Rattle.session_seats.specs.declared.job.Job.TheVariants.{Scan}
pub use Rattle.shared_world.specs.Acted.{AreOfPending, AreOfRecord, AreOfRunning, EndsCall, HasActed, IsKnown, KeepsRunning, MayBeLeft}
pub use Rattle.shared_world.specs.Doing.{IsEventDone, given_after}
pub use Rattle.shared_world.specs.Jobs.{IsBelowRoom, IsWithinRoom, begins, event_of, request_of, upkeep_of}
pub use Rattle.shared_world.proofs.Words.{CallFollows, HasEndedBy, IsBlocked, Lists}
pub use Rattle.shared_world.specs.Kept.{IsInTime, WasLeft, IsOurs, IsPending, IsSince, KeepsAll, KeepsFitting, ListsCall, ListsUpkeep, MatchesPending}
pub use Rattle.shared_world.specs.Kept.{RunsCall, ending_by}
pub use Rattle.shared_world.specs.Leaving.{HasRoomLeft, LeavesCall, call_in, is_begun}
pub use Rattle.shared_world.specs.declared.live.Live.{Live}
pub use Rattle.shared_world.specs.declared.origin.Origin.{Ghosts as OriginGhosts}
pub use Rattle.shared_world.specs.declared.origin.OriginOn.{Ghosts as OriginOnGhosts}
pub use Rattle.session_seats.specs.Calls.{completed_of, given_more}
pub use Rattle.session_seats.specs.declared.call.CompletedCall.{CompletedCall}
pub use Rattle.session_seats.specs.declared.call.PendingCall.{PendingCall}
pub use Rattle.session_seats.specs.declared.group.SessionGroup.{Ghosts as GroupGhosts}
pub use Rattle.worker_seats.proofs.Queueing.{nat_cases}
pub use Rattle.worker_seats.proofs.Rows.{get_front, get_last, get_snoc, get_there, get_within, set_cases, set_else, set_here}
pub use Rattle.std.proofs.lemmas.Option.{slice_get_read}
pub use Rattle.std.specs.declared.sync.ledger.Ledger.{Ghosts as LedgerGhosts}
pub use Rattle.worker_seats.proofs.Counting.{noted_within}
pub use Rattle.worker_seats.specs.Queue.{below, jobs_in, sum_below, weigh}
pub use Rattle.worker_seats.specs.Seats.{registry_of, known_by, notes_by}
pub use Rattle.worker_seats.specs.declared.run.Run.{Ghosts as RunGhosts}
pub use Rattle.worker_seats.specs.declared.seating.SeatView.{SeatView}
pub use Rattle.session_seats.specs.Calls.{empty_call}
pub use Rattle.session_seats.specs.Seats.{registry_with, view_of}
pub use Rattle.session_seats.specs.declared.seat.SessionSeat.{SessionSeat}
pub use Rattle.session_seats.specs.declared.seating.SessionView.{SessionView}
pub use Rattle.shared_world.specs.Booked.{AreBooked}
pub use Rattle.shared_world.specs.Doing.{HasTaken, IsFullScan, MayBeDone}
pub use Rattle.shared_world.specs.Ended.{jobs_of_records}
pub use Rattle.shared_world.specs.Jobs.{IsRoomOf, ScanIsFull}
pub use Rattle.shared_world.specs.Leaving.{RunsItsCall}
pub use Rattle.shared_world.specs.Notes.{completed_call, completed_calls, job_of, jobs_of, note_of, notes_of, pending_call, pending_call_of, pending_calls, record_of}
pub use Rattle.shared_world.specs.Seated.{AreSeated, HoldsSeat, IsSeatAt}
pub use Rattle.shared_world.specs.Standing.{AreIdle}
pub use Rattle.shared_world.specs.Turns.{HasNotedAt, TurnMeans}
pub use Rattle.shared_world.specs.declared.jobs.Jobs.{Ghosts as JobGhosts}
pub use Rattle.shared_world.specs.declared.record.Pending.{Pending}
pub use Rattle.shared_world.specs.declared.record.Record.{Record}
pub use Rattle.shared_world.specs.declared.shared.Shared.{Shared}
