-- What several proofs of this crate import, passed on from one place. Declares nothing.
pub use Rattle.std.proofs.Math.Logic.{∥∥₁_map}
pub use Rattle.std.proofs.lemmas.Bool.Decides.{nat_tests}
pub use Rattle.std.proofs.lemmas.List.{length-map, length-take-le}
pub use Rattle.std.proofs.lemmas.List.Sums.{count_by-le-length, sum_by-cons, sum_by_push}
pub use Rattle.std.proofs.lemmas.Option.{slice_get_read}
pub use Rattle.std.specs.List.{sum_by}
pub use Rattle.index_model.specs.Actions.{Action}
pub use Rattle.index_model.specs.Calls.{Call}
pub use Rattle.index_model.specs.declared.dead_rows.DeadRows.{Ghosts as SetGhosts}
pub use Rattle.index_model.specs.declared.entry.Entry.{Entry}
pub use Rattle.page_action.specs.States.{IsLater}
pub use Rattle.page_action.specs.declared.page_store.PageStore.{Ghosts}
pub use Rattle.schedule.specs.TheoremMoments.{StoreAndSlots}
pub use Rattle.world.specs.Worlds.{WorldFits, WorldKeeps}
pub use Rattle.world.specs.declared.world.World.{World}
pub use Rattle.worker_seats.proofs.Counting.{last_or, sum_over_snoc}
pub use Rattle.worker_seats.proofs.Queueing.{forks_of, is_else, is_here, nat_cases, under, weigh-append}
pub use Rattle.worker_seats.proofs.Rows.{get_snoc, get_there, get_within, set_else, set_here, some_snoc}
pub use Rattle.worker_seats.specs.Queue.{at_alone, below, jobs_in, sum_over, times, weigh}
pub use Rattle.worker_seats.specs.Seats.{registry_of, known_by}
pub use Rattle.worker_seats.specs.declared.seating.SeatView.{SeatView}
pub use Rattle.shared_world.specs.Ended.{HasRun, jobs_of_records}
pub use Rattle.sessions.specs.Finishing.{HaveTold, IsFinished, IsReceiptFor, jobs_by, receipt_of, records_of}
pub use Rattle.shared_world.specs.Handed.{Handed, handed_of}
pub use Rattle.shared_world.specs.Jobs.{room_of}
pub use Rattle.shared_world.specs.Kept.{KeepsFitting}
pub use Rattle.shared_world.specs.Notes.{completed_calls, job_of, jobs_of}
pub use Rattle.session_seats.specs.declared.call.CompletedCall.{CompletedCall}
pub use Rattle.session_seats.specs.declared.call.PendingCall.{PendingCall}
pub use Rattle.shared_world.specs.Turns.{SeatMeans, SitsOn}
pub use Rattle.session_seats.specs.declared.job.Job.{Job}
pub use Rattle.sessions.specs.declared.outcome.Receipt.{Receipt}
pub use Rattle.shared_world.specs.declared.record.Pending.{Pending}
pub use Rattle.shared_world.specs.declared.record.Record.{Record}
