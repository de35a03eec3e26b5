-- What the registries of the workers' seats and of the sessions' seats know of the records and of the jobs
-- that run.
use Rattle.std.specs.Prelude.{ℕ, List, map, Option, Some, None}
use Rattle.session_calls.specs.TheoremCalls.{DeadSets}
use Rattle.session_calls.specs.declared.answer.Answer.{Answer}
use Rattle.session_seats.specs.declared.call.CompletedCall.{CompletedCall}
use Rattle.session_seats.specs.declared.call.PendingCall.{PendingCall}
use Rattle.shared_world.specs.Rows.{rows_in, set_asked}
use Rattle.shared_world.specs.declared.record.Record.{Record}
use Rattle.shared_world.specs.declared.record.Pending.{Pending}

-- the record of a job that is done
abbrev pub record_of : ℕ → Pending → Answer → ℕ → Record
record_of worker p answer to = record { worker = worker; job = p.job; asked = p.asked; answer = answer; given = p.given; from = p.from; to = to; seen = p.seen }

-- the worker of a record and its job
abbrev pub note_of : Record → ℕ × ℕ
note_of r = (r.worker, r.job)

abbrev pub notes_of : List Record → List (ℕ × ℕ)
notes_of records = map note_of records

-- the job that a session runs, if it runs one
abbrev pub job_of : Option Pending → Option ℕ
job_of None = None
job_of (Some p) = Some p.job

abbrev pub jobs_of : List (Option Pending) → List (Option ℕ)
jobs_of pending = map job_of pending

-- the call of a record, with the sets of its run: the worker's session is the worker's number
abbrev pub completed_call : DeadSets → Record → CompletedCall
completed_call sets r = record { session = r.worker; asked = r.asked; rows = rows_in (set_asked sets r.asked); answer = r.answer; given = r.given.items; from = r.from; to = r.to; seen = r.seen }

abbrev pub completed_calls : DeadSets → List Record → List CompletedCall
completed_calls sets records = map (completed_call sets) records

-- the call of a job that runs, if one runs
abbrev pub pending_call : DeadSets → Pending → PendingCall
pending_call sets p = record { asked = p.asked; rows = rows_in (set_asked sets p.asked); given = p.given.items; from = p.from; seen = p.seen }

abbrev pub pending_call_of : DeadSets → Option Pending → Option PendingCall
pending_call_of sets None = None
pending_call_of sets (Some p) = Some (pending_call sets p)

abbrev pub pending_calls : DeadSets → List (Option Pending) → List (Option PendingCall)
pending_calls sets pending = map (pending_call_of sets) pending
