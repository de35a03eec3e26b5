-- What a notice makes of a session's call.
use Rattle.std.specs.Prelude.{ℕ, List, [], ◌∷◌, ◌++◌, Option, Some, None, unwrap_or}
use Rattle.index_model.specs.Row.{Row}
use Rattle.index_model.specs.declared.entry.Entry.{Entry}
use Rattle.session_calls.specs.declared.answer.Answer.{Answer}
use Rattle.session_calls.specs.declared.answer.Answer.TheVariants.{Gave}
use Rattle.session_seats.specs.declared.call.CompletedCall.{CompletedCall}
use Rattle.session_seats.specs.declared.call.Notice.{Notice}
use Rattle.session_seats.specs.declared.call.PendingCall.{PendingCall}
use Rattle.session_seats.specs.declared.job.Job.TheVariants.{Commit}

-- the entry that an answer gives, if it gives one
abbrev pub gift_of : Answer → List Entry
gift_of (Gave (Some e)) = e ∷ []
gift_of answer = []

-- a call that begins now and is to remove these rows, after so many that are over
abbrev pub begun_by : List Row → Notice → ℕ → PendingCall
begun_by rows notice seen = record { asked = notice.asked; rows = rows; given = []; from = notice.at; seen = seen }

-- a call that has given the entry of one answer more
abbrev pub given_more : PendingCall → Answer → PendingCall
given_more p answer = record p { given = p.given ++ gift_of answer }

-- ... that of the notice, if one runs
abbrev pub given_by : Notice → Option PendingCall → Option PendingCall
given_by notice None = None
given_by notice (Some p) = Some (given_more p notice.answer)

-- the session's call that was pending is over: this was its last answer, and so many actions there were then
abbrev pub completed_of : ℕ → PendingCall → Answer → ℕ → CompletedCall
completed_of session p answer to = record { session = session; asked = p.asked; rows = p.rows; answer = answer; given = p.given; from = p.from; to = to; seen = p.seen }

-- a call of nothing
abbrev pub empty_call : PendingCall
empty_call = record { asked = Commit; rows = []; given = []; from = 0; seen = 0 }

-- ... as the notice tells (a call that doesn't run would be one of nothing)
abbrev pub completed_by : ℕ → Notice → Option PendingCall → CompletedCall
completed_by session notice call = completed_of session (unwrap_or call empty_call) notice.answer notice.at
