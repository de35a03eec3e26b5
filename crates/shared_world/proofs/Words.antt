-- Short words for what the specs say at length.
use Rattle.std.proofs.Common.{◌≡◌, ◌⊎◌, ◌<◌, ◌≤◌, ℕ, Bool, List, Option, Some, slice_get, length, sym, subst}
use Rattle.index_model.specs.Actions.{Action}
use Rattle.index_model.specs.Calls.{Call}
use Rattle.index_model.specs.Row.{Row}
use Rattle.index_model.specs.declared.entry.Entry.{Entry}
use Rattle.index_model.specs.declared.fault.Fault.TheVariants.{Blocked}
use Rattle.session_calls.specs.TheoremCalls.{DeadSets}
use Rattle.session_calls.specs.declared.answer.Answer.{Answer}
use Rattle.session_calls.specs.declared.answer.Answer.TheVariants.{Refused}
use Rattle.session_seats.specs.declared.call.CompletedCall.{CompletedCall}
use Rattle.session_seats.specs.declared.job.Job.{Job}
use Rattle.shared_world.specs.Handed.{Handed, SetsGo}
use Rattle.shared_world.specs.Kept.{ListsCall, ListsUpkeep, WasCutShort, ending_by}
use Rattle.shared_world.specs.Rows.{rows_in, set_asked}

-- the log lists a call, or a commit or a checkpoint beside the calls
abbrev pub Lists : (Entry → Bool) → List Action → ℕ → Handed → List Call → List (Option ℕ) → ℕ → CompletedCall → Type 0
Lists start history durable handed calls at place r = ListsCall start history handed calls at place r ⊎ ListsUpkeep durable at place r

-- a call comes after all that its session had before
abbrev pub CallFollows : List CompletedCall → ℕ → ℕ → ℕ → Type 0
CallFollows log session seen from = (place : ℕ) (r : CompletedCall) → slice_get log place ≡ Some r → r.session ≡ session → (place < seen) × (r.to ≤ from)

-- how a call has ended whose last answer was this
abbrev pub HasEndedBy : Answer → Call → Type 0
HasEndedBy answer call = (call.ending ≡ ending_by answer) ⊎ WasCutShort answer call

-- what an answer tells that is blocked
abbrev pub IsBlocked : Answer → Type 0
IsBlocked (Refused (Blocked block)) = Unit {0}
IsBlocked answer = ⊥

pub not_blocked : (answer : Answer) → (IsBlocked answer → ⊥) → (block : ℕ) → answer ≡ Refused (Blocked block) → ⊥
not_blocked answer settled block e = settled (subst IsBlocked (sym e) tt)

-- the rows of the set that a job is to remove
abbrev pub rows_asked : DeadSets → Job → List Row
rows_asked sets job = rows_in (set_asked sets job)

-- as many sets, and the same ones but at this place
abbrev pub AreSameBeside : ℕ → DeadSets → DeadSets → Type 0
AreSameBeside place old new = SetsGo (Some place) old new
