-- The theorem's words: what a request asks, the call that it begins, and what an answer makes of a running
-- call.
use Rattle.std.specs.Prelude.{ℕ, Bool, false, Option, Some, None, unwrap_or, List, [], ◌∷◌, ◌++◌, slice_get}
use Rattle.index_model.specs.Actions.{Effect, Action}
use Rattle.index_model.specs.Calls.{Ask, AskInsert, AskScan, AskBulkDelete, AskCleanup, Running, Added as EndsAdded, Finished as EndsFinished, Vacuumed, GivenUp, Failed, Call}
use Rattle.index_model.specs.Row.{Row}
use Rattle.index_model.specs.declared.fault.Fault.TheVariants.{Blocked, NoSession}
use Rattle.session_calls.specs.declared.answer.Answer.{Answer}
use Rattle.session_calls.specs.declared.answer.Answer.TheVariants.{Going, Added, Done, Finished, Gave, Ended, Refused}
use Rattle.session_calls.specs.declared.request.Request.{Request}
use Rattle.session_calls.specs.declared.request.Request.TheVariants.{Insert as ToInsert, Scan as ToScan, Bulk as ToBulk, Cleanup as ToCleanup}

-- the sets of dead rows that calls may name, by their places
abbrev pub DeadSets : Type 0
DeadSets = List (Row → Bool)

-- what a request asks, with these sets; beyond the last set there is one without rows
abbrev pub asked_by : DeadSets → Request → Ask
asked_by sets (ToInsert e) = AskInsert e
asked_by sets (ToScan range) = AskScan range
asked_by sets (ToBulk set) = AskBulkDelete (unwrap_or (slice_get sets set) (λ row. false))
asked_by sets ToCleanup = AskCleanup

-- a call that begins with `count` actions before it
abbrev pub begun_call : ℕ → Ask → ℕ → Call
begun_call session ask count = record { session = session; ask = ask; began = count; given = []; added = None; ending = Running; until = 0 }

-- the actions that an event of the call of this number appends: one of this effect, or none
abbrev pub acts_of : ℕ → Option Effect → List Action
acts_of number None = []
acts_of number (Some effect) = record { by = number; effect = effect } ∷ []

-- what an answer makes of a running call, when there are `count` actions: it has given one entry more, or has
-- ended, or it goes on; so does one that is blocked, and one that the event doesn't fit
abbrev pub becomes : Answer → ℕ → Call → Call
becomes (Added action unfinished) count call = record call { ending = EndsAdded action unfinished; until = count }
becomes Done count call = record call { ending = EndsFinished; until = count }
becomes (Finished stats) count call = record call { ending = Vacuumed stats; until = count }
becomes (Gave (Some e)) count call = record call { given = call.given ++ e ∷ [] }
becomes Ended count call = record call { ending = GivenUp; until = count }
becomes (Refused (Blocked block)) count call = call
becomes (Refused NoSession) count call = call
becomes (Refused fault) count call = record call { ending = Failed fault; until = count }
becomes answer count call = call

-- only a step that goes on, or that ends an insert and leaves nothing unfinished, appends an action
abbrev pub MayComeWith : Answer → Option Effect → Type 0
MayComeWith answer None = Unit {0}
MayComeWith Going (Some effect) = Unit {0}
MayComeWith (Added action None) (Some effect) = Unit {0}
MayComeWith answer (Some effect) = ⊥
