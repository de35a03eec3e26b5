-- What is done under the lock by one event of a running call, or left undone.
use Rattle.std.specs.Prelude.{◌≡◌, ◌<◌, ◌≤◌, ℕ, Option, Some, None, unwrap_or, List, [], ◌∷◌, ◌++◌, slice_get, vec_len, vec_capacity}
use Rattle.index_model.specs.declared.entry.Entry.{Entry}
use Rattle.page_action.specs.declared.page_store.PageStore.{Ghosts}
use Rattle.session_calls.specs.Sessions.{ready_count}
use Rattle.session_calls.specs.Slots.{slot_of}
use Rattle.session_calls.specs.declared.op.Op.{Op}
use Rattle.session_calls.specs.declared.answer.Answer.{Answer}
use Rattle.session_calls.specs.declared.answer.Answer.TheVariants.{Gave, Ended}
use Rattle.schedule.specs.Events.{EventAlways}
use Rattle.schedule.specs.TheoremKinds.{kind_of}
use Rattle.schedule.specs.TheoremMoments.{StoreAndSlots}
use Rattle.schedule.specs.TheoremRuns.{ForEachHistory, EventFollows}
use Rattle.schedule.specs.declared.event.Event.{Event}
use Rattle.session_seats.specs.declared.job.Job.{Job}
use Rattle.session_seats.specs.declared.job.Job.TheVariants.{Scan}
use Rattle.shared_world.specs.declared.record.Pending.{Pending}

-- the event is done, with this answer
pub record IsEventDone {S : Type 0} (g : Ghosts S) (event : Event) (answer : Answer) (old new : StoreAndSlots S) : Type 0 where
  pub goes : ForEachHistory g old new (EventFollows g old new event answer)
  pub always : EventAlways g (kind_of event) answer old new

-- ... or, without an answer, nothing is
abbrev pub MayBeDone : {S : Type 0} → Ghosts S → Event → Option Answer → StoreAndSlots S → StoreAndSlots S → Type 0
MayBeDone g event None old new = new ≡ old
MayBeDone g event (Some answer) old new = IsEventDone g event answer old new

-- what was given, and the entry after it that this answer gives
abbrev pub given_after : Answer → List Entry → List Entry
given_after (Gave (Some e)) given = given ++ e ∷ []
given_after answer given = given

-- ... if there is an answer
abbrev pub taken_after : Option Answer → List Entry → List Entry
taken_after None given = given
taken_after (Some answer) given = given_after answer given

-- a running job has taken what was given, in the same room; if nothing was done, it is as it was
pub record HasTaken (answer : Option Answer) (before after : Pending) : Type 0 where
  pub job : after.job ≡ before.job
  pub asked : after.asked ≡ before.asked
  pub from : after.from ≡ before.from
  pub seen : after.seen ≡ before.seen
  pub room : vec_capacity after.given ≡ vec_capacity before.given
  pub items : after.given.items ≡ taken_after answer before.given.items
  pub still : answer ≡ None → after ≡ before

-- the job is a scan that runs, whose room is full and which has so many entries ready, one or more
abbrev pub IsFullScan : Job → Option Pending → ℕ → Type 0
IsFullScan (Scan range room) (Some p) ready = (vec_capacity p.given ≤ vec_len p.given) × (0 < ready)
IsFullScan job running ready = ⊥

-- ... the job of this session
abbrev pub IsToBeCut : Job → ℕ → List (Option Pending) → List (Option Op) → Type 0
IsToBeCut job session pending slots = IsFullScan job (unwrap_or (slice_get pending session) None) (ready_count (slot_of slots session))

-- the answer of an end that was made, if one was: its record has a place
abbrev pub ended_at : Option ℕ → Option Answer
ended_at None = None
ended_at (Some place) = Some Ended
