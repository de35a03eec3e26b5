-- What is done under the lock, event by event: transitions, each beginning where the one before ended, but
-- for a set that was put in between.
use Rattle.std.specs.Prelude.{◌≡◌, ◌==◌, ℕ, Bool, true, false, if◌then◌else◌, List, [], ◌∷◌, ◌++◌, Option}
use Rattle.index_model.specs.declared.entry.Entry.{Entry}
use Rattle.page_action.specs.declared.page_store.PageStore.{Ghosts}
use Rattle.session_calls.specs.declared.answer.Answer.{Answer}
use Rattle.schedule.specs.Making.{EventEffect}
use Rattle.schedule.specs.TheoremKinds.{kind_of}
use Rattle.schedule.specs.TheoremMoments.{StoreAndSlots}
use Rattle.schedule.specs.declared.event.Event.{Event}
use Rattle.session_seats.specs.Calls.{gift_of}
use Rattle.shared_world.specs.Handed.{SetsGo}

-- a moment under the lock: the store with its sessions, and how many calls are over
pub record LockMoment (S : Type 0) : Type 0 where
  pub here : StoreAndSlots S
  pub recorded : ℕ

-- one event with its answer, from the moment before it to the moment after it
pub record Transition (S : Type 0) : Type 0 where
  pub event : Event
  pub answer : Answer
  pub before : LockMoment S
  pub after : LockMoment S

-- nothing is done from one moment to another, but that a set may have been put at the spare place
abbrev pub StaysUntil : {S : Type 0} → Option ℕ → LockMoment S → LockMoment S → Type 0
StaysUntil spare old new = SetsGo spare old.here.sets new.here.sets × (new ≡ record old { here = record old.here { sets = new.here.sets } })

-- they lead from one moment to another: each begins where the one before ended, but for a set that may have
-- been put, and is what its event makes with its answer
abbrev pub IsPath : {S : Type 0} → Ghosts S → Option ℕ → LockMoment S → List (Transition S) → LockMoment S → Type 0
IsPath g spare first [] last = StaysUntil spare first last
IsPath g spare first (t ∷ ts) last = StaysUntil spare first t.before × EventEffect g (kind_of t.event) t.answer t.before.here t.after.here × IsPath g spare t.after ts last

-- whose a transition is: that of the call at this place of the log, or of the one that this session runs now
pub data Owner : Type 0 where
  OfRecord : ℕ → Owner
  OfSession : ℕ → Owner

abbrev pub is_owner : Owner → Owner → Bool
is_owner (OfRecord place) (OfRecord other) = place == other
is_owner (OfSession session) (OfSession other) = session == other
is_owner owner other = false

-- those that belong to this owner, in order; the first list names the owner of each of them
abbrev pub owned_by : {S : Type 0} → Owner → List Owner → List (Transition S) → List (Transition S)
owned_by owner [] ts = []
owned_by owner (of ∷ owners) [] = []
owned_by owner (of ∷ owners) (t ∷ ts) = if is_owner owner of then t ∷ owned_by owner owners ts else owned_by owner owners ts

-- the entries that these give, in order
abbrev pub gifts_of : {S : Type 0} → List (Transition S) → List Entry
gifts_of [] = []
gifts_of (t ∷ ts) = gift_of t.answer ++ gifts_of ts
