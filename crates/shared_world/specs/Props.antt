-- What is known of a run's records and seats has one proof at most, so a type may keep it.
use Rattle.std.specs.Prelude.{ℕ, Option, Some, None, List}
use Rattle.std.proofs.Props.{props}
use Rattle.index_model.specs.declared.entry.Entry.{Entry}
use Rattle.session_calls.specs.TheoremCalls.{DeadSets}
use Rattle.session_seats.specs.declared.group.SessionGroup.{Ghosts as GroupGhosts}
use Rattle.session_seats.specs.declared.job.Job.{Job}
use Rattle.session_seats.specs.declared.job.Job.TheVariants.{Scan}
use Rattle.session_seats.specs.declared.seat.SessionSeat.{SessionSeat}
use Rattle.shared_world.specs.Booked.{AreBooked}
use Rattle.shared_world.specs.Jobs.{ScanIsFull}
use Rattle.shared_world.specs.Seated.{AreSeated, IsSeatAt}
use Rattle.shared_world.specs.declared.record.Pending.{Pending}
use Rattle.shared_world.specs.declared.record.Record.{Record}

ScanIsFull-prop : (job : Job) (given : List Entry) → IsProp (ScanIsFull job given)
ScanIsFull-prop (Scan range room) given = hlevel props
ScanIsFull-prop job given = hlevel props

pub AreBooked-prop : (jobs : List Job) (pending : List (Option Pending)) (records : List Record) → IsProp (AreBooked jobs pending records)
AreBooked-prop jobs pending records = hlevel (props, ScanIsFull-prop)

IsSeatAt-prop : {J : Type 0} {group : GroupGhosts J} (sets : DeadSets) (session : ℕ) (running : Option (Option Pending)) (place : Option (Option (SessionSeat J group))) → IsProp (IsSeatAt sets session running place)
IsSeatAt-prop sets session (Some running) (Some (Some seat)) = hlevel props
IsSeatAt-prop sets session (Some running) (Some None) = hlevel props
IsSeatAt-prop sets session (Some running) None = hlevel props
IsSeatAt-prop sets session None place = hlevel props

pub AreSeated-prop : {J : Type 0} {group : GroupGhosts J} (sets : DeadSets) (workers : ℕ) (pending : List (Option Pending)) (seats : List (Option (SessionSeat J group))) → IsProp (AreSeated sets workers pending seats)
AreSeated-prop sets workers pending seats = hlevel (props, IsSeatAt-prop)
