use Rattle.std.proofs.Common.{Option, Some, None, refl, subst, sym}
use Rattle.session_calls.specs.declared.answer.Answer.{Answer}
use Rattle.session_seats.specs.Seats.{view_of}
use Rattle.session_seats.specs.declared.seating.SessionView.{SessionView}
use Rattle.shared_index.specs.Scanning.{HasTakenMore}
use Rattle.shared_index.proofs.Batches.{next_none, step_on, step_over, taken_twice}
use Rattle.shared_index.proofs.scan_hold.advance.Goals as goal

pub returns-then-over-clause-taken : goal.returns-then-over-clause-taken
returns-then-over-clause-taken g c =
    let given = c.args.given.now.items in
    let u = view_of c.args.seat.pass in
    let v = view_of c.next-seat.result.0.pass in
    let w = view_of c.step-seat.result.seat.pass in
    taken_twice (Some c.step-seat.result.answer) given given given u v w (next_none given c.next-seat.ensures.told (c.in_default.ensures.none refl)) (step_over c.step-seat.result.over given c.step-seat.ensures.told c.if-over.true)

pub returns-clause-taken : goal.returns-clause-taken
returns-clause-taken g c =
    let given = c.args.given.now.items in
    let u = view_of c.args.seat.pass in
    let v = view_of c.next-seat.result.0.pass in
    let w = view_of c.step-seat.result.seat.pass in
    let left : HasTakenMore None given given u w = taken_twice None given given given u v w (next_none given c.next-seat.ensures.told (c.in_default.ensures.none refl)) (step_on c.step-seat.result.over given c.step-seat.ensures.told c.if-over.false) in
    subst (λ (x : Option Answer × SessionView). HasTakenMore x.0 given given u x.1) (λ i. (sym c.running-2.ensures.over i, view_of (sym c.running-2.ensures.seat i).pass)) left
