use Rattle.std.proofs.Common.{ℕ, Some, None, slice_set, refl, sym, ap, ◌∙◌, subst}
use Rattle.whole_calls.specs.Going.{CallIsRun}
use Rattle.whole_calls.specs.Made.{IsMadeOf}
use Rattle.whole_calls.specs.OneStep.{IsMadeAsStep, OneStepAlways, OneStepComesTo, OneStepIsRun}
use Rattle.shared_world.proofs.Imports.{slot_of, registry_of, inside, record_of, notes_of}
use Rattle.shared_world.proofs.Noting.{set_same}
use Rattle.shared_world.proofs.Stepping.{steps_no_end}
use Rattle.shared_world.proofs.Serving.{runs_at, taken_out, some_taken, turn_recorded, seat_noted, seat_there, session_is, call_in_is, runs_call, runs_same, leaves_at, place_within, served_on, served_done}
use Rattle.shared_world.proofs.shared.Shared.step.Goals as goal

pub take_seat-requires : goal.take_seat-requires
take_seat-requires g c =
    let self = c.args.self.now in
    let at = runs_at self c.args.seat.worker c.check-seat.ensures.job c.requires.runs in
    record { there = seat_there self c.args.seat.worker (Some at.0) at.1.found }

pub step-turn-requires : goal.step-turn-requires
step-turn-requires g c =
    let self = c.args.self.now in
    let at = runs_at self c.args.seat.worker c.check-seat.ensures.job c.requires.runs in
    record { runs = runs_call self c.args.seat.worker at.0 at.1.found c.take_seat.result c.take_seat.ensures.seat }

pub put_seat-requires : goal.put_seat-requires
put_seat-requires g c =
    let self = c.args.self.now in
    let at = runs_at self c.args.seat.worker c.check-seat.ensures.job c.requires.runs in
    record { inside = place_within self c.args.seat.worker (Some at.0) at.1.found c.take_seat.result c.take_seat.ensures.seat c.take_seat.ensures.taken }

pub index_mut-requires : goal.index_mut-requires
index_mut-requires g c = (runs_at c.args.self.now c.args.seat.worker c.check-seat.ensures.job c.requires.runs).1.inside

pub unreachable-requires : goal.unreachable-requires
unreachable-requires g c =
    absurd (some_taken c.args.self.now c.args.seat.worker c.check-seat.ensures.job c.requires.runs c.index_mut.ensures.value c.take.ensures.value c.in_default.not-Some)

pub invariant_of-self : goal.invariant_of-self
invariant_of-self g c =
    let self = c.args.self.now in
    let w = c.args.seat.worker in
    let q = c.in-Some.done in
    let here = taken_out self w c.check-seat.ensures.job c.requires.runs c.index_mut.ensures.value c.take.ensures.value c.in-Some.is in
    let seat = c.take_seat.result in
    let there = c.take_seat.ensures.seat in
    let turn = c.step-turn in
    let is = session_is self w (Some q) here.found seat there in
    let same = call_in_is self w q here.found seat there in
    served_done self w (Some q) here.found seat there turn.result.seat c.take_seat.ensures.taken c.put_seat.ensures.put turn.ensures.session q
    (leaves_at self w (Some q) here.found seat there c.if-over.true (sym c.actions-to.ensures) turn.ensures.told) same (self.booked.running w q here.found)
    (λ e. absurd (steps_no_end (slot_of self.live.world.calls.slots.items seat.session) (slot_of turn.new.self.world.calls.slots.items seat.session) turn.result.answer turn.ensures.always.answers e))
    (ap (slice_set self.pending.items w) c.take.ensures.after) c.push_reserved.ensures.items c.record.ensures c.push_reserved.ensures.len c.push_reserved.ensures.capacity
    c.end-seat.ensures.book c.check-seat.ensures.registry c.check-seat.ensures.worker c.end-seat.ensures.registry

pub invariant_of-self-else-over : goal.invariant_of-self-else-over
invariant_of-self-else-over g c =
    let self = c.args.self.now in
    let w = c.args.seat.worker in
    let at = runs_at self w c.check-seat.ensures.job c.requires.runs in
    let q = at.0 in
    let found = at.1.found in
    let seat = c.take_seat.result in
    let there = c.take_seat.ensures.seat in
    let turn = c.step-turn in
    served_on self w (Some q) found seat there turn.result.seat c.take_seat.ensures.taken c.put_seat.ensures.put turn.ensures.session q
    (leaves_at self w (Some q) found seat there c.if-over.false refl turn.ensures.told) (call_in_is self w q found seat there) (self.booked.running w q found) (self.booked.room w q found)
    (sym (set_same self.pending.items w (Some q) found)) (c.check-seat.ensures.registry ∙ self.knows ∙ ap (registry_of (notes_of self.history.items)) (runs_same self w q found))

pub returns-then-over-clause-goes : goal.returns-then-over-clause-goes
returns-then-over-clause-goes g c =
    let self = c.args.self.now in
    let at = runs_at self c.args.seat.worker c.check-seat.ensures.job c.requires.runs in
    let turn = c.step-turn in
    let old = inside g.T.DeadRows self.live.world in
    let new = inside g.T.DeadRows turn.new.self.world in
    let is = session_is self c.args.seat.worker (Some at.0) at.1.found c.take_seat.result c.take_seat.ensures.seat in
    rw c.told.ensures.answer (subst (λ (n : ℕ). CallIsRun g.S.PageStore n (OneStepIsRun g.S.PageStore n 5 turn.result.answer) None old new) is turn.ensures.goes)

pub returns-then-over-clause-made : goal.returns-then-over-clause-made
returns-then-over-clause-made g c =
    let self = c.args.self.now in
    let at = runs_at self c.args.seat.worker c.check-seat.ensures.job c.requires.runs in
    let turn = c.step-turn in
    let old = inside g.T.DeadRows self.live.world in
    let new = inside g.T.DeadRows turn.new.self.world in
    let is = session_is self c.args.seat.worker (Some at.0) at.1.found c.take_seat.result c.take_seat.ensures.seat in
    rw c.told.ensures.answer (subst (λ (n : ℕ). IsMadeOf g.S.PageStore n 5 (OneStepComesTo turn.result.answer) old new) is turn.ensures.made)

pub returns-then-over-clause-events : goal.returns-then-over-clause-events
returns-then-over-clause-events g c =
    let self = c.args.self.now in
    let at = runs_at self c.args.seat.worker c.check-seat.ensures.job c.requires.runs in
    let turn = c.step-turn in
    let old = inside g.T.DeadRows self.live.world in
    let new = inside g.T.DeadRows turn.new.self.world in
    let is = session_is self c.args.seat.worker (Some at.0) at.1.found c.take_seat.result c.take_seat.ensures.seat in
    rw c.told.ensures.answer (subst (λ (n : ℕ). IsMadeAsStep g.S.PageStore n 5 turn.result.answer old new) is turn.ensures.events)

pub returns-then-over-clause-always : goal.returns-then-over-clause-always
returns-then-over-clause-always g c =
    let self = c.args.self.now in
    let at = runs_at self c.args.seat.worker c.check-seat.ensures.job c.requires.runs in
    let turn = c.step-turn in
    let old = inside g.T.DeadRows self.live.world in
    let new = inside g.T.DeadRows turn.new.self.world in
    let is = session_is self c.args.seat.worker (Some at.0) at.1.found c.take_seat.result c.take_seat.ensures.seat in
    rw c.told.ensures.answer (subst (λ (n : ℕ). OneStepAlways g.S.PageStore n turn.result.answer old new) is turn.ensures.always)

pub returns-clause-goes : goal.returns-clause-goes
returns-clause-goes g c =
    let self = c.args.self.now in
    let at = runs_at self c.args.seat.worker c.check-seat.ensures.job c.requires.runs in
    let turn = c.step-turn in
    let old = inside g.T.DeadRows self.live.world in
    let new = inside g.T.DeadRows turn.new.self.world in
    let is = session_is self c.args.seat.worker (Some at.0) at.1.found c.take_seat.result c.take_seat.ensures.seat in
    rw c.told-2.ensures.answer (subst (λ (n : ℕ). CallIsRun g.S.PageStore n (OneStepIsRun g.S.PageStore n 5 turn.result.answer) None old new) is turn.ensures.goes)

pub returns-clause-made : goal.returns-clause-made
returns-clause-made g c =
    let self = c.args.self.now in
    let at = runs_at self c.args.seat.worker c.check-seat.ensures.job c.requires.runs in
    let turn = c.step-turn in
    let old = inside g.T.DeadRows self.live.world in
    let new = inside g.T.DeadRows turn.new.self.world in
    let is = session_is self c.args.seat.worker (Some at.0) at.1.found c.take_seat.result c.take_seat.ensures.seat in
    rw c.told-2.ensures.answer (subst (λ (n : ℕ). IsMadeOf g.S.PageStore n 5 (OneStepComesTo turn.result.answer) old new) is turn.ensures.made)

pub returns-clause-events : goal.returns-clause-events
returns-clause-events g c =
    let self = c.args.self.now in
    let at = runs_at self c.args.seat.worker c.check-seat.ensures.job c.requires.runs in
    let turn = c.step-turn in
    let old = inside g.T.DeadRows self.live.world in
    let new = inside g.T.DeadRows turn.new.self.world in
    let is = session_is self c.args.seat.worker (Some at.0) at.1.found c.take_seat.result c.take_seat.ensures.seat in
    rw c.told-2.ensures.answer (subst (λ (n : ℕ). IsMadeAsStep g.S.PageStore n 5 turn.result.answer old new) is turn.ensures.events)

pub returns-clause-always : goal.returns-clause-always
returns-clause-always g c =
    let self = c.args.self.now in
    let at = runs_at self c.args.seat.worker c.check-seat.ensures.job c.requires.runs in
    let turn = c.step-turn in
    let old = inside g.T.DeadRows self.live.world in
    let new = inside g.T.DeadRows turn.new.self.world in
    let is = session_is self c.args.seat.worker (Some at.0) at.1.found c.take_seat.result c.take_seat.ensures.seat in
    rw c.told-2.ensures.answer (subst (λ (n : ℕ). OneStepAlways g.S.PageStore n turn.result.answer old new) is turn.ensures.always)

pub returns-then-over-clause-told : goal.returns-then-over-clause-told
returns-then-over-clause-told g c =
    let self = c.args.self.now in
    let here = taken_out self c.args.seat.worker c.check-seat.ensures.job c.requires.runs c.index_mut.ensures.value c.take.ensures.value c.in-Some.is in
    rw (c.told.ensures.answer, c.told.ensures.place) (turn_recorded self c.args.seat.worker here _ _ c.len-place.ensures c.push_reserved.ensures.items
    (c.record.ensures ∙ ap (record_of c.args.seat.worker c.in-Some.done c.step-turn.result.answer) c.actions-to.ensures) c.take.ensures.after)

pub returns-then-over-clause-seat : goal.returns-then-over-clause-seat
returns-then-over-clause-seat g c =
    let self = c.args.self.now in
    let here = taken_out self c.args.seat.worker c.check-seat.ensures.job c.requires.runs c.index_mut.ensures.value c.take.ensures.value c.in-Some.is in
    rw (c.told.ensures.place, c.told.ensures.seat)
    (seat_noted self c.args.seat.worker here c.check-seat.ensures.registry c.check-seat.ensures.view c.len-place.ensures c.end-seat.ensures.job c.end-seat.ensures.notes)

pub returns-clause-told : goal.returns-clause-told
returns-clause-told g c =
    let at = runs_at c.args.self.now c.args.seat.worker c.check-seat.ensures.job c.requires.runs in
    rw c.told-2.ensures.place (record { running = at.0; found = at.1.found; job_is = at.1.job_is; history = refl; pending = refl })
