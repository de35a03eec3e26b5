use Rattle.std.proofs.Common.{ℕ, Option, Some, slice_get, slice_set, refl, sym, ap, ◌∙◌, subst}
use Rattle.shared_world.proofs.Imports.{End, Ended, ready_count, slot_add, slot_of, inside, Pending, IsEventDone, IsFullScan, record_of}
use Rattle.shared_world.proofs.Noting.{some_same}
use Rattle.shared_world.proofs.Serving.{runs_at, read_here, taken_out, some_taken, turn_recorded, seat_noted, seat_there, session_is, call_in_is, runs_call, leaves_at, place_within, served_done, may_leave, full_room}
use Rattle.shared_world.proofs.shared.Shared.end.Goals as goal

pub index-requires : goal.index-requires
index-requires g c = (runs_at c.args.self.now c.args.seat.worker c.check-seat.ensures.job c.requires.runs).1.inside

pub take_seat-requires : goal.take_seat-requires
take_seat-requires g c =
    let self = c.args.self.now in
    let at = runs_at self c.args.seat.worker c.check-seat.ensures.job c.requires.runs in
    record { there = seat_there self c.args.seat.worker (Some at.0) at.1.found }

pub end-session-requires-clause-runs : goal.end-session-requires-clause-runs
end-session-requires-clause-runs g c =
    let self = c.args.self.now in
    let at = runs_at self c.args.seat.worker c.check-seat.ensures.job c.requires.runs in
    runs_call self c.args.seat.worker at.0 at.1.found c.take_seat.result c.take_seat.ensures.seat

pub end-session-requires-clause-may : goal.end-session-requires-clause-may
end-session-requires-clause-may g c =
    let self = c.args.self.now in
    let w = c.args.seat.worker in
    let at = runs_at self w c.check-seat.ensures.job c.requires.runs in
    let full = subst (λ (x : Option Pending × ℕ). IsFullScan c.args.asked x.0 x.1) (λ i. (read_here self w at.1 c.index.result.now c.index.ensures i, c.ready-ready.ensures i))
    (c.is_full.ensures.yes c.if-is_full.true) in
    may_leave self w at.0 at.1.found c.take_seat.result c.take_seat.ensures.seat (some_same (sym c.requires.job ∙ ap (λ (n : ℕ). slice_get g.J.Jobs.jobs n) (sym at.1.job_is) ∙ self.booked.running w at.0 at.1.found)) full
    (slot_add (slot_of self.live.world.calls.slots.items c.take_seat.result.session)) (ap (λ (n : ℕ). ready_count (slot_of self.live.world.calls.slots.items n)) (sym (session_is self w (Some at.0) at.1.found c.take_seat.result c.take_seat.ensures.seat)))

pub put_seat-requires : goal.put_seat-requires
put_seat-requires g c =
    let self = c.args.self.now in
    let at = runs_at self c.args.seat.worker c.check-seat.ensures.job c.requires.runs in
    record { inside = place_within self c.args.seat.worker (Some at.0) at.1.found c.take_seat.result c.take_seat.ensures.seat c.take_seat.ensures.taken }

pub index_mut-requires : goal.index_mut-requires
index_mut-requires g c = (runs_at c.args.self.now c.args.seat.worker c.check-seat.ensures.job c.requires.runs).1.inside

pub unreachable-requires : goal.unreachable-requires
unreachable-requires g c =
    absurd (some_taken c.args.self.now c.args.seat.worker c.check-seat.ensures.job c.requires.runs c.index_mut.ensures.value c.take.ensures.value c.in_default.not-Some)

pub invariant_of-self : goal.invariant_of-self
invariant_of-self g c =
    let self = c.args.self.now in
    let w = c.args.seat.worker in
    let q = c.in-Some.done in
    let here = taken_out self w c.check-seat.ensures.job c.requires.runs c.index_mut.ensures.value c.take.ensures.value c.in-Some.is in
    let seat = c.take_seat.result in
    let there = c.take_seat.ensures.seat in
    let out = c.end-session in
    let full = subst (λ (x : Option Pending × ℕ). IsFullScan c.args.asked x.0 x.1) (λ i. (read_here self w here c.index.result.now c.index.ensures i, c.ready-ready.ensures i))
    (c.is_full.ensures.yes c.if-is_full.true) in
    let asked = some_same (sym c.requires.job ∙ ap (λ (n : ℕ). slice_get g.J.Jobs.jobs n) (sym here.job_is) ∙ self.booked.running w q here.found) in
    served_done self w (Some q) here.found seat there out.result c.take_seat.ensures.taken c.put_seat.ensures.put out.ensures.session q
    (leaves_at self w (Some q) here.found seat there refl (sym c.actions-until.ensures) out.ensures.told) (call_in_is self w q here.found seat there) (self.booked.running w q here.found)
    (λ e. full_room self w q here.found _ asked full)
    (ap (slice_set self.pending.items w) c.take.ensures.after) c.push_reserved.ensures.items c.record.ensures c.push_reserved.ensures.len c.push_reserved.ensures.capacity
    c.end-seat.ensures.book c.check-seat.ensures.registry c.check-seat.ensures.worker c.end-seat.ensures.registry

pub returns-then-is_full-clause-event : goal.returns-then-is_full-clause-event
returns-then-is_full-clause-event g c =
    let self = c.args.self.now in
    let at = runs_at self c.args.seat.worker c.check-seat.ensures.job c.requires.runs in
    subst (λ (n : ℕ). IsEventDone g.S.PageStore (End n) Ended (inside g.T.DeadRows self.live.world) (inside g.T.DeadRows c.end-session.new.self.world))
    (session_is self c.args.seat.worker (Some at.0) at.1.found c.take_seat.result c.take_seat.ensures.seat) c.end-session.ensures.event

pub returns-then-is_full-clause-told : goal.returns-then-is_full-clause-told
returns-then-is_full-clause-told g c =
    let here = taken_out c.args.self.now c.args.seat.worker c.check-seat.ensures.job c.requires.runs c.index_mut.ensures.value c.take.ensures.value c.in-Some.is in
    turn_recorded c.args.self.now c.args.seat.worker here _ _ c.len-place.ensures c.push_reserved.ensures.items
    (c.record.ensures ∙ ap (record_of c.args.seat.worker c.in-Some.done Ended) c.actions-until.ensures) c.take.ensures.after

pub returns-then-is_full-clause-seat : goal.returns-then-is_full-clause-seat
returns-then-is_full-clause-seat g c =
    let here = taken_out c.args.self.now c.args.seat.worker c.check-seat.ensures.job c.requires.runs c.index_mut.ensures.value c.take.ensures.value c.in-Some.is in
    seat_noted c.args.self.now c.args.seat.worker here c.check-seat.ensures.registry c.check-seat.ensures.view c.len-place.ensures c.end-seat.ensures.job c.end-seat.ensures.notes

pub returns-clause-told : goal.returns-clause-told
returns-clause-told g c =
    let at = runs_at c.args.self.now c.args.seat.worker c.check-seat.ensures.job c.requires.runs in
    record { running = at.0; found = at.1.found; job_is = at.1.job_is; history = refl; pending = refl }
