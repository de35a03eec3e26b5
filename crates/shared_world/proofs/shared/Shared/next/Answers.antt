use Rattle.std.proofs.Common.{◌≡◌, ℕ, Some, refl, sym, ap, ◌∙◌, subst, arith}
use Rattle.shared_world.proofs.Imports.{registry_of, Next, inside, Pending, IsEventDone, given_more, pending_call, PendingCall, IsRoomOf, call_in, notes_of, view_of}
use Rattle.shared_world.proofs.Noting.{set_same, set_twice}
use Rattle.shared_world.proofs.Asking.{given_as_more}
use Rattle.shared_world.proofs.Serving.{runs_at, taken_out, some_taken, seat_there, session_is, call_in_is, runs_call, leaves_at, place_within, runs_same, served_on, served_same, has_room}
use Rattle.shared_world.proofs.shared.Shared.next.Goals as goal

pub index_mut-requires : goal.index_mut-requires
index_mut-requires g c = (runs_at c.args.self.now c.args.seat.worker c.check-seat.ensures.job c.requires.runs).1.inside

pub unreachable-requires : goal.unreachable-requires
unreachable-requires g c =
    absurd (some_taken c.args.self.now c.args.seat.worker c.check-seat.ensures.job c.requires.runs c.index_mut.ensures.value c.take.ensures.value c.in_default.not-Some)

pub invariant_of-self : goal.invariant_of-self
invariant_of-self g c =
    let self = c.args.self.now in
    let w = c.args.seat.worker in
    let here = taken_out self w c.check-seat.ensures.job c.requires.runs c.index_mut.ensures.value c.take.ensures.value c.in-Some.is in
    served_same self (set_twice self.pending.items w c.take.new.self (Some c.in-Some.running) ∙ set_same self.pending.items w (Some c.in-Some.running) here.found) c.check-seat.ensures.registry

pub take_seat-requires : goal.take_seat-requires
take_seat-requires g c =
    let self = c.args.self.now in
    let at = runs_at self c.args.seat.worker c.check-seat.ensures.job c.requires.runs in
    record { there = seat_there self c.args.seat.worker (Some at.0) at.1.found }

pub next-session-requires-clause-runs : goal.next-session-requires-clause-runs
next-session-requires-clause-runs g c =
    let self = c.args.self.now in
    let at = runs_at self c.args.seat.worker c.check-seat.ensures.job c.requires.runs in
    runs_call self c.args.seat.worker at.0 at.1.found c.take_seat.result c.take_seat.ensures.seat

pub next-session-requires-clause-room : goal.next-session-requires-clause-room
next-session-requires-clause-room g c =
    let self = c.args.self.now in
    let w = c.args.seat.worker in
    let here = taken_out self w c.check-seat.ensures.job c.requires.runs c.index_mut.ensures.value c.take.ensures.value c.in-Some.is in
    has_room self w c.in-Some.running here.found c.take_seat.result c.take_seat.ensures.seat (search arith)

pub put_seat-requires : goal.put_seat-requires
put_seat-requires g c =
    let self = c.args.self.now in
    let at = runs_at self c.args.seat.worker c.check-seat.ensures.job c.requires.runs in
    record { inside = place_within self c.args.seat.worker (Some at.0) at.1.found c.take_seat.result c.take_seat.ensures.seat c.take_seat.ensures.taken }

pub invariant_of-self-2 : goal.invariant_of-self-2
invariant_of-self-2 g c =
    let self = c.args.self.now in
    let w = c.args.seat.worker in
    let p = c.in-Some.running in
    let here = taken_out self w c.check-seat.ensures.job c.requires.runs c.index_mut.ensures.value c.take.ensures.value c.in-Some.is in
    let seat = c.take_seat.result in
    let there = c.take_seat.ensures.seat in
    let out = c.next-session in
    let q : Pending = record p { given = c.keep_gift.new.given } in
    let same : given_more (call_in (view_of seat.pass)) out.result.1 ≡ pending_call g.J.Origin.handed.sets q =
    ap (λ (x : PendingCall). given_more x out.result.1) (call_in_is self w p here.found seat there)
    ∙ (λ i. record (pending_call g.J.Origin.handed.sets p) { given = (sym (c.keep_gift.ensures.items ∙ given_as_more out.result.1 p.given.items)) i }) in
    served_on self w (Some p) here.found seat there out.result.0 c.take_seat.ensures.taken c.put_seat.ensures.put out.ensures.session q
    (leaves_at self w (Some p) here.found seat there refl refl out.ensures.told) same (self.booked.running w p here.found)
    (subst (IsRoomOf p.asked) (sym c.keep_gift.ensures.capacity) (self.booked.room w p here.found))
    (set_twice self.pending.items w c.take.new.self (Some q)) (c.check-seat.ensures.registry ∙ self.knows ∙ ap (registry_of (notes_of self.history.items)) (runs_same self w p here.found))

pub index_mut-requires-2 : goal.index_mut-requires-2
index_mut-requires-2 g c = (runs_at c.args.self.now c.args.seat.worker c.check-seat.ensures.job c.requires.runs).1.inside

pub returns-then-len-capacity-clause-told : goal.returns-then-len-capacity-clause-told
returns-then-len-capacity-clause-told g c =
    let self = c.args.self.now in
    let w = c.args.seat.worker in
    let p = c.in-Some.running in
    let here = taken_out self w c.check-seat.ensures.job c.requires.runs c.index_mut.ensures.value c.take.ensures.value c.in-Some.is in
    record {
      running = p;
      then_running = p;
      found = here.found;
      job_is = here.job_is;
      full = ((λ e. omega (arith, c.if-len-capacity.true, c.len.ensures, c.capacity.ensures)), (λ l. refl));
      taken = record { job = refl; asked = refl; from = refl; seen = refl; room = refl; items = refl; still = λ e. refl };
      pending = set_twice self.pending.items w c.take.new.self (Some p);
    }

pub returns-clause-event : goal.returns-clause-event
returns-clause-event g c =
    let self = c.args.self.now in
    let w = c.args.seat.worker in
    let here = taken_out self w c.check-seat.ensures.job c.requires.runs c.index_mut.ensures.value c.take.ensures.value c.in-Some.is in
    subst (λ (n : ℕ). IsEventDone g.S.PageStore (Next n) c.next-session.result.1 (inside g.T.DeadRows self.live.world) (inside g.T.DeadRows c.next-session.new.self.world))
    (session_is self w (Some c.in-Some.running) here.found c.take_seat.result c.take_seat.ensures.seat) c.next-session.ensures.event

pub returns-clause-told : goal.returns-clause-told
returns-clause-told g c =
    let self = c.args.self.now in
    let w = c.args.seat.worker in
    let p = c.in-Some.running in
    let here = taken_out self w c.check-seat.ensures.job c.requires.runs c.index_mut.ensures.value c.take.ensures.value c.in-Some.is in
    let q : Pending = record p { given = c.keep_gift.new.given } in
    record {
      running = p;
      then_running = q;
      found = here.found;
      job_is = here.job_is;
      full = ((λ e. absurd cc), (λ l. absurd (omega (arith, l, c.if-len-capacity.false, c.len.ensures, c.capacity.ensures))));
      taken = record { job = refl; asked = refl; from = refl; seen = refl; room = c.keep_gift.ensures.capacity; items = c.keep_gift.ensures.items; still = λ e. absurd cc };
      pending = set_twice self.pending.items w c.take.new.self (Some q);
    }
