use Rattle.std.proofs.Common.{◌≡◌, ◌++◌, ◌∷◌, [], ℕ, Some, None, length, slice_get, slice_set, vec_capacity, refl, sym, ap, ◌∙◌, subst}
use Rattle.shared_world.specs.Leaving.{call_begun}
use Rattle.shared_world.proofs.Imports.{IsRoomOf, registry_of, known_by, event_of, inside, Pending, Record, PendingCall, IsEventDone, record_of, pending_call}
use Rattle.shared_world.specs.Rows.{rows_in}
use Rattle.shared_world.proofs.Words.{rows_asked}
use Rattle.shared_world.proofs.Sharing.{asked_the_same}
use Rattle.shared_world.proofs.Noting.{set_same}
use Rattle.shared_world.proofs.Listing.{length_completed}
use Rattle.shared_world.proofs.Beginning.{begins_no_end}
use Rattle.shared_world.proofs.Serving.{registry_in, idle_at, seat_there, session_is, call_is, leaves_at, place_within, served_on, served_done}
use Rattle.shared_world.proofs.shared.Shared.begin.Goals as goal

pub take_seat-requires : goal.take_seat-requires
take_seat-requires g c =
    let self = c.args.self.now in
    record { there = seat_there self c.args.seat.worker None (idle_at self c.args.seat.worker c.check-seat.ensures.job c.requires.idle) }

pub begin-turn-requires : goal.begin-turn-requires
begin-turn-requires g c =
    let self = c.args.self.now in
    record { idle = call_is self c.args.seat.worker None (idle_at self c.args.seat.worker c.check-seat.ensures.job c.requires.idle) c.take_seat.result c.take_seat.ensures.seat }

pub put_seat-requires : goal.put_seat-requires
put_seat-requires g c =
    let self = c.args.self.now in
    record { inside = place_within self c.args.seat.worker None (idle_at self c.args.seat.worker c.check-seat.ensures.job c.requires.idle) c.take_seat.result c.take_seat.ensures.seat c.take_seat.ensures.taken }

pub invariant_of-self : goal.invariant_of-self
invariant_of-self g c =
    let self = c.args.self.now in
    let w = c.args.seat.worker in
    let idle = idle_at self w c.check-seat.ensures.job c.requires.idle in
    let seat = c.take_seat.result in
    let there = c.take_seat.ensures.seat in
    let turn = c.begin-turn in
    let is = session_is self w None idle seat there in
    let q = c.running-running.result in
    let e = c.running-running.ensures in
    let job = ap (λ (x : Pending). x.job) (sym e) in
    let handed = g.J.Origin.handed.sets in
    let rows = rows_asked (inside g.T.DeadRows self.live.world).sets c.args.asked in
    let named : rows ≡ rows_asked handed c.args.asked = ap rows_in (asked_the_same self.live c.args.asked self.stays) in
    let p : PendingCall = call_begun c.args.asked rows (g.S.PageStore.state self.live.world.store).acts (length (registry_in self).log) in
    let long = ap length self.told ∙ length_completed handed self.history.items ∙ sym (c.len-seen.ensures ∙ self.history.ok.0) in
    let same : p ≡ pending_call handed q = (λ i. record { asked = c.args.asked; rows = named i; given = sym c.requires.given i; from = sym c.actions-from.ensures i; seen = long i }) ∙ ap (pending_call handed) (sym e) in
    let leaves = leaves_at self w None idle seat there c.if-over.true (sym c.actions-from.ensures) turn.ensures.told in
    let always = subst (λ (n : ℕ). IsEventDone g.S.PageStore (event_of n c.args.asked) turn.result.answer (inside g.T.DeadRows self.live.world) (inside g.T.DeadRows turn.new.self.world)) is turn.ensures.event in
    served_done self w None idle seat there turn.result.seat c.take_seat.ensures.taken c.put_seat.ensures.put turn.ensures.session q
    leaves same (subst (λ (x : Pending). slice_get g.J.Jobs.jobs x.job ≡ Some x.asked) (sym e) c.requires.job)
    (λ e. absurd (begins_no_end g.S.PageStore w c.args.asked turn.result.answer _ _ always.always e))
    (sym (set_same self.pending.items w None idle)) c.push_reserved.ensures.items c.record.ensures c.push_reserved.ensures.len c.push_reserved.ensures.capacity
    c.end-seat.ensures.book c.check-seat.ensures.registry c.check-seat.ensures.worker
    (c.end-seat.ensures.registry ∙ (λ i. registry_of ((known_by c.check-seat.new.desk.registry).log ++ (c.check-seat.result.worker, job i) ∷ []) (slice_set (known_by c.check-seat.new.desk.registry).running c.check-seat.result.worker None)))

pub invariant_of-self-2 : goal.invariant_of-self-2
invariant_of-self-2 g c =
    let self = c.args.self.now in
    let w = c.args.seat.worker in
    let idle = idle_at self w c.check-seat.ensures.job c.requires.idle in
    let seat = c.take_seat.result in
    let there = c.take_seat.ensures.seat in
    let turn = c.begin-turn in
    let is = session_is self w None idle seat there in
    let q = c.running-running.result in
    let e = c.running-running.ensures in
    let job = ap (λ (x : Pending). x.job) (sym e) in
    let handed = g.J.Origin.handed.sets in
    let rows = rows_asked (inside g.T.DeadRows self.live.world).sets c.args.asked in
    let named : rows ≡ rows_asked handed c.args.asked = ap rows_in (asked_the_same self.live c.args.asked self.stays) in
    let p : PendingCall = call_begun c.args.asked rows (g.S.PageStore.state self.live.world.store).acts (length (registry_in self).log) in
    let long = ap length self.told ∙ length_completed handed self.history.items ∙ sym (c.len-seen.ensures ∙ self.history.ok.0) in
    let same : p ≡ pending_call handed q = (λ i. record { asked = c.args.asked; rows = named i; given = sym c.requires.given i; from = sym c.actions-from.ensures i; seen = long i }) ∙ ap (pending_call handed) (sym e) in
    let leaves = leaves_at self w None idle seat there c.if-over.false refl turn.ensures.told in
    let v = c.check-seat.ensures.registry ∙ self.knows in
    served_on self w None idle seat there turn.result.seat c.take_seat.ensures.taken c.put_seat.ensures.put turn.ensures.session q leaves same
    (subst (λ (x : Pending). slice_get g.J.Jobs.jobs x.job ≡ Some x.asked) (sym e) c.requires.job) (subst (λ (x : Pending). IsRoomOf x.asked (vec_capacity x.given)) (sym e) c.requires.holds)
    refl (c.start-seat.ensures.registry ∙ (λ i. registry_of (v i).log (slice_set (v i).running (c.check-seat.ensures.worker i) (Some (job i)))))

pub returns-then-over-clause-event : goal.returns-then-over-clause-event
returns-then-over-clause-event g c =
    let self = c.args.self.now in
    let w = c.args.seat.worker in
    let idle = idle_at self w c.check-seat.ensures.job c.requires.idle in
    let done = subst (λ (n : ℕ). IsEventDone g.S.PageStore (event_of n c.args.asked) c.begin-turn.result.answer (inside g.T.DeadRows self.live.world) (inside g.T.DeadRows c.begin-turn.new.self.world))
    (session_is self w None idle c.take_seat.result c.take_seat.ensures.seat) c.begin-turn.ensures.event in
    rw c.told.ensures.answer done

pub returns-clause-event : goal.returns-clause-event
returns-clause-event g c =
    let self = c.args.self.now in
    let w = c.args.seat.worker in
    let idle = idle_at self w c.check-seat.ensures.job c.requires.idle in
    let done = subst (λ (n : ℕ). IsEventDone g.S.PageStore (event_of n c.args.asked) c.begin-turn.result.answer (inside g.T.DeadRows self.live.world) (inside g.T.DeadRows c.begin-turn.new.self.world))
    (session_is self w None idle c.take_seat.result c.take_seat.ensures.seat) c.begin-turn.ensures.event in
    rw c.told-2.ensures.answer done

pub returns-then-over-clause-told : goal.returns-then-over-clause-told
returns-then-over-clause-told g c =
    let history = c.args.self.now.history in
    let w = c.args.seat.worker in
    let from = c.actions-from.ensures in
    let seen = c.len-seen.ensures ∙ history.ok.0 in
    rw (c.told.ensures.answer, c.told.ensures.place) (record {
      history = (
        seen,
        c.push_reserved.ensures.items ∙ ap (λ (x : Record). history.items ++ x ∷ [])
            (c.record.ensures ∙ (λ i. record_of w (c.running-running.ensures i) c.begin-turn.result.answer c.actions-from.result)
            ∙ (λ i. record_of w (record { job = c.args.job; asked = c.args.asked; given = c.args.given; from = from i; seen = seen i }) c.begin-turn.result.answer (from i))),
      );
      pending = refl;
    })

pub returns-clause-told : goal.returns-clause-told
returns-clause-told g c =
    let from = c.actions-from.ensures in
    let seen = c.len-seen.ensures ∙ c.args.self.now.history.ok.0 in
    rw (c.told-2.ensures.answer, c.told-2.ensures.place) (record {
      history = refl;
      pending = ap (λ (x : Pending). slice_set c.args.self.now.pending.items c.args.seat.worker (Some x))
          (c.running-running.ensures ∙ (λ i. record { job = c.args.job; asked = c.args.asked; given = c.args.given; from = from i; seen = seen i }));
    })
