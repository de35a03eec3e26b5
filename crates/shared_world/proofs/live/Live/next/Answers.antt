use Rattle.std.proofs.Common.{Some, slice_set, ap, ◌∙◌}
use Rattle.session_seats.specs.Calls.{given_by, given_more}
use Rattle.session_seats.specs.Seats.{registry_with, view_of}
use Rattle.session_seats.specs.declared.call.Notice.{Notice}
use Rattle.session_seats.specs.declared.seating.SessionView.{SessionView}
use Rattle.shared_world.specs.Leaving.{call_in}
use Rattle.shared_world.proofs.Handing.{is_next}
use Rattle.shared_world.proofs.Sharing.{running_at, in_order, given_view, ran, runs_leaves}
use Rattle.shared_world.proofs.Asking.{next_leaves}
use Rattle.shared_world.proofs.live.Live.next.Goals as goal

pub invariant_of-self : goal.invariant_of-self
invariant_of-self g c =
    let self = c.args.self.now in
    let s = c.args.seat.session in
    let one = c.one-answer.ensures in
    let look = c.check-seat.ensures in
    let k = view_of self.desk.registry in
    let p = call_in (view_of c.args.seat.pass) in
    in_order self c.one-answer.new.self
    (next_leaves self c.one-answer.new.self c.one_call_runs.ensures (is_next g.T.DeadRows g.met.S.PageStore.laws one.steps one.same) s
    (running_at self s look.call c.requires.runs) c.one-answer.result (record { goes = one.goes; always = one.always }) c.requires.room)
    (given_view k _ s _ look.registry look.session c.notice-said.result p (ran look.view c.requires.runs) c.gave-seat.ensures.registry
    ∙ ap (λ (x : Notice). registry_with k.log (slice_set k.pending s (Some (given_more p x.answer)))) c.notice-said.ensures)

pub returns-clause-told : goal.returns-clause-told
returns-clause-told g c =
    let s = c.args.seat.session in
    let look = c.check-seat.ensures in
    let said = c.notice-said.ensures in
    let k = view_of c.args.self.now.desk.registry in
    let n = view_of c.gave-seat.new.desk.registry in
    let v = view_of c.args.seat.pass in
    let y = view_of c.gave-seat.result.pass in
    let p = call_in v in
    runs_leaves k n v y s (given_more p c.one-answer.result) c.one-answer.result 0
    (given_view k _ s _ look.registry look.session c.notice-said.result p (ran look.view c.requires.runs) c.gave-seat.ensures.registry
    ∙ ap (λ (x : Notice). registry_with k.log (slice_set k.pending s (Some (given_more p x.answer)))) said)
    (c.gave-seat.ensures.call ∙ (λ i. given_by (said i) (ran look.view c.requires.runs i)))
    (c.gave-seat.ensures.calls ∙ ap (λ (u : SessionView). u.calls) look.view)
