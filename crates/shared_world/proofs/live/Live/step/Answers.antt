use Rattle.std.proofs.Common.{ℕ, ◌++◌, ◌∷◌, [], None, true, length, slice_set, sym, ap, ◌∙◌, subst}
use Rattle.session_seats.specs.Calls.{completed_by, completed_of}
use Rattle.session_seats.specs.Seats.{registry_with, view_of}
use Rattle.session_seats.specs.declared.call.Notice.{Notice}
use Rattle.shared_world.specs.Leaving.{LeavesCall, call_in}
use Rattle.shared_world.proofs.Handing.{is_next}
use Rattle.shared_world.proofs.Sharing.{running_at, in_order, ended_view, ran, still_leaves, over_leaves}
use Rattle.shared_world.proofs.Stepping.{step_leaves_on, step_leaves_last}
use Rattle.shared_world.proofs.live.Live.step.Goals as goal

pub invariant_of-self : goal.invariant_of-self
invariant_of-self g c =
    let self = c.args.self.now in
    let did = c.take_step-answer.ensures in
    let look = c.check-seat.ensures in
    in_order self c.take_step-answer.new.self
    (step_leaves_on self c.take_step-answer.new.self c.one_call_runs.ensures (is_next g.T.DeadRows g.met.S.PageStore.laws did.steps did.same) c.args.seat.session
    (running_at self c.args.seat.session look.call c.requires.runs) c.take_step-answer.result did.goes did.events did.always (sym c.is_running.ensures.value ∙ c.if-is_running.true))
    (look.registry ∙ self.desk.rests)

pub invariant_of-self-2 : goal.invariant_of-self-2
invariant_of-self-2 g c =
    let self = c.args.self.now in
    let s = c.args.seat.session in
    let did = c.take_step-answer.ensures in
    let look = c.check-seat.ensures in
    let k = view_of self.desk.registry in
    let p = call_in (view_of c.args.seat.pass) in
    in_order self c.take_step-answer.new.self
    (step_leaves_last self c.take_step-answer.new.self c.one_call_runs.ensures (is_next g.T.DeadRows g.met.S.PageStore.laws did.steps did.same) s
    (running_at self s look.call c.requires.runs) c.take_step-answer.result did.goes did.events did.always (sym c.is_running.ensures.value ∙ c.if-is_running.false) c.actions.result c.actions.ensures)
    (ended_view k _ s _ look.registry look.session c.notice-said.result p (ran look.view c.requires.runs) c.end-seat.ensures.registry
    ∙ ap (λ (x : Notice). registry_with (k.log ++ completed_of s p x.answer x.at ∷ []) (slice_set k.pending s None)) c.notice-said.ensures)

pub returns-then-is_running-clause-told : goal.returns-then-is_running-clause-told
returns-then-is_running-clause-told g c =
    let look = c.check-seat.ensures in
    rw (c.turn.ensures.answer, c.turn.ensures.over, c.turn.ensures.seat)
    (still_leaves (view_of c.args.self.now.desk.registry) (view_of c.check-seat.new.desk.registry) (view_of c.args.seat.pass) (view_of c.check-seat.result.pass) c.args.seat.session (call_in (view_of c.args.seat.pass)) c.take_step-answer.result _
    look.registry look.view look.call c.requires.runs)

pub returns-clause-told : goal.returns-clause-told
returns-clause-told g c =
    let s = c.args.seat.session in
    let look = c.check-seat.ensures in
    let said = c.notice-said.ensures in
    let k = view_of c.args.self.now.desk.registry in
    let n = view_of c.end-seat.new.desk.registry in
    let v = view_of c.args.seat.pass in
    let y = view_of c.end-seat.result.pass in
    let p = call_in v in
    let view = ended_view k _ s _ look.registry look.session c.notice-said.result p (ran look.view c.requires.runs) c.end-seat.ensures.registry
    ∙ ap (λ (x : Notice). registry_with (k.log ++ completed_of s p x.answer x.at ∷ []) (slice_set k.pending s None)) said in
    let calls = c.end-seat.ensures.calls ∙ (λ i. (look.view i).calls ++ (length (look.registry i).log, completed_by (look.session i) (said i) (ran look.view c.requires.runs i)) ∷ []) in
    rw (c.turn-2.ensures.answer, c.turn-2.ensures.over, c.turn-2.ensures.seat)
    (subst (λ (to : ℕ). LeavesCall s true p c.take_step-answer.result to k n v y) c.actions.ensures (over_leaves k n v y s p c.take_step-answer.result c.actions.result view c.end-seat.ensures.call calls))
