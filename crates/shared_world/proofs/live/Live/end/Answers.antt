use Rattle.std.proofs.Common.{ℕ, ◌++◌, ◌∷◌, [], None, true, length, slice_set, ap, ◌∙◌, subst}
use Rattle.session_seats.specs.Calls.{completed_by, completed_of}
use Rattle.session_seats.specs.Seats.{registry_with, view_of}
use Rattle.session_seats.specs.declared.call.Notice.{Notice}
use Rattle.shared_world.specs.Leaving.{LeavesCall, call_in}
use Rattle.shared_world.proofs.Imports.{Answer, End, inside, IsEventDone}
use Rattle.shared_world.proofs.Handing.{is_next}
use Rattle.shared_world.proofs.Sharing.{running_at, in_order, ended_view, ran, over_leaves}
use Rattle.shared_world.proofs.Asking.{end_answers, end_leaves}
use Rattle.shared_world.proofs.live.Live.end.Goals as goal

pub invariant_of-self : goal.invariant_of-self
invariant_of-self g c =
    let self = c.args.self.now in
    let s = c.args.seat.session in
    let one = c.one-answer.ensures in
    let look = c.check-seat.ensures in
    let k = view_of self.desk.registry in
    let p = call_in (view_of c.args.seat.pass) in
    in_order self c.one-answer.new.self
    (end_leaves self c.one-answer.new.self c.one_call_runs.ensures (is_next g.T.DeadRows g.met.S.PageStore.laws one.steps one.same) s
    (running_at self s look.call c.requires.runs) c.ready_entries_may_come_next.ensures c.one-answer.result (record { goes = one.goes; always = one.always }) c.requires.may c.actions.result c.actions.ensures)
    (ended_view k _ s _ look.registry look.session c.notice-said.result p (ran look.view c.requires.runs) c.end.ensures.registry
    ∙ ap (λ (x : Notice). registry_with (k.log ++ completed_of s p x.answer x.at ∷ []) (slice_set k.pending s None)) c.notice-said.ensures)

pub returns-clause-event : goal.returns-clause-event
returns-clause-event g c =
    let old = inside g.T.DeadRows c.args.self.now.world in
    let new = inside g.T.DeadRows c.one-answer.new.self in
    let at = running_at c.args.self.now c.args.seat.session c.check-seat.ensures.call c.requires.runs in
    let did : IsEventDone g.S.PageStore (End c.args.seat.session) c.one-answer.result old new = record { goes = c.one-answer.ensures.goes; always = c.one-answer.ensures.always } in
    subst (λ (a : Answer). IsEventDone g.S.PageStore (End c.args.seat.session) a old new) (end_answers g.S.PageStore old new c.args.seat.session at.has c.one-answer.result did) did

pub returns-clause-told : goal.returns-clause-told
returns-clause-told g c =
    let self = c.args.self.now in
    let s = c.args.seat.session in
    let look = c.check-seat.ensures in
    let said = c.notice-said.ensures in
    let k = view_of self.desk.registry in
    let n = view_of c.end.new.desk.registry in
    let v = view_of c.args.seat.pass in
    let y = view_of c.end.result.pass in
    let p = call_in v in
    let at = running_at self s look.call c.requires.runs in
    let ended = end_answers g.S.PageStore (inside g.T.DeadRows self.world) (inside g.T.DeadRows c.one-answer.new.self) s at.has c.one-answer.result
    (record { goes = c.one-answer.ensures.goes; always = c.one-answer.ensures.always }) in
    let view = ended_view k _ s _ look.registry look.session c.notice-said.result p (ran look.view c.requires.runs) c.end.ensures.registry
    ∙ ap (λ (x : Notice). registry_with (k.log ++ completed_of s p x.answer x.at ∷ []) (slice_set k.pending s None)) said in
    let calls = c.end.ensures.calls ∙ (λ i. (look.view i).calls ++ (length (look.registry i).log, completed_by (look.session i) (said i) (ran look.view c.requires.runs i)) ∷ []) in
    subst (λ (x : Answer × ℕ). LeavesCall s true p x.0 x.1 k n v y) (λ i. (ended i, c.actions.ensures i)) (over_leaves k n v y s p c.one-answer.result c.actions.result view c.end.ensures.call calls)
