use Rattle.std.proofs.Common.{◌≡◌, ℕ, map, ◌++◌, ◌∷◌, [], Some, None, true, false, length, slice_set, refl, sym, ap, ◌∙◌, subst}
use Rattle.session_seats.specs.Calls.{begun_by, completed_by, completed_of}
use Rattle.session_seats.specs.Seats.{registry_with, view_of}
use Rattle.session_seats.specs.declared.seating.SessionView.{SessionView}
use Rattle.shared_world.specs.Leaving.{LeavesCall, call_begun}
use Rattle.shared_world.proofs.Imports.{Event, inside, PendingCall, IsEventDone}
use Rattle.shared_world.proofs.Words.{rows_asked}
use Rattle.shared_world.proofs.Handing.{is_next}
use Rattle.shared_world.proofs.Noting.{begun_is, not_begun, set_same}
use Rattle.shared_world.proofs.Sharing.{log_in, in_order, begun_view, done_view, runs_leaves, over_leaves}
use Rattle.shared_world.proofs.Beginning.{begun_leaves, done_leaves}
use Rattle.shared_world.proofs.live.Live.begin.Goals as goal

pub invariant_of-self : goal.invariant_of-self
invariant_of-self g c =
    let self = c.args.self.now in
    let rows = rows_asked (inside g.T.DeadRows self.world).sets c.args.asked in
    let now = rows_asked (inside g.T.DeadRows c.one-answer.new.self).sets c.notice-said.result.asked in
    let named : now ≡ rows = λ i. rows_asked (map g.T.DeadRows.is_in (c.one-answer.ensures.same.sets i).items) (c.notice-said.ensures i).asked in
    let s = c.args.seat.session in
    let one = c.one-answer.ensures in
    let look = c.check-seat.ensures in
    let k = view_of self.desk.registry in
    let p : PendingCall = call_begun c.args.asked rows c.actions-from.result (length (log_in self)) in
    in_order self c.one-answer.new.self
    (begun_leaves self c.one-answer.new.self (is_next g.T.DeadRows g.met.S.PageStore.laws one.steps one.same) s p (look.call ∙ ap Some c.requires.idle) c.beginning.result
    c.beginning.ensures c.one-answer.result one.goes one.always c.actions-from.ensures refl refl refl (begun_is c.one-answer.result (sym c.is_begun.ensures ∙ c.if-is_begun.true)))
    (begun_view k _ s _ look.registry look.session c.notice-said.result now c.begin_naming-seat.ensures.registry
    ∙ (λ i. registry_with k.log (slice_set k.pending s (Some (begun_by (named i) (c.notice-said.ensures i) (length k.log))))))

pub invariant_of-self-2 : goal.invariant_of-self-2
invariant_of-self-2 g c =
    let self = c.args.self.now in
    let rows = rows_asked (inside g.T.DeadRows self.world).sets c.args.asked in
    let now = rows_asked (inside g.T.DeadRows c.one-answer.new.self).sets c.notice-said.result.asked in
    let named : now ≡ rows = λ i. rows_asked (map g.T.DeadRows.is_in (c.one-answer.ensures.same.sets i).items) (c.notice-said.ensures i).asked in
    let s = c.args.seat.session in
    let one = c.one-answer.ensures in
    let look = c.check-seat.ensures in
    let k = view_of self.desk.registry in
    let idle = look.call ∙ ap Some c.requires.idle in
    let p : PendingCall = call_begun c.args.asked rows c.actions-from.result (length (log_in self)) in
    in_order self c.one-answer.new.self
    (done_leaves self c.one-answer.new.self (is_next g.T.DeadRows g.met.S.PageStore.laws one.steps one.same) s p idle c.beginning.result
    c.beginning.ensures c.one-answer.result one.goes one.always c.actions-from.ensures refl refl refl c.refused_calls_fit.ensures (not_begun c.one-answer.result (sym c.is_begun.ensures ∙ c.if-is_begun.false)))
    (done_view k _ s _ look.registry look.session c.notice-said.result now c.begin_naming-seat.ensures.registry c.begin_naming-seat.ensures.session c.begin_naming-seat.ensures.call c.end-seat.ensures.registry
    ∙ (λ i. registry_with (k.log ++ completed_of s (begun_by (named i) (c.notice-said.ensures i) (length k.log)) (c.notice-said.ensures i).answer (c.notice-said.ensures i).at ∷ []) (set_same k.pending s None idle i)))

pub returns-then-is_begun-clause-told : goal.returns-then-is_begun-clause-told
returns-then-is_begun-clause-told g c =
    let self = c.args.self.now in
    let rows = rows_asked (inside g.T.DeadRows self.world).sets c.args.asked in
    let now = rows_asked (inside g.T.DeadRows c.one-answer.new.self).sets c.notice-said.result.asked in
    let named : now ≡ rows = λ i. rows_asked (map g.T.DeadRows.is_in (c.one-answer.ensures.same.sets i).items) (c.notice-said.ensures i).asked in
    let s = c.args.seat.session in
    let look = c.check-seat.ensures in
    let said = c.notice-said.ensures in
    let k = view_of self.desk.registry in
    let n = view_of c.begin_naming-seat.new.desk.registry in
    let v = view_of c.args.seat.pass in
    let y = view_of c.begin_naming-seat.result.pass in
    let view = begun_view k _ s _ look.registry look.session c.notice-said.result now c.begin_naming-seat.ensures.registry
    ∙ (λ i. registry_with k.log (slice_set k.pending s (Some (begun_by (named i) (said i) (length k.log))))) in
    let leaves = runs_leaves k n v y s (call_begun c.args.asked rows c.actions-from.result (length k.log)) c.one-answer.result c.actions-from.result view
    (c.begin_naming-seat.ensures.call ∙ (λ i. Some (begun_by (named i) (said i) (length (look.registry i).log)))) (c.begin_naming-seat.ensures.calls ∙ ap (λ (u : SessionView). u.calls) look.view) in
    rw (c.turn.ensures.answer, c.turn.ensures.over, c.turn.ensures.seat)
    (subst (λ (from : ℕ). LeavesCall s false (call_begun c.args.asked rows from (length k.log)) c.one-answer.result from k n v y) c.actions-from.ensures leaves)

pub returns-clause-told : goal.returns-clause-told
returns-clause-told g c =
    let self = c.args.self.now in
    let rows = rows_asked (inside g.T.DeadRows self.world).sets c.args.asked in
    let now = rows_asked (inside g.T.DeadRows c.one-answer.new.self).sets c.notice-said.result.asked in
    let named : now ≡ rows = λ i. rows_asked (map g.T.DeadRows.is_in (c.one-answer.ensures.same.sets i).items) (c.notice-said.ensures i).asked in
    let s = c.args.seat.session in
    let look = c.check-seat.ensures in
    let said = c.notice-said.ensures in
    let k = view_of self.desk.registry in
    let l = view_of c.end-seat.new.desk.registry in
    let v = view_of c.args.seat.pass in
    let z = view_of c.end-seat.result.pass in
    let p : PendingCall = call_begun c.args.asked rows c.actions-from.result (length k.log) in
    let begun = begun_view k _ s _ look.registry look.session c.notice-said.result now c.begin_naming-seat.ensures.registry in
    let view = done_view k _ s _ look.registry look.session c.notice-said.result now c.begin_naming-seat.ensures.registry c.begin_naming-seat.ensures.session c.begin_naming-seat.ensures.call c.end-seat.ensures.registry
    ∙ (λ i. registry_with (k.log ++ completed_of s (begun_by (named i) (said i) (length k.log)) (said i).answer (said i).at ∷ []) (slice_set k.pending s None)) in
    let call = c.begin_naming-seat.ensures.call ∙ (λ i. Some (begun_by (named i) (said i) (length (look.registry i).log))) in
    let calls = c.begin_naming-seat.ensures.calls ∙ ap (λ (u : SessionView). u.calls) look.view in
    let session = c.begin_naming-seat.ensures.session ∙ look.session in
    let leaves = over_leaves k l v z s p c.one-answer.result c.actions-from.result view c.end-seat.ensures.call
    (c.end-seat.ensures.calls ∙ (λ i. calls i ++ (length (begun i).log, completed_by (session i) (said i) (call i)) ∷ [])) in
    rw (c.turn-2.ensures.answer, c.turn-2.ensures.over, c.turn-2.ensures.seat)
    (subst (λ (from : ℕ). LeavesCall s true (call_begun c.args.asked rows from (length k.log)) c.one-answer.result from k l v z) c.actions-from.ensures leaves)

pub returns-then-is_begun-clause-event : goal.returns-then-is_begun-clause-event
returns-then-is_begun-clause-event g c =
    let old = inside g.T.DeadRows c.args.self.now.world in
    let new = inside g.T.DeadRows c.one-answer.new.self in
    rw c.turn.ensures.answer (subst (λ (e : Event). IsEventDone g.S.PageStore e c.one-answer.result old new) c.beginning.ensures (record { goes = c.one-answer.ensures.goes; always = c.one-answer.ensures.always }))

pub returns-clause-event : goal.returns-clause-event
returns-clause-event g c =
    let old = inside g.T.DeadRows c.args.self.now.world in
    let new = inside g.T.DeadRows c.one-answer.new.self in
    rw c.turn-2.ensures.answer (subst (λ (e : Event). IsEventDone g.S.PageStore e c.one-answer.result old new) c.beginning.ensures (record { goes = c.one-answer.ensures.goes; always = c.one-answer.ensures.always }))
