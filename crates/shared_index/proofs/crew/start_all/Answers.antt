use Rattle.std.proofs.Common.{rules, ◌≡◌, ◌+◌, ◌++◌, ◌∷◌, [], ℕ, List, Option, None, suc, length, slice_get, IfSome, sym, ap, ◌∙◌, subst, arith, length-append, append_assoc}
use Rattle.session_seats.specs.declared.call.CompletedCall.{CompletedCall}
use Rattle.session_seats.specs.declared.call.PendingCall.{PendingCall}
use Rattle.shared_index.specs.Sessions.{calls_had, open_scan}
use Rattle.shared_index.specs.Told.{AreFresh, standing_of}
use Rattle.shared_index.proofs.Rows.{some_snoc, some_middle}
use Rattle.shared_index.proofs.crew.start_all.Goals as goal

pub loop-session-preserved : goal.loop-session-preserved
loop-session-preserved g c =
    let i = c.loop-session.invariant in
    let handles = c.loop-session.handles in
    let yielded = c.loop-session.yielded in
    let s = c.in-Some.session in
    let rest = c.in-Some.ensures.steps.0 in
    let fewer = c.in-Some.ensures.steps.1 in
    let more = length-append yielded (s ∷ []) in
    let fresh : AreFresh 1 (yielded ++ s ∷ c.next.new.self.rest.items) = λ k. subst (λ l. IfSome (slice_get (yielded ++ l) k) (λ s. standing_of s ≡ ((1 + k, []), None))) rest (i.3 k) in
    let here : standing_of s ≡ ((1 + length yielded, []), None) = some_middle (λ n s. standing_of s ≡ ((1 + n, []), None)) yielded s c.next.new.self.rest.items fresh in
    let number = ap (λ (t : (ℕ × List (ℕ × CompletedCall)) × Option PendingCall). (t.0).0) here in
    let mine = ap (λ p. p.0) c.in-Ok.ensures.ok in (
      omega (arith, c.push_reserved.ensures.len, i.0, more),
      c.push_reserved.ensures.capacity ∙ i.1,
      (λ k. subst (λ xs. IfSome (slice_get xs k) (λ h. h.promise.0 ≡ suc k)) (sym c.push_reserved.ensures.items)
          (some_snoc (λ n h. h.promise.0 ≡ suc n) handles.items c.in-Ok.handle i.2 (omega (arith, mine, c.number-number.ensures, number, handles.ok.0, i.0)) k)),
      (λ k. subst (λ l. IfSome (slice_get l k) (λ s. standing_of s ≡ ((1 + k, []), None))) (sym (append_assoc yielded (s ∷ []) c.next.new.self.rest.items)) (fresh k)),
      omega (arith, more, i.4, fewer),
    )

pub spawn_with-requires-clause-runs : goal.spawn_with-requires-clause-runs
spawn_with-requires-clause-runs g c κs within =
    let yielded = c.loop-session.yielded in
    let s = c.in-Some.session in
    let after = c.next.new.self.rest.items in
    let here : standing_of s ≡ ((1 + length yielded, []), None) = some_middle (λ n s. standing_of s ≡ ((1 + n, []), None)) yielded s after
    (λ k. subst (λ l. IfSome (slice_get (yielded ++ l) k) (λ s. standing_of s ≡ ((1 + k, []), None))) c.in-Some.ensures.steps.0 (c.loop-session.invariant.3 k)) in
    let fresh : calls_had s.seat ≡ [] = ap (λ (t : (ℕ × List (ℕ × CompletedCall)) × Option PendingCall). (t.0).1) here in
    let rests : open_scan s.seat ≡ None = ap (λ (t : (ℕ × List (ℕ × CompletedCall)) × Option PendingCall). t.1) here in
    (fresh, (rests, (search rules)))
