use Rattle.std.proofs.Common.{◌≡◌, ◌++◌, ◌∷◌, [], ℕ, length, slice_get, IfSome, sym, ◌∙◌, subst, arith, length-append, append_assoc}
use Rattle.worker_seats.proofs.Rows.{some_snoc, some_middle}
use Rattle.sessions.proofs.run_threads.joined.Goals as goal

pub loop-handle-preserved : goal.loop-handle-preserved
loop-handle-preserved g c =
    let i = c.loop-handle.invariant in
    let returned = c.loop-handle.returned in
    let yielded = c.loop-handle.yielded in
    let h = c.in-Some.handle in
    let rest = c.in-Some.ensures.steps.0 in
    let fewer = c.in-Some.ensures.steps.1 in
    let more = length-append yielded (h ∷ []) in
    let each : (k : ℕ) → IfSome (slice_get (yielded ++ h ∷ c.next.new.self.rest.items) k) (λ h. h.promise.0 ≡ k) = λ k.
    subst (λ l. IfSome (slice_get (yielded ++ l) k) (λ h. h.promise.0 ≡ k)) rest (i.3 k) in
    let here : h.promise.0 ≡ length yielded = some_middle (λ n h. h.promise.0 ≡ n) yielded h c.next.new.self.rest.items each in (
      omega (arith, c.push_reserved.ensures.len, i.0, more),
      c.push_reserved.ensures.capacity ∙ i.1,
      (λ k. subst (λ xs. IfSome (slice_get xs k) (λ x. x.seat.worker ≡ k)) (sym c.push_reserved.ensures.items)
          (some_snoc (λ n x. x.seat.worker ≡ n) returned.items c.join.result i.2 (c.join.ensures ∙ here ∙ sym (sym returned.ok.0 ∙ i.0)) k)),
      (λ k. subst (λ l. IfSome (slice_get l k) (λ h. h.promise.0 ≡ k)) (sym (append_assoc yielded (h ∷ []) c.next.new.self.rest.items)) (each k)),
      omega (arith, more, i.4, fewer),
    )
