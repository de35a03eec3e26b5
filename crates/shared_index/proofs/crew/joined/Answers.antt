use Rattle.std.proofs.Common.{◌≡◌, ◌++◌, ◌∷◌, [], ℕ, suc, length, slice_get, IfSome, sym, ap, ◌∙◌, subst, arith, length-append, append_assoc}
use Rattle.std.proofs.lemmas.List.{length-map, map-append}
use Rattle.shared_index.specs.Told.{HaveLearnt, all_told, told_by}
use Rattle.shared_index.proofs.Learning.{learnt_snoc}
use Rattle.shared_index.proofs.Rows.{some_middle}
use Rattle.shared_index.proofs.crew.joined.Goals as goal

pub loop-handle-preserved : goal.loop-handle-preserved
loop-handle-preserved g c =
    let i = c.loop-handle.invariant in
    let sessions = c.loop-handle.sessions in
    let outs = c.loop-handle.outs in
    let yielded = c.loop-handle.yielded in
    let h = c.in-Some.handle in
    let rest = c.in-Some.ensures.steps.0 in
    let fewer = c.in-Some.ensures.steps.1 in
    let more = length-append yielded (h ∷ []) in
    let seat = c.push_reserved.ensures in
    let out = c.push_reserved-in-loop-handle.ensures in
    let one = c.join-session.result in
    let each : (k : ℕ) → IfSome (slice_get (yielded ++ h ∷ c.next.new.self.rest.items) k) (λ h. h.promise.0 ≡ suc k) = λ k.
    subst (λ l. IfSome (slice_get (yielded ++ l) k) (λ h. h.promise.0 ≡ suc k)) rest (i.5 k) in
    let here : h.promise.0 ≡ suc (length yielded) = some_middle (λ n h. h.promise.0 ≡ suc n) yielded h c.next.new.self.rest.items each in
    let told : all_told c.push_reserved.new.self.items ≡ all_told sessions.items ++ told_by one.session ∷ [] =
    ap (λ l. all_told l) seat.items ∙ map-append (λ s. told_by s) sessions.items (one.session ∷ []) in
    let long = length-map sessions.items (λ s. told_by s) in (
      omega (arith, seat.len, i.0, more),
      seat.capacity ∙ i.1,
      omega (arith, out.len, i.2, more),
      out.capacity ∙ i.3,
      subst (λ t. HaveLearnt g.C.Client.learnt c.push_reserved-in-loop-handle.new.self.items t) (sym told)
          (subst (λ o. HaveLearnt g.C.Client.learnt o (all_told sessions.items ++ told_by one.session ∷ [])) (sym out.items)
          (learnt_snoc g.C.Client.learnt outs.items (all_told sessions.items) one.out (told_by one.session) i.4 (omega (arith, c.join-session.ensures.0, here, long, sessions.ok.0, i.0)) c.join-session.ensures.1)),
      (λ k. subst (λ l. IfSome (slice_get l k) (λ h. h.promise.0 ≡ suc k)) (sym (append_assoc yielded (h ∷ []) c.next.new.self.rest.items)) (each k)),
      omega (arith, more, i.6, fewer),
    )
