use Rattle.std.proofs.Common.{◌≡◌, ◌+◌, ◌++◌, ◌∷◌, [], List, Option, None, slice_get, IfSome, sym, ap, ◌∙◌, subst, arith}
use Rattle.worker_seats.specs.declared.job_queue.QueueView.{QueueView}
use Rattle.sessions.proofs.Imports.{SeatView, registry_of, some_snoc, Pending, jobs_of}
use Rattle.sessions.proofs.Hiring.{jobs_of_snoc, none_snoc}
use Rattle.sessions.proofs.run_threads.start_all.Goals as goal

pub another-mine-requires-clause-two : goal.another-mine-requires-clause-two
another-mine-requires-clause-two g c = omega (arith, c.loop-w.invariant.1.1, c.loop-w-test.true, c.requires.few)

pub loop-w-preserved : goal.loop-w-preserved
loop-w-preserved g c =
    let i = c.loop-w.invariant in
    let pending = c.loop-w.pending in
    let v = c.another-mine.ensures.left in
    let items = c.push_reserved.ensures.items in
    let handles = c.loop-w.handles in (
      c.open-seat.ensures.registry ∙ ap (λ (x : SeatView). registry_of [] (x.running ++ None ∷ [])) i.0 ∙ ap (registry_of []) (sym (ap jobs_of items ∙ jobs_of_snoc pending.items None)),
      (
        c.another-mine.ensures.queue,
        (let less = ap (λ (x : QueueView). x.parts) v in omega (arith, less, i.1.1, c.loop-w-test.true, c.requires.few)),
        ap (λ (x : QueueView). x.pushed) v ∙ i.1.2,
        ap (λ (x : QueueView). x.popped) v ∙ i.1.3,
      ),
      (omega (arith, c.split_off-share.ensures.parts_left, i.2.0), omega (arith, c.split_off-share.ensures.amount_left, i.2.1)),
      (
        c.push_reserved.ensures.len ∙ ap (λ n. n + 1) i.3.0,
        c.push_reserved.ensures.capacity ∙ i.3.1,
        (λ k p e. none_snoc pending.items i.3.2 k p (ap (λ (xs : List (Option Pending)). slice_get xs k) (sym items) ∙ e)),
      ),
      (
        c.push_reserved-in-Ok.ensures.len ∙ ap (λ n. n + 1) i.4.0,
        c.push_reserved-in-Ok.ensures.capacity ∙ i.4.1,
        (λ k. subst (λ xs. IfSome (slice_get xs k) (λ h. h.promise.0 ≡ k)) (sym c.push_reserved-in-Ok.ensures.items)
            (some_snoc (λ n h. h.promise.0 ≡ n) handles.items c.in-Ok.handle i.4.2 (ap (λ p. p.0) c.in-Ok.ensures.ok ∙ sym (sym handles.ok.0 ∙ i.4.0)) k)),
      ),
    )
