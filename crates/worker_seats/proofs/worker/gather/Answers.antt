use Rattle.std.proofs.Common.{◌≡◌, ◌+◌, ◌++◌, ◌∷◌, [], sym, ap, ◌∙◌, arith, length-append, append_assoc}
use Rattle.crossbeam_queue.specs.Passes.{view}
use Rattle.worker_seats.specs.Queue.{jobs_in, weigh}
use Rattle.worker_seats.specs.Seats.{known_by}
use Rattle.worker_seats.specs.declared.job_queue.QueueView.{QueueView}
use Rattle.worker_seats.proofs.Counting.{sum_over_snoc, map_snoc}
use Rattle.worker_seats.proofs.Queueing.{merges_of, weigh-append}
use Rattle.worker_seats.proofs.worker.gather.Goals as goal

pub absorb-requires-clause-rule : goal.absorb-requires-clause-rule
absorb-requires-clause-rule g c = merges_of g.T.Ticket.job _ _ _ _ c.loop-worker.invariant.1

pub loop-worker-preserved : goal.loop-worker-preserved
loop-worker-preserved g c =
    let i = c.loop-worker.invariant in
    let yielded = c.loop-worker.yielded in
    let w = c.in-Some.worker in
    let fewer = c.in-Some.ensures.steps.1 in
    let rule = c.absorb.ensures.rule in
    let queue = c.absorb.ensures.queue in
    let more = length-append yielded (w ∷ []) in
    let parts : (view c.absorb.new.pass).parts ≡ (view c.loop-worker.pass).parts + (view w.pass).parts = ap (λ (v : QueueView). v.parts) rule in (
      (queue.0 ∙ i.0.0, queue.2 ∙ i.0.1),
      omega (arith, parts, i.1),
      omega (arith, parts, w.part, i.2, more),
      ap (λ (v : QueueView). v.pushed) rule ∙ i.3,
      (λ h.
          let both : weigh h (view c.absorb.new.pass).popped ≡ weigh h (view c.loop-worker.pass).popped + weigh h (view w.pass).popped =
          ap (λ (v : QueueView). weigh h v.popped) rule ∙ weigh-append h (view c.loop-worker.pass).popped (view w.pass).popped in
          let own : weigh h (view w.pass).popped ≡ weigh h (jobs_in (known_by w.seat.pass).notes) = ap (weigh h) w.popped in
          omega (arith, both, own, i.4 h, sum_over_snoc (λ w. weigh h (jobs_in (known_by w.seat.pass).notes)) yielded w)),
      c.push_reserved.ensures.items ∙ ap (λ l. l ++ w.seat ∷ []) i.5 ∙ append_assoc c.args.seats.now.items _ (w.seat ∷ [])
          ∙ ap (λ l. c.args.seats.now.items ++ l) (sym (map_snoc (λ w. w.seat) yielded w)),
      omega (arith, c.push_reserved.ensures.len, i.6, fewer),
      c.push_reserved.ensures.capacity ∙ i.7,
      c.push_reserved-in-loop-worker.ensures.items ∙ ap (λ l. l ++ w.hand ∷ []) i.8 ∙ append_assoc c.args.hands.now.items _ (w.hand ∷ [])
          ∙ ap (λ l. c.args.hands.now.items ++ l) (sym (map_snoc (λ w. w.hand) yielded w)),
      omega (arith, c.push_reserved-in-loop-worker.ensures.len, i.9, fewer),
      c.push_reserved-in-loop-worker.ensures.capacity ∙ i.10,
    )
