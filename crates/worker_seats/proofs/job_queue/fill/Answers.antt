use Rattle.std.proofs.Common.{◌≡◌, ◌+◌, ◌++◌, ◌∷◌, [], length, IfSome, slice_get, sym, ap, subst, ◌∙◌, arith, length-append, append_assoc}
use Rattle.crossbeam_queue.specs.Passes.{view, ruled_capacity}
use Rattle.worker_seats.specs.Queue.{queue_view}
use Rattle.worker_seats.specs.declared.job_queue.QueueView.{QueueView}
use Rattle.worker_seats.proofs.Counting.{not_full}
use Rattle.worker_seats.proofs.Queueing.{pushes_of, learns_of}
use Rattle.worker_seats.proofs.Rows.{some_middle}
use Rattle.worker_seats.proofs.job_queue.fill.Goals as goal

pub push_as-requires-clause-rule : goal.push_as-requires-clause-rule
push_as-requires-clause-rule g c =
    let i = c.loop-ticket.invariant in
    let t = c.in-Some.ticket in
    let rest = c.in-Some.ensures.steps.0 in
    let job = g.T.Ticket.job in
    let here = some_middle (λ n t. job t ≡ n) c.loop-ticket.yielded t _ (λ k. subst (λ l. IfSome (slice_get (c.loop-ticket.yielded ++ l) k) (λ t. job t ≡ k)) rest (i.3 k)) in
    (pushes_of job _ _ _ _ (ap (λ (v : QueueView). v.parts) i.1) (here ∙ sym (ap (λ (v : QueueView). v.pushed) i.1)), learns_of job _ _)

pub unreachable-requires : goal.unreachable-requires
unreachable-requires g c =
    let i = c.loop-ticket.invariant in
    not_full g.T.Ticket.job (ruled_capacity c.args.queue.now) (length c.loop-ticket.yielded) (view c.loop-ticket.pass) i.1
    (omega (arith, i.2, c.in-Some.ensures.steps.1, c.requires.room)) c.in_default.ensures.rule.2

pub loop-ticket-preserved : goal.loop-ticket-preserved
loop-ticket-preserved g c =
    let i = c.loop-ticket.invariant in
    let yielded = c.loop-ticket.yielded in
    let t = c.in-Some.ticket in
    let after = c.next.new.self.rest.items in
    let rest = c.in-Some.ensures.steps.0 in
    let more = length-append yielded (t ∷ []) in
    let queue = c.push_as.ensures.queue in
    let pushed = c.in-Ok.ensures.rule in (
      (queue.0 ∙ i.0.0, queue.2 ∙ i.0.1),
      pushed ∙ ap (λ (v : QueueView). queue_view v.parts (v.pushed + 1) v.popped) i.1 ∙ ap (λ n. queue_view 1024 n []) (sym more),
      omega (arith, more, i.2, c.in-Some.ensures.steps.1),
      (λ k. subst (λ l. IfSome (slice_get l k) (λ t. g.T.Ticket.job t ≡ k)) (sym (append_assoc yielded (t ∷ []) after))
          (subst (λ l. IfSome (slice_get (yielded ++ l) k) (λ t. g.T.Ticket.job t ≡ k)) rest (i.3 k))),
    )
