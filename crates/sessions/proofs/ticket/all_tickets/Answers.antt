use Rattle.std.proofs.Common.{◌≡◌, ◌+◌, ◌∙◌, IfSome, slice_get, sym, ap, subst}
use Rattle.worker_seats.proofs.Rows.{some_snoc}
use Rattle.sessions.proofs.ticket.all_tickets.Goals as goal

pub loop-job-preserved : goal.loop-job-preserved
loop-job-preserved g c =
    let i = c.loop-job.invariant in
    let tickets = c.loop-job.tickets in (
      c.push_reserved.ensures.len ∙ ap (λ n. n + 1) i.0,
      c.push_reserved.ensures.capacity ∙ i.1,
      (λ k. subst (λ l. IfSome (slice_get l k) (λ t. t.job ≡ k)) (sym c.push_reserved.ensures.items)
          (some_snoc (λ n t. t.job ≡ n) tickets.items c.one_ticket.result i.2 (c.one_ticket.ensures ∙ sym (sym tickets.ok.0 ∙ i.0)) k)),
    )
