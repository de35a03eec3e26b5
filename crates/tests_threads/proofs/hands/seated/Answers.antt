use Rattle.std.proofs.Common.{◌+◌, ◌++◌, ◌∷◌, [], List, Option, None, slice_get, sym, ap, ◌∙◌, arith}
use Rattle.worker_seats.specs.declared.seating.SeatView.{SeatView}
use Rattle.worker_seats.specs.Seats.{registry_of}
use Rattle.shared_world.specs.declared.record.Pending.{Pending}
use Rattle.shared_world.specs.Notes.{jobs_of}
use Rattle.sessions.proofs.Hiring.{jobs_of_snoc, none_snoc}
use Rattle.tests_threads.proofs.hands.seated.Goals as goal

pub loop-w-preserved : goal.loop-w-preserved
loop-w-preserved g c =
    let i = c.loop-w.invariant in
    let pending = c.loop-w.pending in
    let items = c.push_reserved.ensures.items in (
      c.open-seat.ensures.registry ∙ ap (λ (x : SeatView). registry_of [] (x.running ++ None ∷ [])) i.0 ∙ ap (registry_of []) (sym (ap jobs_of items ∙ jobs_of_snoc pending.items None)),
      (omega (arith, c.split_off-share.ensures.parts_left, i.1.0), omega (arith, c.split_off-share.ensures.amount_left, i.1.1)),
      (
        c.push_reserved.ensures.len ∙ ap (λ n. n + 1) i.2.0,
        c.push_reserved.ensures.capacity ∙ i.2.1,
        (λ k p e. none_snoc pending.items i.2.2 k p (ap (λ (xs : List (Option Pending)). slice_get xs k) (sym items) ∙ e)),
      ),
      (
        c.push_reserved-in-loop-w.ensures.len ∙ ap (λ n. n + 1) i.3.0,
        c.push_reserved-in-loop-w.ensures.capacity ∙ i.3.1,
      ),
    )
