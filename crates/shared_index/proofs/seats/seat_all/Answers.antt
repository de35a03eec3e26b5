use Rattle.std.proofs.Common.{◌≡◌, ◌+◌, ◌∷◌, [], List, Option, None, length, slice_get, IfSome, sym, ap, ◌∙◌, subst, arith, length-append}
use Rattle.session_seats.specs.Seats.{registry_with, view_of}
use Rattle.session_seats.specs.declared.call.PendingCall.{PendingCall}
use Rattle.session_seats.specs.declared.seating.SessionView.{SessionView}
use Rattle.shared_index.specs.Sessions.{calls_had, number_of_seat, open_scan}
use Rattle.shared_index.specs.Told.{standing_of}
use Rattle.shared_index.proofs.Rows.{none_snoc, some_snoc}
use Rattle.shared_index.proofs.seats.seat_all.Goals as goal

pub loop-session-preserved : goal.loop-session-preserved
loop-session-preserved g c =
    let i = c.loop-session.invariant in
    let o = c.open-seat.ensures in
    let pending = (view_of c.loop-session.desk.registry).pending in
    let rest = c.loop-session.rest in
    let s = c.seated.result in
    let more = ap (λ (v : SessionView). v.pending) o.registry in
    let fresh : standing_of s ≡ ((1 + length rest.items, []), None) =
    (λ k. ((number_of_seat (c.seated.ensures k), calls_had (c.seated.ensures k)), open_scan (c.seated.ensures k))) ∙ (λ k. ((o.session k, o.calls k), o.call k)) ∙ ap (λ n. ((n, []), None)) (omega (arith, i.3, rest.ok.0)) in (
      o.registry ∙ ap (registry_with []) (sym more),
      omega (arith, ap (λ (l : List (Option PendingCall)). length l) more, length-append pending (None ∷ []), i.1),
      (λ k p e. none_snoc pending i.2 k p (ap (λ (l : List (Option PendingCall)). slice_get l k) (sym more) ∙ e)),
      omega (arith, c.push_reserved.ensures.len, i.3),
      c.push_reserved.ensures.capacity ∙ i.4,
      (λ k. subst (λ xs. IfSome (slice_get xs k) (λ s. standing_of s ≡ ((1 + k, []), None))) (sym c.push_reserved.ensures.items)
          (some_snoc (λ n s. standing_of s ≡ ((1 + n, []), None)) rest.items s i.5 fresh k)),
    )
