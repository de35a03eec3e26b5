use Rattle.std.proofs.Common.{◌≡◌, ◌∷◌, [], ℕ, List, slice_get, IfSome, sym, ap, ◌∙◌, subst}
use Rattle.std.proofs.lemmas.List.{map-append}
use Rattle.session_seats.specs.Seats.{calls_by, view_of}
use Rattle.session_seats.specs.declared.call.CompletedCall.{CompletedCall}
use Rattle.session_seats.specs.declared.seating.SessionView.{SessionView}
use Rattle.shared_index.specs.Sessions.{calls_had, number_of_seat}
use Rattle.shared_index.specs.Told.{all_told, told_by}
use Rattle.shared_index.proofs.Rows.{some_snoc}
use Rattle.shared_index.proofs.close.check_all.Goals as goal

pub loop-session-preserved : goal.loop-session-preserved
loop-session-preserved g c =
    let i = c.loop-session.invariant in
    let yielded = c.loop-session.yielded in
    let session = c.in-Some.session in
    let log = (view_of c.args.desk.now.registry).log in
    let look = c.check-seat.ensures in
    let its = look.calls ∙ ap (λ (v : SessionView). calls_by c.in-Some-seat.seat.session v.log) i.0 in
    let own : calls_had session.seat ≡ calls_by (number_of_seat session.seat) log = subst (λ o. calls_had o ≡ calls_by (number_of_seat o) log) (sym c.in-Some-seat.is) its in (
      look.registry ∙ i.0,
      (λ k. subst (λ (l : List (ℕ × List (ℕ × CompletedCall))). IfSome (slice_get l k) (λ t. t.1 ≡ calls_by t.0 log)) (sym (map-append (λ s. told_by s) yielded (session ∷ [])))
          (some_snoc (λ n t. t.1 ≡ calls_by t.0 log) (all_told yielded) (told_by session) i.1 own k)),
    )
