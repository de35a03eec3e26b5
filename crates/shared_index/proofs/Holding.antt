-- Holds of a session's call, one behind the other.
use Rattle.std.proofs.Common.{◌≡◌, ℕ, List, ◌++◌, ◌∷◌, [], Option, Some, None, sym, ap, ◌∙◌, subst}
use Rattle.session_calls.specs.declared.answer.Answer.{Answer}
use Rattle.session_seats.specs.declared.call.CompletedCall.{CompletedCall}
use Rattle.session_seats.specs.declared.call.PendingCall.{PendingCall}
use Rattle.session_seats.specs.declared.seating.SessionView.{SessionView}
use Rattle.shared_world.specs.Leaving.{call_in}
use Rattle.shared_index.specs.Sessions.{HoldLeaves, HoldMayGoOn, IsNoScan, RunsThisCall}

-- a hold that has left the call running
pub hold_runs : (p : PendingCall) (answer : Option Answer) (old new : SessionView) → HoldLeaves p answer old new → answer ≡ None → RunsThisCall p new × (new.calls ≡ old.calls)
hold_runs p None old new h is = h
hold_runs p (Some answer) old new h is = absurd (cc)

-- ... and one behind it
pub hold_then : (p q : PendingCall) (answer : Option Answer) (old mid new : SessionView) → RunsThisCall p mid × (mid.calls ≡ old.calls) → q ≡ p → HoldLeaves q answer mid new → HoldLeaves p answer old new
hold_then p q None old mid new r e h = (record { runs = (h.0).runs; call_is = (h.0).call_is ∙ e }, h.1 ∙ r.1)
hold_then p q (Some answer) old mid new r e h = (
  h.0,
  record {
    place = (h.1).place;
    call = (h.1).call;
    calls_are = (h.1).calls_are ∙ ap (λ (l : List (ℕ × CompletedCall)). l ++ ((h.1).place, (h.1).call) ∷ []) r.1;
    asked_is = (h.1).asked_is ∙ ap (λ (x : PendingCall). x.asked) e;
    rows_are = (h.1).rows_are ∙ ap (λ (x : PendingCall). x.rows) e;
    answer_is = (h.1).answer_is;
  },
)

-- a call that is no scan may go on after a hold
pub may_go_on : (p : PendingCall) (answer : Option Answer) (old new : SessionView) → HoldLeaves p answer old new → IsNoScan p.asked → HoldMayGoOn answer new
may_go_on p None old new h writes = ((h.0).runs, subst (λ (x : PendingCall). IsNoScan x.asked) (sym (h.0).call_is) writes)
may_go_on p (Some answer) old new h writes = tt
