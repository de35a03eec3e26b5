-- What others do leaves a running call what it stands on.
use Rattle.std.proofs.Common.{◌≡◌, ◌≤◌, Bool, Option, None, List, ap, ◌++◌, length, sym, subst, ◌∙◌, ℕ, arith, length-append}
use Rattle.scan.specs.Laws.{PinnedLeavesLast}
use Rattle.session_calls.proofs.Imports.{unwrap_or, Action, Entry, at_some_moment_later, gives_all_later, State, MayRely, insert_undisturbed, IsAfter, waiting, ScanOp, scan_undisturbed}
use Rattle.session_calls.proofs.Imports.{bulk_undisturbed, cleanup_undisturbed, session_of, OpInvariant, OpKnows, IsScanSoFar, start_number, IsIdle, CallsAreUndisturbed, Op, Insert, Scan, Bulk}
use Rattle.session_calls.proofs.Imports.{Cleanup}

so_far_later : (start : Entry → Bool) (history acts : List Action) (began : ℕ) (given : List Entry) (op : ScanOp)
    → IsScanSoFar start history began given op → IsScanSoFar start (history ++ acts) began given op
so_far_later start history acts began given op h =
    let longer : length history ≤ length (history ++ acts) = omega (arith, length-append history acts) in
    record {
      ascending = h.ascending;
      matched = h.matched;
      was_there = λ e a. at_some_moment_later start history acts began (length history) (length (history ++ acts)) e (omega arith) longer (h.was_there e a);
      complete = gives_all_later start history acts op.range began (length history) (length (history ++ acts)) (given ++ waiting op) (IsAfter op.frontier op.at) (omega arith) longer h.complete;
      reached = h.reached;
      next_page = h.next_page;
    }

-- a call goes on standing on what it stood on, whatever other sessions do
fits_still : (old new : State) (session : ℕ) (op : Op) → session_of op ≡ session → MayRely session old new → PinnedLeavesLast session old new → OpInvariant old op → OpInvariant new op
fits_still old new session (Insert op) is rely last h = insert_undisturbed old new op (subst (λ (t : ℕ). MayRely t old new) (sym is) rely) h
fits_still old new session (Scan op) is rely last h =
    scan_undisturbed old new op (subst (λ (t : ℕ). MayRely t old new) (sym is) rely) (subst (λ (t : ℕ). PinnedLeavesLast t old new) (sym is) last) h
fits_still old new session (Bulk set op) is rely last h = bulk_undisturbed old new op (subst (λ (t : ℕ). MayRely t old new) (sym is) rely) h
fits_still old new session (Cleanup op) is rely last h = cleanup_undisturbed old new op (subst (λ (t : ℕ). MayRely t old new) (sym is) rely) h

knows_still : (start : Entry → Bool) (history acts : List Action) (began : ℕ) (given : List Entry) (op : Op) → OpKnows start history began given op → OpKnows start (history ++ acts) began given op
knows_still start history acts began given (Insert op) h = tt
knows_still start history acts began given (Scan op) h = so_far_later start history acts began given op h
knows_still start history acts began given (Bulk set op) h = tt
knows_still start history acts began given (Cleanup op) h = tt

pub number_stays : (old new : State) (session : ℕ) → MayRely session old new → start_number new session ≡ start_number old session
number_stays old new session rely = ap (λ (o : Option (Option ℕ)). unwrap_or o None) rely.number

pub undisturbed : CallsAreUndisturbed
undisturbed old new sets start history acts call op rely last h = record {
  ask = h.ask;
  session = h.session;
  added = h.added;
  started = record { number = h.started.number; is = number_stays old new call.session rely ∙ h.started.is };
  fits = fits_still old new call.session op h.session rely last h.fits;
  knows = knows_still start history acts call.began call.given op h.knows;
}

-- a session with no call goes on being idle
pub idle_undisturbed : (old new : State) (session : ℕ) → MayRely session old new → IsIdle old session → IsIdle new session
idle_undisturbed old new session rely h = record { holds = rely.held ∙ h.holds; number = number_stays old new session rely ∙ h.number }
