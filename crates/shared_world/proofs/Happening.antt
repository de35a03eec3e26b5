-- What each event under the lock leaves of what is kept, by what it tells of its call.
use Rattle.std.proofs.Common.{◌≡◌, Bool, ℕ, ◌≤◌, List, [], ◌∷◌, ◌++◌, length, Option, Some, None, slice_get, slice_set, refl, sym, ap, ◌∙◌, subst, inl, inr, arith, length-append}
use Rattle.shared_world.proofs.Imports.{Action, Call, Entry, Fault, Ghosts, asked_by, begun_call, Answer, Ended, Refused, Request, OneCallRuns, refused_call, AnswersUpkeep, kept_answer, KeepsHistory}
use Rattle.shared_world.proofs.Imports.{Upkeep, StoreAndSlots, Moment, snapshot_of, Fits, get_last, set_here, Job, Scan, CompletedCall, PendingCall, request_of, upkeep_of, IsWithinRoom, RunsCall}
use Rattle.shared_world.proofs.Words.{not_blocked}
use Rattle.shared_world.proofs.Imports.{IsBlocked, WasLeft, IsSince, CallFollows, KeepsFitting, completed_of}
use Rattle.index_model.specs.Row.{Row}
use Rattle.session_calls.specs.TheoremCalls.{DeadSets}
use Rattle.session_seats.specs.declared.job.Job.TheVariants.{Insert, Bulk, Cleanup, Commit, Checkpoint}
use Rattle.shared_world.specs.Handed.{Handed}
use Rattle.shared_world.specs.Kept.{IsToRemove}
use Rattle.shared_world.specs.Rows.{asked_with, set_asked}
use Rattle.shared_world.proofs.Noting.{some_same}
use Rattle.shared_world.proofs.Keeping.{follows_now, old_fits, touches_next, touches_none, touches_running, keeps_on, keeps_with}
use Rattle.shared_world.proofs.Meanings.{MovesOnTo, EndsTo}

-- nothing is within any room
none_within : (job : Job) (given : List Entry) → given ≡ [] → IsWithinRoom job given
none_within (Scan range room) given e = (let n = ap (λ (l : List Entry). length l) e in omega (arith, n))
none_within job given e = tt

-- what a job asks of a call, with these sets
asked_as : (sets : DeadSets) (job : Job) (request : Request) → request_of job ≡ Some request → asked_by sets request ≡ asked_with (set_asked sets job) request
asked_as sets (Insert entry) request e = ap (asked_by sets) (sym (some_same e)) ∙ ap (asked_with (set_asked sets (Insert entry))) (some_same e)
asked_as sets (Scan range room) request e = ap (asked_by sets) (sym (some_same e)) ∙ ap (asked_with (set_asked sets (Scan range room))) (some_same e)
asked_as sets (Bulk at) request e = ap (asked_by sets) (sym (some_same e)) ∙ ap (asked_with (set_asked sets (Bulk at))) (some_same e)
asked_as sets Cleanup request e = ap (asked_by sets) (sym (some_same e)) ∙ ap (asked_with (set_asked sets Cleanup)) (some_same e)
asked_as sets Commit request e = absurd cc
asked_as sets Checkpoint request e = absurd cc

module _ {S : Type 0} (g : Ghosts S) (contents : Entry → Bool) (acts : List Action) (old : List Call) (KeptThen : Type 0)
    (w v : StoreAndSlots S) (handed : Handed) (start : ℕ) (pending : List (Option PendingCall)) (records : List CompletedCall)
    (k : KeepsFitting g handed contents acts old KeptThen w start pending records) (less : (g.backing w.store).durable ≤ (g.backing v.store).durable) (s : ℕ) (p : PendingCall) where
  abbrev Then : List (Option PendingCall) → List CompletedCall → Type 0
  Then then_pending then_records = KeepsFitting g handed contents acts old KeptThen v start then_pending then_records

  abbrev was : Moment S
  was = snapshot_of w k.history k.calls

  -- if the history was kept over crashes, it is
  abbrev StaysSafe : List Action → List Call → Type 0
  StaysSafe history calls = KeepsHistory g contents was → KeepsHistory g contents (snapshot_of v history calls)

  -- a call begins
  pub keeps_begun : (request : Request) → slice_get pending s ≡ Some None
      → request_of p.asked ≡ Some request → IsToRemove handed p.asked p.rows (set_asked w.sets p.asked) → p.from ≡ length k.history → p.seen ≡ length records → p.given ≡ []
      → Fits g contents (snapshot_of v k.history (k.calls ++ begun_call s (asked_by w.sets request) (length k.history) ∷ []))
      → StaysSafe k.history (k.calls ++ begun_call s (asked_by w.sets request) (length k.history) ∷ [])
      → Then (slice_set pending s (Some p)) records
  keeps_begun request idle asks removes from seen given fit safe =
      let c = begun_call s (asked_by w.sets request) (length k.history) in
      let calls = k.calls ++ c ∷ [] in
      let t = touches_next g contents acts old KeptThen w v handed start pending records k s c idle fit safe less in
      let runs : RunsCall handed (length old) calls s p = record {
        number = length k.calls;
        request = request;
        set = set_asked w.sets p.asked;
        call = c;
        asks = asks;
        own = old_fits g contents acts old KeptThen w v handed start pending records k;
        is = record { found = get_last k.calls c; session_is = refl; running = refl };
        removes = removes;
        ask_is = asked_as w.sets p.asked request asks;
        began_is = sym from;
        given_is = sym given;
        most = none_within p.asked p.given given;
      } in
      let since : IsSince records (length (k.history ++ [])) s p.seen p.from = record {
        seen_is = omega (arith, seen);
        from_is = omega (arith, from, length-append k.history []);
        follows = subst (λ n. CallFollows records s n p.from) (sym seen) (follows_now g contents acts old KeptThen w v handed start pending records k s p.from from);
      } in
      keeps_on g contents acts old KeptThen w v handed start pending records k s (length k.calls) [] calls t (Some p)
      (λ l. inr (record { call = c; running = p; found = get_last k.calls c; runs = refl; waits = set_here pending s None (Some p) idle }))
      (λ q e. subst (λ (x : PendingCall). RunsCall handed (length old) calls s x × IsSince records (length (k.history ++ [])) s x.seen x.from) (some_same e) (runs, since))

  -- a beginning is refused: its call ended where it began
  pub keeps_refused : (request : Request) (fault : Fault) → slice_get pending s ≡ Some None
      → request_of p.asked ≡ Some request → IsToRemove handed p.asked p.rows (set_asked w.sets p.asked) → p.from ≡ length k.history → p.seen ≡ length records → p.given ≡ [] → (IsBlocked (Refused fault) → ⊥)
      → Fits g contents (snapshot_of v k.history (k.calls ++ refused_call s (asked_by w.sets request) fault (length k.history) ∷ []))
      → StaysSafe k.history (k.calls ++ refused_call s (asked_by w.sets request) fault (length k.history) ∷ [])
      → Then (slice_set pending s None) (records ++ completed_of s p (Refused fault) p.from ∷ [])
  keeps_refused request fault idle asks removes from seen given settled fit safe =
      let c = refused_call s (asked_by w.sets request) fault (length k.history) in
      let i = length k.calls in
      let t = touches_next g contents acts old KeptThen w v handed start pending records k s c idle fit safe less in
      keeps_with g contents acts old KeptThen w v handed start pending records k s i [] (k.calls ++ c ∷ []) t None
      (completed_of s p (Refused fault) p.from) refl refl (Some i) (λ j e. sym (some_same e)) (λ l. inl (length k.at, get_last k.at (Some i)))
      (inl (record {
        number = i;
        request = request;
        set = set_asked w.sets p.asked;
        call = c;
        at_is = subst (λ n. slice_get (k.at ++ Some i ∷ []) n ≡ Some (Some i)) k.long (get_last k.at (Some i));
        asks = asks;
        found = get_last k.calls c;
        removes = removes;
        is = record { ask_is = asked_as w.sets p.asked request asks; session_is = refl; began_is = sym from; given_is = sym given; until_is = sym from; over = λ e. absurd cc; ends = inl refl; settled = not_blocked (Refused fault) settled };
        most = none_within p.asked p.given given;
        left = λ e. absurd cc;
      }))
      (record { seen_is = omega (arith, seen); from_is = omega arith; to_is = omega (arith, from, length-append k.history []) })
      (subst (λ n. CallFollows records s n p.from) (sym seen) (follows_now g contents acts old KeptThen w v handed start pending records k s p.from from))

  -- a running call goes on, and may give one more
  pub keeps_going : OneCallRuns g → (q : PendingCall) (at : slice_get pending s ≡ Some (Some p)) (new : Moment S) (e : MovesOnTo (k.runs s p at).number (k.runs s p at).call q.given was new)
      → new ≡ snapshot_of v new.history new.calls → Fits g contents new → (KeepsHistory g contents was → KeepsHistory g contents new) → q.asked ≡ p.asked → q.rows ≡ p.rows
      → q.from ≡ p.from → q.seen ≡ p.seen → IsWithinRoom q.asked q.given
      → Then (slice_set pending s (Some q)) records
  keeps_going one q at new e here fit safe asked rows from seen most =
      let y = k.runs s p at in
      let z = k.since s p at in
      let i = y.number in
      let after = e.to.after in
      let calls = slice_set k.calls i after in
      let is : new ≡ snapshot_of v (k.history ++ e.to.more) calls = here ∙ (λ j. snapshot_of v (e.to.history_is j) (e.to.calls_is j)) in
      let t = touches_running g contents acts old KeptThen w v handed start pending records one k s p y e.to.more after e.to.own
      (subst (Fits g contents) is fit) (λ h. subst (KeepsHistory g contents) is (safe h)) less in
      let runs : RunsCall handed (length old) calls s q = record {
        number = i;
        request = y.request;
        set = y.set;
        call = after;
        asks = ap request_of asked ∙ y.asks;
        own = y.own;
        removes = subst (λ (x : Job × List Row). IsToRemove handed x.0 x.1 y.set) (λ j. (sym asked j, sym rows j)) y.removes;
        is = record { found = set_here k.calls i y.call after y.is.found; session_is = e.to.still.session_is ∙ y.is.session_is; running = e.runs ∙ y.is.running };
        ask_is = e.to.still.ask_is ∙ y.ask_is;
        began_is = e.to.still.began_is ∙ y.began_is ∙ sym from;
        given_is = e.to.still.given_is;
        most = most;
      } in
      let since : IsSince records (length (k.history ++ e.to.more)) s q.seen q.from = record {
        seen_is = omega (arith, seen, z.seen_is);
        from_is = omega (arith, from, z.from_is, length-append k.history e.to.more);
        follows = subst (λ (n : ℕ × ℕ). CallFollows records s n.0 n.1) (λ j. (sym seen j, sym from j)) z.follows;
      } in
      let session : after.session ≡ s = e.to.still.session_is ∙ y.is.session_is in
      keeps_on g contents acts old KeptThen w v handed start pending records k s i e.to.more calls t (Some q)
      (λ l. inr (record {
        call = after;
        running = q;
        found = set_here k.calls i y.call after y.is.found;
        runs = e.runs ∙ y.is.running;
        waits = ap (slice_get (slice_set pending s (Some q))) session ∙ set_here pending s (Some p) (Some q) at;
      }))
      (λ x h. subst (λ (x : PendingCall). RunsCall handed (length old) calls s x × IsSince records (length (k.history ++ e.to.more)) s x.seen x.from) (some_same h) (runs, since))

  -- a running call ends
  pub keeps_ended : OneCallRuns g → (at : slice_get pending s ≡ Some (Some p)) (answer : Answer) (to : ℕ) (new : Moment S) (e : EndsTo (k.runs s p at).number (k.runs s p at).call answer was new)
      → new ≡ snapshot_of v new.history new.calls → Fits g contents new → (KeepsHistory g contents was → KeepsHistory g contents new) → to ≡ length new.history
      → (answer ≡ Ended → WasLeft contents new.history p.asked (completed_of s p answer to) e.to.after.added) → Then (slice_set pending s None) (records ++ completed_of s p answer to ∷ [])
  keeps_ended one at answer to new e here fit safe to_is left =
      let y = k.runs s p at in
      let z = k.since s p at in
      let i = y.number in
      let after = e.to.after in
      let calls = slice_set k.calls i after in
      let is : new ≡ snapshot_of v (k.history ++ e.to.more) calls = here ∙ (λ j. snapshot_of v (e.to.history_is j) (e.to.calls_is j)) in
      let long : to ≡ length (k.history ++ e.to.more) = to_is ∙ ap (λ (l : List Action). length l) e.to.history_is in
      let t = touches_running g contents acts old KeptThen w v handed start pending records one k s p y e.to.more after e.to.own
      (subst (Fits g contents) is fit) (λ h. subst (KeepsHistory g contents) is (safe h)) less in
      keeps_with g contents acts old KeptThen w v handed start pending records k s i e.to.more calls t None (completed_of s p answer to) refl
      refl (Some i) (λ j x. sym (some_same x)) (λ l. inl (length k.at, get_last k.at (Some i)))
      (inl (record {
        number = i;
        request = y.request;
        set = y.set;
        call = after;
        at_is = subst (λ n. slice_get (k.at ++ Some i ∷ []) n ≡ Some (Some i)) k.long (get_last k.at (Some i));
        asks = y.asks;
        found = set_here k.calls i y.call after y.is.found;
        removes = y.removes;
        is = record {
          ask_is = e.to.still.ask_is ∙ y.ask_is;
          session_is = e.to.still.session_is ∙ y.is.session_is;
          began_is = e.to.still.began_is ∙ y.began_is;
          given_is = e.to.still.given_is ∙ y.given_is;
          until_is = e.until_is ∙ sym to_is;
          over = e.over;
          ends = e.ends;
          settled = not_blocked answer e.settled;
        };
        most = y.most;
        left = λ x. subst (λ (l : List Action). WasLeft contents l p.asked (completed_of s p answer to) e.to.after.added) e.to.history_is (left x);
      }))
      (record { seen_is = z.seen_is; from_is = omega (arith, z.from_is, long, length-append k.history e.to.more); to_is = omega (arith, long) })
      z.follows

  -- a commit or a checkpoint, which stands beside the calls
  pub keeps_upkept : (upkeep : Upkeep) (answer : Answer) → slice_get pending s ≡ Some None
      → upkeep_of p.asked ≡ Some upkeep → p.from ≡ length k.history → p.seen ≡ length records → length p.given ≡ 0
      → AnswersUpkeep upkeep answer → ((count : ℕ) → kept_answer upkeep count ≡ Some answer → (count ≡ p.from) × (count ≤ (g.backing v.store).durable))
      → Fits g contents (snapshot_of v k.history k.calls) → StaysSafe k.history k.calls → Then (slice_set pending s None) (records ++ completed_of s p answer p.from ∷ [])
  keeps_upkept upkeep answer idle asks from seen none answers kept fit safe =
      let t = touches_none g contents acts old KeptThen w v handed start pending records k s idle fit safe less in
      keeps_with g contents acts old KeptThen w v handed start pending records k s (length k.calls) [] k.calls t None
      (completed_of s p answer p.from) refl refl None (λ j e. absurd cc) (λ l. absurd (omega (arith, l)))
      (inr (record {
        upkeep = upkeep;
        at_is = subst (λ n. slice_get (k.at ++ None ∷ []) n ≡ Some None) k.long (get_last k.at None);
        asks = asks;
        answers = answers;
        none = none;
        still = refl;
        kept = kept;
      }))
      (record { seen_is = omega (arith, seen); from_is = omega arith; to_is = omega (arith, from, length-append k.history []) })
      (subst (λ n. CallFollows records s n p.from) (sym seen) (follows_now g contents acts old KeptThen w v handed start pending records k s p.from from))
