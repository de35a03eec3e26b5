-- A call that is begun, run to its last answer and given up.
use Rattle.std.proofs.Common.{◌≡◌, ℕ, Bool, true, false, Option, Some, None, Ok, List, length, slice_get, refl, sym, ap, subst, ◌∙◌, unwrap_or}
use Rattle.whole_calls.proofs.Imports.{AreLimits, VacuumStats, start_number, after_slot, ToInsert, ToScan, ToBulk, ToCleanup, Action, Ask, Call, Entry, State, Ghosts, DeadSets, asked_by, IsCaused}
use Rattle.whole_calls.proofs.Imports.{set_at, slot_add, Answer, Finished, Op, Request, Moment, IsRunningCall, Fits, here_at, slot_of, Laws, causes_of_asked, is_full_vacuum, Lasts, FinishIsRun}
use Rattle.whole_calls.proofs.Imports.{BeginIsRun, HasCompleted, Followed, of_bulk_delete, of_cleanup, FollowsFrom, IsCountedAs, CountsThrough, StatsCountFor, noted_after, first_call, EndMeans}
use Rattle.whole_calls.proofs.Blocks.{LeavesAll}
use Rattle.whole_calls.proofs.Counting.{tells_on}
use Rattle.whole_calls.proofs.Filling.{bulk_fills, cleanup_fills}
use Rattle.whole_calls.proofs.Gone.{gone_runs, same_ask, far_last}
use Rattle.whole_calls.proofs.Lasting.{lasts_then, later_of, busier_of}
use Rattle.whole_calls.proofs.Refusing.{AsksToCount, cause_wider, asked_wider, asked_after}
use Rattle.whole_calls.proofs.Tellings.{begun_next, begun_free, begun_runs}

-- a call that has begun is run to its last answer, and given up
pub record RunsOut {S : Type 0} (g : Ghosts S) (session least_room : ℕ) (answer : Answer) (added : Option ℕ) (start : Entry → Bool) (old new : Moment S) : Type 0 where
  pub here : Moment S
  pub fits : Fits g start here
  pub finish : FinishIsRun g session least_room answer start old here
  pub add : added ≡ slot_add (slot_of here.slots session)
  pub end : EndMeans session here new
  pub leaves : LeavesAll g session here.store new.store
  pub state : g.state new.store ≡ after_slot (slot_of here.slots session) (g.state here.store)

-- the moments before the call, after its beginning, after its last step, and after its end
module _ {S : Type 0} {g : Ghosts S} (laws : Laws g) {start : Entry → Bool} {session least_room : ℕ} {request : Request} {answer : Answer} {added : Option ℕ} {x y w : Moment S}
    (begun : BeginIsRun g session request (Ok tt) x y) (fits_y : Fits g start y) (first : Lasts g session x y) (out : RunsOut g session least_room answer added start y w) where
  abbrev z : Moment S
  z = out.here

  abbrev finish : FinishIsRun g session least_room answer start y out.here
  finish = out.finish

  abbrev last : Moment S
  last = finish.last

  abbrev number : ℕ
  number = length x.calls

  abbrev call : Call
  call = first_call session request x

  runs : IsRunningCall y.calls session number call
  runs = begun_runs session request x y z begun.told

  -- what it has counted up to its last step
  counted : (what : Followed) → FollowsFrom what request (g.state x.store) session → IsCountedAs what y.sets (g.state last.store) (slot_of last.slots session)
  counted what follows = finish.gone.counted what (begun.counts what follows)

  -- it had room to count more
  has_room : AreLimits (g.state y.store).format → AsksToCount (asked_by x.sets request) → is_full_vacuum (slot_of last.slots session) ≡ true → false ≡ true
  has_room are counts full = of request runs begun.told.history_is counts counted
    where
      of : (req : Request) → IsRunningCall y.calls session number (first_call session req x) → y.history ≡ x.history → AsksToCount (asked_by x.sets req)
          → ((what : Followed) → FollowsFrom what req (g.state x.store) session → IsCountedAs what y.sets (g.state last.store) (slot_of last.slots session)) → false ≡ true
      of (ToInsert e) is history asks so = absurd asks
      of (ToScan range) is history asks so = absurd asks
      of (ToBulk set) is history asks so =
          bulk_fills g laws start session y fits_y are number (first_call session (ToBulk set) x) (set_at x.sets set) is refl
          (sym (ap (λ (l : List Action). length l) history)) last finish.fits finish.gone (so of_bulk_delete tt) full
      of ToCleanup is history asks so = cleanup_fills g laws start session y fits_y are last finish.gone (so of_cleanup tt) full

  -- why it is refused, told from the moment before it
  caused : AreLimits (g.state y.store).format → IsCaused (causes_of_asked g session least_room (Some (g.state x.store).begun) false (asked_by x.sets request) (here_at x) z.store) answer
  caused are =
      let far = finish.gone.far number call runs in
      let then_call = noted_after call (length y.history) far.0 in
      let then_runs = gone_runs number call far.0 y last last far.1 session runs in
      let up_to = lasts_then first finish.gone.lasts in
      let then_later = later_of laws finish.lasts in
      let full = is_full_vacuum (slot_of last.slots session) in
      let asked : then_call.ask ≡ call.ask = same_ask call (length y.history) far.0 in
      let number_is : start_number (g.state last.store) session ≡ Some (g.state x.store).begun =
      ap (λ (l : List (Option ℕ)). unwrap_or (slice_get l session) None) finish.gone.numbers ∙ begun.number refl in
      let came = subst (λ (a : Ask).
      IsCaused (causes_of_asked g session least_room (start_number (g.state last.store) session) full a (here_at last) z.store) answer) asked (finish.step.caused number then_call then_runs) in
      let came_so = subst (λ (n : Option ℕ). IsCaused (causes_of_asked g session least_room n full call.ask (here_at last) z.store) answer) number_is came in
      cause_wider _ _ (asked_wider g session least_room (here_at x) (here_at last) z.store (later_of laws up_to) then_later.failures
      (busier_of up_to) (Some (g.state x.store).begun) full false call.ask (has_room are)) answer came_so

  -- what it tells at its end
  told_stats : (stats : VacuumStats) → answer ≡ Finished stats → StatsCountFor (asked_by x.sets request) (g.state w.store) stats
  told_stats stats finished =
      let far = finish.gone.far number call runs in
      let then_call = noted_after call (length y.history) far.0 in
      let then_runs = gone_runs number call far.0 y last last far.1 session runs in
      let asked : then_call.ask ≡ call.ask = same_ask call (length y.history) far.0 in
      let same : g.state w.store ≡ g.state z.store = out.state ∙ ap (λ (slot : Option Op). after_slot slot (g.state z.store)) (finish.step.over stats finished) in
      subst (λ (st : State). StatsCountFor (asked_by x.sets request) st stats) (sym same)
      (subst (λ (a : Ask). StatsCountFor a (g.state z.store) stats) asked (finish.step.stats number then_call then_runs stats finished))

  pub has_run : AreLimits (g.state y.store).format → HasCompleted g session least_room request answer added start x w
  has_run are = record {
    here = z;
    fits = out.fits;
    free = begun_free session request x y z begun.told g start fits_y;
    told = begun_next session request x y z begun.told answer (far_last session answer y last z finish.gone.far finish.step.told);
    add_is = sym out.add;
    end = out.end;
    caused = rw (asked_after g session least_room (Some (g.state x.store).begun) false (asked_by x.sets request) (here_at x) z.store w.store out.leaves) (caused are);
    stats = told_stats;
    counts = λ what stats follows is. (
        let counts : CountsThrough what last.sets (g.state last.store) (g.state z.store) (slot_of last.slots session) (slot_of z.slots session) (Finished stats) =
        subst (λ (a : Answer). CountsThrough what last.sets (g.state last.store) (g.state z.store) (slot_of last.slots session) (slot_of z.slots session) a) is (finish.step.counts what) in
        tells_on what (g.state z.store) (g.state w.store) stats out.leaves.state.pages
        (counts (subst (λ (sets : DeadSets). IsCountedAs what sets (g.state last.store) (slot_of last.slots session)) (sym finish.gone.sets_are) (counted what follows))));
  }
