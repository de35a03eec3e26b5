-- A step that is refused, and changes nothing.
use Rattle.std.proofs.Common.{◌≡◌, ◌≢◌, ◌≤◌, ℕ, Bool, true, false, Option, Some, None, Result, Err, [], refl, ap, arith}
use Rattle.page_action.specs.declared.page_store.PageStore.{Ghosts}
use Rattle.session_calls.proofs.Imports.{if◌then◌else◌, HasCause, Fault, Stopped, NoSession, State, Continues, IsOneActAtMost, causes_of_writing_any, InsertAnswersStopped, IsRefusedRightly}
use Rattle.session_calls.proofs.Imports.{waiting, ScanWaits, ScanOp, ends_call, session_of, is_bulk_delete, call_kind, add_of, causes_of_stepped_any, StoppedAnswersFirst, AnswersLogged, OpSteps}
use Rattle.session_calls.proofs.Imports.{AnswersStep, OnlyWritersAct, CountsStats, WaitsToGive, work_in, Refused, Op, Insert, Scan, Bulk, Cleanup}

answers : (before after : Op) (fault : Fault) → AnswersStep (Some before) (Some after) (Refused fault)
answers (Insert op) after fault = tt
answers (Scan op) after fault = tt
answers (Bulk set op) after fault = tt
answers (Cleanup op) after fault = tt

no_stats : (st : State) (op : Op) (fault : Fault) → CountsStats st (Some op) (Refused fault)
no_stats st (Insert op) fault = tt
no_stats st (Scan op) fault = tt
no_stats st (Bulk set op) fault = tt
no_stats st (Cleanup op) fault = tt

no_act : (op : Op) (old new : State) → new ≡ old → OnlyWritersAct (Some op) old new
no_act (Insert op) old new same = tt
no_act (Scan op) old new same = ap (λ (st : State). st.acts) same
no_act (Bulk set op) old new same = tt
no_act (Cleanup op) old new same = tt

no_more : (ends : Bool) (before after : Op) (old new : State) → new ≡ old → after ≡ before
    → work_in new (if ends then None else Some after) ≤ work_in old (Some before)
no_more true before after old new same op = omega arith
no_more false before after old new same op = rw (same, op) (omega arith)

-- what a refused step says, of whichever operation
pub refused_steps : {S : Type 0} (g : Ghosts S) (before after : Op) (old new : S) (fault : Fault) → Continues g.follows old new → IsOneActAtMost (g.state old) (g.state new)
    → g.state new ≡ g.state old → after ≡ before → ((g.backing old).stopped ≡ true → StoppedAnswersFirst (add_of before) (Refused fault))
    → WaitsToGive (g.backing old).stopped (g.state old) (g.state new) (Some before) (Some after) (Refused fault)
    → HasCause (causes_of_stepped_any (g.state old).format.unique before) fault → AnswersLogged (add_of before) (Refused fault) → OpSteps g before after old new (Refused fault)
refused_steps g before after old new fault steps kept same op stopped waits cause logged = record {
  steps = steps;
  session = ap session_of op;
  same_bulk = ap is_bulk_delete op;
  one_kind = ap call_kind op;
  kind = answers before after fault;
  refused = λ other is. (same, op);
  stopped = stopped;
  unfinished = λ action other is. absurd cc;
  faults = cause;
  logged = logged;
  stats = no_stats (g.state old) before fault;
  waits = waits;
  kept = kept;
  calm = no_act before (g.state old) (g.state new) same;
  less = λ honest. tt;
  no_more = λ honest quiet. no_more (ends_call fault) before after (g.state old) (g.state new) same op;
}

pub told_stopped : {T : Type 0} (fault : Fault) → ◌≡◌ {A = Result T Fault} (Err fault) (Err Stopped) → Refused fault ≡ Refused Stopped
told_stopped fault is = cc

pub insert_told_stopped : (added : Option ℕ) (fault : Fault) → InsertAnswersStopped added (Err fault) → StoppedAnswersFirst added (Refused fault)
insert_told_stopped None fault is = cc
insert_told_stopped (Some action) fault is = absurd cc

-- a step of a scan that has entries ready isn't refused, unless the log has stopped
pub scan_told_waiting : (is_stopped : Bool) (old new : State) (before after : ScanOp) (fault : Fault)
    → (is_stopped ≡ false → waiting before ≢ [] → ScanWaits old new before after (Err fault)) → WaitsToGive is_stopped old new (Some (Scan before)) (Some (Scan after)) (Refused fault)
scan_told_waiting is_stopped old new before after fault waits alive some = absurd (let told = (waits alive some).told in cc)

-- a step of an insert whose entry is logged is refused for a page that is blocked
pub insert_told_logged : (added : Option ℕ) (fault : Fault) → IsRefusedRightly added (Err fault) → AnswersLogged added (Refused fault)
insert_told_logged None fault h = tt
insert_told_logged (Some action) fault h = h

-- what refuses a step of a bulk delete, if the set that it names is there
pub bulk_cause : (fault : Fault) → HasCause causes_of_writing_any fault → HasCause (record causes_of_writing_any { no_such_session = true }) fault
bulk_cause NoSession h = refl
bulk_cause fault h = h
