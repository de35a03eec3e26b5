-- What a check comes to, refused before it has read, while it reads, or after.
use Rattle.std.proofs.Common.{◌≡◌, ◌≢◌, Bool, true, List, length, OnErr, refl, sym, subst}
use Rattle.page_action.specs.declared.page_store.PageStore.{Ghosts}
use Rattle.amcheck.proofs.Fetched.{rest_all}
use Rattle.amcheck.proofs.FirstDamages.{answer_told, same_fault, never_refused}
use Rattle.amcheck.proofs.Imports.{Result, Ok, Err, IfErr, IfOk, OnOk, HasCause, Fault, NoMemory, Page, pinned_blocks, takes_none, KeepsRoom, Continues, IsSound, IsFirstDamage, IsAnswer}
use Rattle.amcheck.proofs.Imports.{causes_of_checked, blocks_below, AreFetched, JudgesPages, PagesAreRead, IsReport, IsSoundTree, CheckFault, Damaged, Refused, Damage, Report}
use Rattle.amcheck.proofs.KeysSeen.{fault_told}

-- without the memory for it nothing was read
pub not_begun : {S : Type 0} (g : Ghosts S) (parents : Bool) (fault : Fault) (store : S) → fault ≡ NoMemory → JudgesPages g parents (Err (Refused fault)) store store
not_begun g parents fault store is = record {
  steps = λ first before. before;
  state = refl;
  room = record { promised = refl; idle = λ durable. refl };
  frames = takes_none (g.state store).frames (pinned_blocks (g.state store).table) (blocks_below (length (g.state store).pages)) (g.memory store) (g.backing store);
  order = record { count = 0; is = refl };
  alive = λ answered. absurd answered;
  report = λ honest. tt;
  answer = λ honest. tt;
  fault = subst (HasCause (causes_of_checked (g.state store) (g.backing store) (g.backing store))) (sym is) refl;
  unread = λ same. refl;
}

module _ {S : Type 0} (g : Ghosts S) (parents : Bool) (old new : S) (steps : Continues g.follows old new) (state : g.state new ≡ g.state old)
    (room : KeepsRoom (g.state old) (g.backing old) (g.backing new)) (frames : AreFetched (g.state old) (g.memory old) (g.memory new) (g.backing old) (g.backing new)) where
  -- a page wasn't read
  pub not_read : (fault : Fault) → fault ≢ NoMemory → HasCause (causes_of_checked (g.state old) (g.backing old) (g.backing new)) fault
      → JudgesPages g parents (Err (Refused fault)) old new
  not_read fault memory cause = record {
    steps = steps;
    state = state;
    room = room;
    frames = frames;
    order = rest_all (g.state old).frames (pinned_blocks (g.state old).table) (blocks_below (length (g.state old).pages)) (g.memory old) (g.memory new) (g.backing old) (g.backing new) frames;
    alive = λ answered. absurd answered;
    report = λ honest. tt;
    answer = λ honest. tt;
    fault = cause;
    unread = λ same. absurd (memory (same_fault fault NoMemory same));
  }

  -- what was read is judged
  pub read_judged : ((g.backing new).stopped ≡ true → (g.backing old).stopped ≡ true) → (pages : List Page) → PagesAreRead (g.state old) (g.backing new) pages → (keys : Bool)
      → keys ≡ (g.state old).format.unique → (judged : Result Report Damage) (result : Result Report CheckFault) → IfOk judged (λ report. result ≡ Ok report)
      → IfErr judged (λ d. result ≡ Err (Damaged d.number d.block)) → OnOk judged (IsSound parents keys pages) → IfOk judged (IsReport pages)
      → IfErr judged (λ d. IsFirstDamage parents keys pages d.number d.block) → OnErr judged (IsSoundTree keys pages → ⊥) → JudgesPages g parents result old new
  read_judged alive pages read keys keys_are judged result ok err sound report first damaged = record {
    steps = steps;
    state = state;
    room = room;
    frames = frames;
    order = rest_all (g.state old).frames (pinned_blocks (g.state old).table) (blocks_below (length (g.state old).pages)) (g.memory old) (g.memory new) (g.backing old) (g.backing new) frames;
    alive = λ answered. alive;
    report = λ honest. subst (λ (ps : List Page). IfOk result (IsReport ps)) (read.same honest) (told judged result ok err report);
    answer = λ honest.
        subst (λ (ps : List Page). IsAnswer parents (g.state old).format.unique ps result) (read.same honest)
        (subst (λ (k : Bool). IsAnswer parents k pages result) keys_are (answer_told parents keys pages judged result sound report first ok err));
    fault = fault_told (g.state old) pages keys keys_are read.stored (g.backing old) (g.backing new) read.same judged result ok err damaged;
    unread = λ same. absurd (never_refused judged result NoMemory ok err same);
  }
    where
      told : (judged : Result Report Damage) (result : Result Report CheckFault) → IfOk judged (λ report. result ≡ Ok report)
          → IfErr judged (λ d. result ≡ Err (Damaged d.number d.block)) → IfOk judged (IsReport pages) → IfOk result (IsReport pages)
      told (Ok report) result ok err is = subst (λ (r : Result Report CheckFault). IfOk r (IsReport pages)) (sym ok) is
      told (Err d) result ok err is = subst (λ (r : Result Report CheckFault). IfOk r (IsReport pages)) (sym err) tt
