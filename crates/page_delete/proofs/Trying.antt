-- Parts of a step that may do one act.
use Rattle.std.proofs.Common.{◌≡◌, eqb, eq-eqb, ℕ, ◌≤◌, Bool, true, false, List, length, Option, Some, None, Result, Ok, Err, OnErr, IfErr, refl, sym, ap, subst, ◌∙◌}
use Rattle.std.specs.Option.{option_eq}
use Rattle.page_delete.proofs.Imports.{HasCause, Fault, HasRoom, Page, State, Continues, IsLater, after_act, Ghosts, StartsAreBelow, WasLeaf, IsInOrder, IsOneActAtMost, frames_for, one_act}
use Rattle.page_delete.proofs.Imports.{one_nothing, working_later, causes_of_trying, IsCandidate, IsTakenToChange, IsTakenLeft, DeletesOn, PinnedLeafPagesStay, IsTried}

-- two answers are the same
abbrev Path_result : Result Bool Fault → Result Bool Fault → Type 0
Path_result a b = a ≡ b

pub err_map : (r : Result Bool Fault) (P Q : Type 0) → (P → Q) → OnErr r P → OnErr r Q
err_map (Ok b) P Q f h = h
err_map (Err e) P Q f h = f h

pub if_err_map : (r : Result Bool Fault) (P Q : Fault → Type 0) → ((e : Fault) → P e → Q e) → IfErr r P → IfErr r Q
if_err_map (Ok b) P Q f h = h
if_err_map (Err e) P Q f h = f e h

-- if nothing was changed, leaves are as they were
pub pinned_same : (session : ℕ) (old new : State) → new ≡ old → PinnedLeafPagesStay session old new
pinned_same session old new same other block page differ at pin =
    subst (λ (st : State). WasLeaf st.pages block) (sym same) (record { page = page; was = at })

-- what a reading leaves of why a later part is refused
pub record LeavesCauses {S : Type 0} (g : Ghosts S) (old mid : S) : Type 0 where
  pub steps : Continues g.follows old mid
  pub state : g.state mid ≡ g.state old
  pub alive : (g.backing mid).stopped ≡ true → (g.backing old).stopped ≡ true
  pub promised : (g.backing mid).promised ≡ (g.backing old).promised
  pub failures : (g.backing old).failures ≤ (g.backing mid).failures

pub read_on : {S : Type 0} (g : Ghosts S) (old mid : S) → Continues g.follows old mid → g.state mid ≡ g.state old → ((g.backing mid).stopped ≡ true → (g.backing old).stopped ≡ true)
    → (g.backing mid).promised ≡ (g.backing old).promised → IsLater (g.backing old) (g.backing mid) → LeavesCauses g old mid
read_on g old mid steps same alive promised later = record { steps = steps; state = same; alive = alive; promised = promised; failures = later.failures }

module _ {S : Type 0} (g : Ghosts S) (session : ℕ) where
  -- why a later part is refused, from before the reading
  pub cause_later : (old mid new : S) (written : List ℕ) (fault : Fault) → LeavesCauses g old mid → HasCause (causes_of_trying (g.state mid) (g.backing mid) (g.backing new) session written) fault
      → HasCause (causes_of_trying (g.state old) (g.backing old) (g.backing new) session written) fault
  cause_later old mid new written fault r h =
      working_later (g.state old) (g.backing old) (g.backing mid) (g.backing new) session written (frames_for written) false false fault r.failures r.alive r.promised
      (subst (λ (st : State). HasCause (causes_of_trying st (g.backing mid) (g.backing new) session written) fault) r.state h)

  module _ (written : State → List ℕ) (sure : State → Type 0) (change : State → State → Type 0) (reason : State → Type 0) where
    -- ... after a reading
    pub tried_later : (old mid new : S) (result : Result Bool Fault) → LeavesCauses g old mid → IsTried g session written sure change reason mid new result
        → IsTried g session written sure change reason old new result
    tried_later old mid new result r t = record {
      steps = λ first h. t.steps first (r.steps first h);
      kept = subst (λ (st : State). IsOneActAtMost st (g.state new)) r.state t.kept;
      table = t.table ∙ ap (λ (st : State). st.table) r.state;
      cycle = t.cycle ∙ ap (λ (st : State). st.cycle) r.state;
      used = t.used ∙ ap (λ (st : State). length st.pages) r.state;
      refused = err_map result (g.state new ≡ g.state mid) (g.state new ≡ g.state old) (λ same. same ∙ r.state) t.refused;
      stays = λ is. t.stays is ∙ r.state;
      passes = λ honest room is. subst reason r.state (t.passes honest (subst (λ (st : State). HasRoom st.table session) (sym r.state) room) is);
      changed = λ honest is. subst (λ (st : State). change st (g.state new)) r.state (t.changed honest is);
      pins = λ honest. subst (λ (st : State). PinnedLeafPagesStay session st (g.state new)) r.state (t.pins honest);
      does = λ honest order below is. subst (λ (st : State). DeletesOn session st (g.state new)) r.state
          (t.does honest (subst IsInOrder (sym r.state) order) (subst StartsAreBelow (sym r.state) below) is);
      cause = λ honest order room there. if_err_map result _ _ (λ fault h.
          subst (λ (st : State). HasCause (causes_of_trying (g.state old) (g.backing old) (g.backing new) session (written st)) fault) r.state
          (cause_later old mid new (written (g.state mid)) fault r h))
          (t.cause honest (subst IsInOrder (sym r.state) order) (subst (λ (st : State). HasRoom st.table session) (sym r.state) room) (subst sure (sym r.state) there));
    }

    -- nothing was done
    pub tried_nothing : (old new : S) → Continues g.follows old new → g.state new ≡ g.state old
        → ((g.backing new).honest ≡ true → HasRoom (g.state old).table session → reason (g.state old)) → IsTried g session written sure change reason old new (Ok false)
    tried_nothing old new steps same passes = record {
      steps = steps;
      kept = one_nothing (g.state old) (g.state new) same;
      table = ap (λ (st : State). st.table) same;
      cycle = ap (λ (st : State). st.cycle) same;
      used = ap (λ (st : State). length st.pages) same;
      refused = tt;
      stays = λ is. same;
      passes = λ honest room is. passes honest room;
      changed = λ honest is. absurd (clash is);
      pins = λ honest. pinned_same session (g.state old) (g.state new) same;
      does = λ honest order below is. absurd (clash is);
      cause = λ honest order room there. tt;
    }
      where
        clash : Path_result (Ok false) (Ok true) → ⊥
        clash e = cc

    -- ... or it was refused
    pub tried_refused : (old new : S) (fault : Fault) → Continues g.follows old new → g.state new ≡ g.state old
        → ((g.backing new).honest ≡ true → IsInOrder (g.state old) → HasRoom (g.state old).table session → sure (g.state old)
        → HasCause (causes_of_trying (g.state old) (g.backing old) (g.backing new) session (written (g.state old))) fault) → IsTried g session written sure change reason old new (Err fault)
    tried_refused old new fault steps same cause = record {
      steps = steps;
      kept = one_nothing (g.state old) (g.state new) same;
      table = ap (λ (st : State). st.table) same;
      cycle = ap (λ (st : State). st.cycle) same;
      used = ap (λ (st : State). length st.pages) same;
      refused = same;
      stays = λ is. absurd (clash is);
      passes = λ honest room is. absurd (clash is);
      changed = λ honest is. absurd (clash is);
      pins = λ honest. pinned_same session (g.state old) (g.state new) same;
      does = λ honest order below is. absurd (clash is);
      cause = cause;
    }
      where
        clash : {b : Bool} → Path_result (Err fault) (Ok b) → ⊥
        clash e = cc

    -- one act was done
    pub tried_acted : (old new : S) (changed : List Page) → Continues g.follows old new → g.state new ≡ after_act changed (g.state old) → length (g.state new).pages ≡ length (g.state old).pages
        → ((g.backing new).honest ≡ true → change (g.state old) (g.state new)) → ((g.backing new).honest ≡ true → PinnedLeafPagesStay session (g.state old) (g.state new))
        → ((g.backing new).honest ≡ true → IsInOrder (g.state old) → StartsAreBelow (g.state old) → DeletesOn session (g.state old) (g.state new))
        → IsTried g session written sure change reason old new (Ok true)
    tried_acted old new changed steps done used changes pins does = record {
      steps = steps;
      kept = one_act (g.state old) (g.state new) changed done;
      table = ap (λ (st : State). st.table) done;
      cycle = ap (λ (st : State). st.cycle) done;
      used = used;
      refused = tt;
      stays = λ is. absurd (clash is);
      passes = λ honest room is. absurd (clash is);
      changed = λ honest is. changes honest;
      pins = pins;
      does = λ honest order below is. does honest order below;
      cause = λ honest order room there. tt;
    }
      where
        clash : Path_result (Ok true) (Ok false) → ⊥
        clash e = cc

-- what was read before stays as it was read
pub candidate_later : (st st2 : State) (h h2 : Bool) (session block : ℕ) (leaf : Page) → st2 ≡ st → (h2 ≡ true → h ≡ true) → IsCandidate st h session block leaf → IsCandidate st2 h2 session block leaf
candidate_later st st2 h h2 session block leaf same back c =
    let d = subst (λ (s : State). IsCandidate s h session block leaf) (sym same) c in
    record { found = λ k. d.found (back k); stored = d.stored; used = d.used; free = d.free; may_die = d.may_die }

pub taken_later : (st st2 : State) (h h2 : Bool) (session block : ℕ) (page : Page) → st2 ≡ st → (h2 ≡ true → h ≡ true)
    → IsTakenToChange st h session block page → IsTakenToChange st2 h2 session block page
taken_later st st2 h h2 session block page same back c =
    let d = subst (λ (s : State). IsTakenToChange s h session block page) (sym same) c in
    record { found = λ k. d.found (back k); stored = d.stored; used = d.used; free = d.free }

pub left_later : (st st2 : State) (h h2 : Bool) (session : ℕ) (page : Page) (link : Option ℕ) (left : Option Page) → st2 ≡ st → (h2 ≡ true → h ≡ true) → IsTakenLeft st h session page link left
    → IsTakenLeft st2 h2 session page link left
left_later st st2 h h2 session page None None same back t = tt
left_later st st2 h h2 session page None (Some l) same back t = absurd t
left_later st st2 h h2 session page (Some b) None same back t = absurd t
left_later st st2 h h2 session page (Some b) (Some l) same back t = (taken_later st st2 h h2 session b l same back t.0, t.1)

-- a link that is compared with the block that it names
pub same_link : (o : Option ℕ) (b : ℕ) → o ≡ Some b → option_eq eqb o (Some b) ≡ true
same_link None b is = cc
same_link (Some c) b is = rw (some_is is) (eq-eqb b b refl)
  where
    some_is : Some c ≡ Some b → c ≡ b
    some_is e = cc
