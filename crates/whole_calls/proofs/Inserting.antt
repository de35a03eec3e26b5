-- What an insert tells that is run to its end.
use Rattle.std.proofs.Common.{◌≡◌, ◌≢◌, ℕ, suc, ◌+◌, ◌⊎◌, Bool, true, false, if◌then◌else◌, Option, Some, None, List, [], ◌∷◌, ◌++◌, length, slice_get, slice_set, refl, sym, ap, subst, arith, inl, inr, ◌∙◌, length-append, append_assoc, unwrap_or}
use Rattle.whole_calls.specs.Inserting.{InsertIsRun}
use Rattle.whole_calls.proofs.Imports.{false≢true, append-nil, EndsAdded, Row, Blocked, Exists, KeyExists, ToInsert, get_append_new, get_append_cases, Effect, Add, Remove, Shape, Action, Ask}
use Rattle.whole_calls.proofs.Imports.{AskInsert, Ending, Running, GivenUp, Failed, AnswersRight, end_of, Meets, Call, HasCause, Entry, Fault, Ghosts, ends_call, IsCaused, acts_of, act_count}
use Rattle.whole_calls.proofs.Imports.{noted, ended, slot_add, once_added, Answer, Going, Added, Refused, Op, StoreAndSlots, Moment, snapshot_of, IsRunningCall, Fits, here_at, slot_of, Answered}
use Rattle.whole_calls.proofs.Imports.{InsertComesTo, CallIsRun, CallIsRunFrom, causes_of_inserted, causes_of_asked, has_no_block, is_tall, InsertCallIsCaused, RequestIsRun, MayAnswer, acts_by}
use Rattle.whole_calls.proofs.Imports.{noted_after, AreOwnEffects, CallAnswers, StepMeans, HasNone, EndMeans, with_one_call, first_call, NextMeans, NothingIsDone, outcome_at_fault, outcome_of, shapes}
use Rattle.whole_calls.proofs.Imports.{inserted_call, IsAddedNow, IsNotAdded, InsertMeans}
use Rattle.whole_calls.proofs.Composing.{goes_told}
use Rattle.whole_calls.proofs.Refusing.{called_wider, begun_called, stopped_before}
use Rattle.whole_calls.proofs.Gone.{same_ask, same_ending, same_session, whole_told}
use Rattle.whole_calls.proofs.Tellings.{runs_in_slot, one_runs, is_empty, set_new, came_may}

-- an insert whose entry is added appends nothing but changes of the shape
only_shapes : (number : ℕ) (e : Entry) (call : Call) (count action : ℕ) (effects : List Effect) → call.ask ≡ AskInsert e → call.added ≡ Some action → AreOwnEffects call count effects
    → (acts_by number effects ≡ shapes number (length effects)) × (noted_after call count effects ≡ call)
only_shapes number e call count action [] ask added own = (refl, refl)
only_shapes number e call count action (Shape ∷ effects) ask added own =
    let r = only_shapes number e call (suc count) action effects ask added own.1 in
    (ap (λ (l : List Action). (record { by = number; effect = Shape }) ∷ l) r.0, r.1)
only_shapes number e call count action (Add x ∷ effects) ask added own =
    absurd (let m = rw ask at own.0 in let none : call.added ≡ None = m.1 in cc)
only_shapes number e call count action (Remove es ∷ effects) ask added own = absurd (rw ask at own.0)

-- an insert whose entry isn't added at the end, too
none_added : (number : ℕ) (e : Entry) (call : Call) (count : ℕ) (effects : List Effect) → call.ask ≡ AskInsert e → (noted_after call count effects).added ≡ None → AreOwnEffects call count effects
    → (acts_by number effects ≡ shapes number (length effects)) × (noted_after call count effects ≡ call)
none_added number e call count [] ask none own = (refl, refl)
none_added number e call count (Shape ∷ effects) ask none own =
    let r = none_added number e call (suc count) effects ask none own.1 in
    (ap (λ (l : List Action). (record { by = number; effect = Shape }) ∷ l) r.0, r.1)
none_added number e call count (Add x ∷ effects) ask none own =
    absurd (let r = only_shapes number e (noted call count (Some (Add x))) (suc count) (suc count) effects ask refl own.1 in
    let s : (noted_after call count (Add x ∷ effects)).added ≡ Some (suc count) = ap (λ (c : Call). c.added) r.1 in cc)
none_added number e call count (Remove es ∷ effects) ask none own = absurd (rw ask at own.0)

-- what an insert has appended that has its Add at the end
pub record OneAdd (number : ℕ) (e : Entry) (call : Call) (count : ℕ) (effects : List Effect) (action : ℕ) : Type 0 where
  pub before : ℕ
  pub shapes_after : ℕ
  pub acts_are : acts_by number effects ≡ shapes number before ++ (record { by = number; effect = Add e }) ∷ shapes number shapes_after
  pub action_is : action ≡ suc (before + count)
  pub noted_is : noted_after call count effects ≡ record call { added = Some action }

one_add : (number : ℕ) (e : Entry) (call : Call) (count : ℕ) (effects : List Effect) (action : ℕ) → call.ask ≡ AskInsert e → call.added ≡ None
    → (noted_after call count effects).added ≡ Some action → AreOwnEffects call count effects
    → OneAdd number e call count effects action
one_add number e call count [] action ask none some own = absurd cc
one_add number e call count (Shape ∷ effects) action ask none some own =
    let r = one_add number e call (suc count) effects action ask none some own.1 in
    record {
      before = suc r.before;
      shapes_after = r.shapes_after;
      acts_are = ap (λ (l : List Action). (record { by = number; effect = Shape }) ∷ l) r.acts_are;
      action_is = (let is = r.action_is in omega (arith, is));
      noted_is = r.noted_is;
    }
one_add number e call count (Add x ∷ effects) action ask none some own =
    let m = rw ask at own.0 in
    let same : e ≡ x = m.0 in
    let r = only_shapes number e (noted call count (Some (Add x))) (suc count) (suc count) effects ask refl own.1 in
    let is : action ≡ suc count = (let s : (noted_after call count (Add x ∷ effects)).added ≡ Some (suc count) = ap (λ (c : Call). c.added) r.1 in cc) in
    record {
      before = 0;
      shapes_after = length effects;
      acts_are = ap (λ (l : List Action). (record { by = number; effect = Add x }) ∷ l) r.0 ∙ ap (λ (y : Entry). (record { by = number; effect = Add y }) ∷ shapes number (length effects)) (sym same);
      action_is = omega (arith, is);
      noted_is = r.1 ∙ ap (λ (n : ℕ). let c : Call = record call { added = Some n } in c) (sym is);
    }
one_add number e call count (Remove es ∷ effects) action ask none some own = absurd (rw ask at own.0)

-- a call that has come to its end, in a session that had none
pub ended_none : {S : Type 0} (session : ℕ) (x y : Moment S) (after : Call) → HasNone session x → y.calls ≡ x.calls ++ after ∷ [] → (after.ending ≡ Running → ⊥) → HasNone session y
ended_none session x y after none calls over number call is =
    elim (get_append_cases x.calls after number call (ap (λ (l : List Call). slice_get l number) (sym calls) ∙ is.found)) [
      | inl old ↦ none number call (record { found = old; session_is = is.session_is; running = is.running })
      | inr new ↦ over (ap (λ (c : Call). c.ending) (sym new.1) ∙ is.running)
    ]

-- an insert that a fault has ended has no Add
failed_has_none : (start : Entry → Bool) (history : List Action) (number : ℕ) (e : Entry) (fault : Fault) (call : Call)
    → Meets start history number call → call.ask ≡ AskInsert e → call.ending ≡ Failed fault → call.added ≡ None
failed_has_none start history number e fault call meets ask ending =
    let right = subst (λ (x : Ending). AnswersRight start history number call.began (end_of history x call.until) call.ask call.given call.added x) ending meets.right in
    let mine = subst (λ (a : Ask). AnswersRight start history number call.began call.until a call.given call.added (Failed fault)) ask right in
    mine.end.0

-- what an insert may have come to
abbrev MayEndInsert : Answer → Type 0
MayEndInsert (Added action unfinished) = Unit {0}
MayEndInsert (Refused fault) = Unit {0}
MayEndInsert answer = ⊥

insert_may : (entry : Entry) (answer : Answer) → answer ≢ Going → MayAnswer (AskInsert entry) answer → MayEndInsert answer
insert_may entry (Added action unfinished) over may = tt
insert_may entry (Refused fault) over may = tt
insert_may entry Going over may = absurd (over refl)
insert_may entry answer over may = absurd may

-- what it answers was answered
pub insert_comes : (entry : Entry) (answer : Answer) (added : Option ℕ) (answers : List Answer) → answer ≢ Going → MayAnswer (AskInsert entry) answer
    → Answered answer answers → InsertComesTo (outcome_of answer added) answers
insert_comes entry (Added action unfinished) added answers over may (inl so) = inl so
insert_comes entry (Added action unfinished) added answers over may (inr so) = absurd (let e = so.0 in cc)
insert_comes entry (Refused fault) None answers over may so = so
insert_comes entry (Refused fault) (Some action) answers over may so = inr (fault, refl, so)
insert_comes entry answer added answers over may so = absurd (insert_may entry answer over may)

-- a fault of an entry that was there, or of its key
abbrev IsOfEntry : Fault → Type 0
IsOfEntry Exists = Unit {0}
IsOfEntry (KeyExists row) = Unit {0}
IsOfEntry fault = ⊥

not_of_entry : (fault : Fault) → fault ≢ Exists → ((row : Row) → fault ≢ KeyExists row) → IsOfEntry fault → ⊥
not_of_entry Exists entry key h = entry refl
not_of_entry (KeyExists row) entry key h = key row refl
not_of_entry fault entry key h = h

of_entry_ends : (fault : Fault) → IsOfEntry fault → ends_call fault ≡ true
of_entry_ends Exists h = refl
of_entry_ends (KeyExists row) h = refl
of_entry_ends fault h = absurd h

-- an insert that was refused: where it stands then
pub record IsLeftSo {S : Type 0} (number : ℕ) (call : Call) (fault : Fault) (x y : Moment S) : Type 0 where
  pub effects : List Effect
  pub own : AreOwnEffects call (length x.history) effects
  pub after : Call
  pub history_is : y.history ≡ x.history ++ acts_by number effects
  pub calls_is : y.calls ≡ slice_set x.calls number after
  pub after_is : (after ≡ noted_after call (length x.history) effects) ⊎ (after ≡ ended (noted_after call (length x.history) effects) (Failed fault) (length y.history))
  pub over_is : IsOfEntry fault → after ≡ ended (noted_after call (length x.history) effects) (Failed fault) (length y.history)

refused_so : {S : Type 0} (number : ℕ) (call : Call) (fault : Fault) (x y : Moment S) → CallAnswers number call (Refused fault) x y → IsLeftSo number call fault x y
refused_so number call fault x y t =
    let w = whole_told number call (Refused fault) x y t in
    let same : t.before ≡ w.effects = w.none_is t.told.0 in
    let history : y.history ≡ x.history ++ acts_by number w.effects = w.history_is in
    let many : length (x.history ++ acts_by number t.before) ≡ length y.history =
    ap (λ (l : List Effect). length (x.history ++ acts_by number l)) same ∙ ap (λ (l : List Action). length l) (sym history) in
    let is : t.after ≡ (if ends_call fault then ended (noted_after call (length x.history) w.effects) (Failed fault) (length y.history) else noted_after call (length x.history) w.effects) =
    t.told.1 ∙ ap (λ (l : List Effect).
    if ends_call fault then ended (noted_after call (length x.history) l) (Failed fault) (length (x.history ++ acts_by number t.before)) else noted_after call (length x.history) l) same
    ∙ ap (λ (n : ℕ). if ends_call fault then ended (noted_after call (length x.history) w.effects) (Failed fault) n else noted_after call (length x.history) w.effects) many in
    record {
      effects = w.effects;
      own = w.own;
      after = t.after;
      history_is = history;
      calls_is = t.calls_is;
      after_is = by (ends_call fault) is;
      over_is = λ e. subst
          (λ (b : Bool). t.after ≡
          (if b then ended (noted_after call (length x.history) w.effects) (Failed fault) (length y.history) else noted_after call (length x.history) w.effects)) (of_entry_ends fault e) is;
    }
  where
    by : {c : Call} {d : Call} {k : Call} (b : Bool) → k ≡ (if b then d else c) → (k ≡ c) ⊎ (k ≡ d)
    by true h = inr h
    by false h = inl h

-- refused at a step, or before it
left_so : {S : Type 0} (number : ℕ) (call : Call) (fault : Fault) (x y : Moment S) → StepMeans number call (Refused fault) x y → IsLeftSo number call fault x y
left_so number call fault x y (inl t) = refused_so number call fault x y t
left_so number call fault x y (inr h) =
    let same : h.fault ≡ fault = (let e = h.refused in cc) in
    record {
      effects = h.before;
      own = h.gone.own;
      after = noted_after call (length x.history) h.before;
      history_is = h.gone.history_is;
      calls_is = h.gone.calls_is;
      after_is = inl refl;
      over_is = λ e. absurd (not_of_entry h.fault h.not_exists h.not_key_exists (subst IsOfEntry (sym same) e));
    }

-- an insert that came so far, and then an end
module _ {S : Type 0} (g : Ghosts S) (start : Entry → Bool) (session : ℕ) (entry : Entry) (x y z : Moment S) (free : HasNone session x) (fits : Fits g start y) (end : EndMeans session y z) where
  abbrev request_call : Call
  request_call = first_call session (ToInsert entry) x

  abbrev begun : Moment S
  begun = with_one_call x request_call

  abbrev insert_number : ℕ
  insert_number = length x.calls

  added_told : (action : ℕ) (unfinished : Option Fault) → CallAnswers insert_number request_call (Added action unfinished) begun y
      → IsAddedNow session entry (record { action = action; unfinished = unfinished }) x z
  added_told action unfinished t =
      let w = whole_told insert_number request_call (Added action unfinished) begun y t in
      let o = one_add insert_number entry request_call (length x.history) w.effects action refl refl (ap (λ (c : Call). c.added) (sym w.noted_is) ∙ t.told.noted_is) w.own in
      let until : act_count t.last + length (x.history ++ acts_by insert_number t.before) ≡ length z.history =
      more t.last (x.history ++ acts_by insert_number t.before) t.history_is ∙ ap (λ (l : List Action). length l) (sym end.history_is) in
      let after_is : t.after ≡ inserted_call session entry (length x.history) action (EndsAdded action unfinished) (length z.history) =
      t.told.after_is ∙ ap (λ (c : Call). ended c (EndsAdded action unfinished) (act_count t.last + length (x.history ++ acts_by insert_number t.before))) (w.noted_is ∙ o.noted_is)
      ∙ ap (λ (n : ℕ). inserted_call session entry (length x.history) action (EndsAdded action unfinished) n) until in
      let calls : y.calls ≡ x.calls ++ inserted_call session entry (length x.history) action (EndsAdded action unfinished) (length z.history) ∷ [] =
      t.calls_is ∙ set_new x.calls request_call t.after ∙ ap (λ (c : Call). x.calls ++ c ∷ []) after_is in
      record {
        before = o.before;
        shapes_after = o.shapes_after;
        ending = EndsAdded action unfinished;
        history_is = end.history_is ∙ w.history_is ∙ ap (λ (l : List Action). x.history ++ l) o.acts_are
            ∙ sym (append_assoc x.history (shapes insert_number o.before) ((record { by = insert_number; effect = Add entry }) ∷ shapes insert_number o.shapes_after));
        action_is = o.action_is;
        end_is = inl refl;
        calls_is = end.calls_is (ended_none session x y (inserted_call session entry (length x.history) action (EndsAdded action unfinished) (length z.history)) free calls (λ e. cc)) ∙ calls;
      }
    where
      more : (last : Option Effect) (history : List Action) → y.history ≡ history ++ acts_of insert_number last → act_count last + length history ≡ length y.history
      more last history is = by last (ap (λ (l : List Action). length l) is)
        where
          by : (o : Option Effect) → length y.history ≡ length (history ++ acts_of insert_number o) → act_count o + length history ≡ length y.history
          by None h = (let k = length-append history (acts_of insert_number None) in omega (arith, h, k))
          by (Some e) h = (let k = length-append history (acts_of insert_number (Some e)) in omega (arith, h, k))

  -- after a refusal the insert's call is the last one
  last_call : (fault : Fault) (l : IsLeftSo insert_number request_call fault begun y) → y.calls ≡ x.calls ++ l.after ∷ []
  last_call fault l = l.calls_is ∙ set_new x.calls request_call l.after

  found_last : (fault : Fault) (l : IsLeftSo insert_number request_call fault begun y) → slice_get y.calls insert_number ≡ Some l.after
  found_last fault l = ap (λ (cs : List Call). slice_get cs insert_number) (last_call fault l) ∙ get_append_new x.calls l.after

  still_runs : (fault : Fault) (l : IsLeftSo insert_number request_call fault begun y)
      → l.after ≡ noted_after request_call (length x.history) l.effects → IsRunningCall y.calls session insert_number l.after
  still_runs fault l is = record {
    found = found_last fault l;
    session_is = ap (λ (c : Call). c.session) is ∙ same_session request_call (length x.history) l.effects;
    running = ap (λ (c : Call). c.ending) is ∙ same_ending request_call (length x.history) l.effects;
  }

  -- its Add is that of what its session runs
  same_add : (fault : Fault) (l : IsLeftSo insert_number request_call fault begun y)
      → l.after ≡ noted_after request_call (length x.history) l.effects → (noted_after request_call (length x.history) l.effects).added ≡ slot_add (slot_of y.slots session)
  same_add fault l is =
      let runs = still_runs fault l is in
      let r = runs_in_slot g start y fits session insert_number l.after runs in
      let e : r.2.call ≡ l.after = (one_runs g start y fits session insert_number r.2.number l.after r.2.call runs r.2.is).1 in
      let slot : slot_of y.slots session ≡ Some r.0 = ap (λ (o : Option (Option Op)). unwrap_or o None) r.1 in
      ap (λ (c : Call). c.added) (sym is) ∙ ap (λ (c : Call). c.added) (sym e) ∙ r.2.runs.added ∙ ap slot_add (sym slot)

  -- if it has none, it has appended changes of the shape only
  left_without : (fault : Fault) (l : IsLeftSo insert_number request_call fault begun y) → slot_add (slot_of y.slots session) ≡ None → IsNotAdded session entry fault x z
  left_without fault l none =
      let no_add : (noted_after request_call (length x.history) l.effects).added ≡ None = elim l.after_is [
        | inl is ↦ same_add fault l is ∙ none
        | inr is ↦ (
            let failed : l.after.added ≡ None = failed_has_none start y.history insert_number entry fault l.after (fits.explains.meets insert_number l.after (found_last fault l))
            (ap (λ (c : Call). c.ask) is ∙ same_ask request_call (length x.history) l.effects) (ap (λ (c : Call). c.ending) is) in
            ap (λ (c : Call). c.added) (sym is) ∙ failed)
      ] in
      let r = none_added insert_number entry request_call (length x.history) l.effects refl no_add l.own in
      record {
        shaped = length l.effects;
        history_is = end.history_is ∙ l.history_is ∙ ap (λ (h : List Action). x.history ++ h) r.0;
        exists_is = λ e. over r.1 Exists tt e;
        key_exists_is = λ row e. over r.1 (KeyExists row) tt e;
      }
    where
      over : noted_after request_call (length x.history) l.effects ≡ request_call → (of : Fault) → IsOfEntry of → fault ≡ of
          → z.calls ≡ x.calls ++ ended request_call (Failed of) (length z.history) ∷ []
      over same of is e =
          let after : Call = ended request_call (Failed of) (length z.history) in
          let after_is : l.after ≡ after =
          l.over_is (subst IsOfEntry (sym e) is) ∙ ap (λ (f : Fault). ended (noted_after request_call (length x.history) l.effects) (Failed f) (length y.history)) e
          ∙ ap (λ (c : Call). ended c (Failed of) (length y.history)) same ∙ ap (λ (h : List Action). ended request_call (Failed of) (length h)) (sym end.history_is) in
          let calls : y.calls ≡ x.calls ++ after ∷ [] = last_call fault l ∙ ap (λ (c : Call). x.calls ++ c ∷ []) after_is in
          end.calls_is (ended_none session x y after free calls (λ k. cc)) ∙ calls

  -- a session whose insert a fault has ended runs nothing
  failed_runs_none : (fault : Fault) (l : IsLeftSo insert_number request_call fault begun y)
      → l.after ≡ ended (noted_after request_call (length x.history) l.effects) (Failed fault) (length y.history) → slot_of y.slots session ≡ None
  failed_runs_none fault l is =
      let calls : y.calls ≡ x.calls ++ l.after ∷ [] = last_call fault l in
      let over : l.after.ending ≡ Running → ⊥ = λ e. (let f : l.after.ending ≡ Failed fault = ap (λ (c : Call). c.ending) is in cc) in
      is_empty g start y fits session (ended_none session x y l.after free calls over)

  -- an insert that has added its entry isn't refused because the entry or its key was there
  pub not_there : (action : ℕ) → slot_add (slot_of y.slots session) ≡ Some action → (fault : Fault) → IsOfEntry fault → NextMeans session (ToInsert entry) (Refused fault) x y → ⊥
  not_there action some fault of t =
      let l : IsLeftSo insert_number request_call fault begun y = left_so insert_number request_call fault begun y t in
      let none : slot_add (slot_of y.slots session) ≡ None = ap slot_add (failed_runs_none fault l (l.over_is of)) in
      cc

  -- if it has one, it still runs, and is given up
  left_with : (fault : Fault) (l : IsLeftSo insert_number request_call fault begun y) (action : ℕ) → slot_add (slot_of y.slots session) ≡ Some action
      → IsAddedNow session entry (record { action = action; unfinished = Some fault }) x z
  left_with fault l action some = elim l.after_is [
    | inl is ↦ (
        let o = one_add insert_number entry request_call (length x.history) l.effects action refl refl (same_add fault l is ∙ some) l.own in
        let calls : z.calls ≡ x.calls ++ ended l.after GivenUp (length y.history) ∷ [] =
        end.ended_is insert_number l.after (still_runs fault l is)
        ∙ ap (λ (cs : List Call). slice_set cs insert_number (ended l.after GivenUp (length y.history))) (last_call fault l) ∙ set_new x.calls l.after (ended l.after GivenUp (length y.history)) in
        record {
          before = o.before;
          shapes_after = o.shapes_after;
          ending = GivenUp;
          history_is = end.history_is ∙ l.history_is ∙ ap (λ (h : List Action). x.history ++ h) o.acts_are
              ∙ sym (append_assoc x.history (shapes insert_number o.before) ((record { by = insert_number; effect = Add entry }) ∷ shapes insert_number o.shapes_after));
          action_is = o.action_is;
          end_is = inr (refl, λ e. cc);
          calls_is = calls ∙ ap (λ (c : Call). x.calls ++ ended c GivenUp (length y.history) ∷ []) (is ∙ o.noted_is)
              ∙ ap (λ (h : List Action). x.calls ++ inserted_call session entry (length x.history) action GivenUp (length h) ∷ []) (sym end.history_is);
        })
    | inr is ↦ absurd (
        let none : slot_add (slot_of y.slots session) ≡ None = ap slot_add (failed_runs_none fault l is) in cc)
  ]

  left_told : (fault : Fault) (added : Option ℕ) → slot_add (slot_of y.slots session) ≡ added → IsLeftSo insert_number request_call fault begun y
      → InsertMeans session entry (outcome_at_fault added fault) x z
  left_told fault None is l = left_without fault l is
  left_told fault (Some action) is l = left_with fault l action is

  pub insert_told : (answer : Answer) (added : Option ℕ) → slot_add (slot_of y.slots session) ≡ added → answer ≢ Going
      → NextMeans session (ToInsert entry) answer x y → InsertMeans session entry (outcome_of answer added) x z
  insert_told (Added action unfinished) added is over (inl t) = added_told action unfinished t
  insert_told (Added action unfinished) added is over (inr h) = absurd (let e = h.refused in cc)
  insert_told (Refused fault) added is over t = left_told fault added is (left_so insert_number request_call fault begun y t)
  insert_told answer added is over t = absurd (insert_may entry answer over (came_may insert_number request_call answer begun y t))

-- an insert that was not begun
not_begun : {S : Type 0} (session : ℕ) (entry : Entry) (fault : Fault) (x y : Moment S) → NothingIsDone fault x y → IsNotAdded session entry fault x y
not_begun session entry fault x y t = record {
  shaped = 0;
  history_is = t.silent.history_is ∙ sym (append-nil x.history);
  exists_is = λ e. absurd (t.not_exists e);
  key_exists_is = λ row e. absurd (t.not_key_exists row e);
}

-- why it leaves a fault after, or is refused
left_cause : {S : Type 0} (g : Ghosts S) (session least_room : ℕ) (old : StoreAndSlots S) (new : S) (key_was : Row → Bool) (used_up tall : Bool) (fault : Fault) → (IsOfEntry fault → ⊥)
    → HasCause (causes_of_inserted g session least_room true key_was used_up tall old new) fault → HasCause (causes_of_inserted g session least_room false (λ r. false) used_up tall old new) fault
left_cause g session least_room old new key_was used_up tall Exists apart h = absurd (apart tt)
left_cause g session least_room old new key_was used_up tall (KeyExists row) apart h = absurd (apart tt)
left_cause g session least_room old new key_was used_up tall fault apart h = h

-- what it leaves unfinished has its cause
added_cause : {S : Type 0} (g : Ghosts S) (session least_room : ℕ) (old : StoreAndSlots S) (new : S) (key_was : Row → Bool) (used_up tall : Bool)
    (fault : Fault) → HasCause (once_added (causes_of_inserted g session least_room true key_was used_up tall old new)) fault
    → HasCause (causes_of_inserted g session least_room false (λ r. false) used_up tall old new) fault
added_cause g session least_room old new key_was used_up tall (Blocked block) h = absurd (false≢true h)
added_cause g session least_room old new key_was used_up tall fault h = h

-- an insert that is run to its end
module _ {S : Type 0} (g : Ghosts S) (session least_room : ℕ) (entry : Entry) where
  run_told : (start : Entry → Bool) (x z : Moment S) (answer : Answer) (added : Option ℕ) → answer ≢ Going
      → RequestIsRun g session least_room (ToInsert entry) answer added start x z → InsertMeans session entry (outcome_of answer added) x z
  run_told start x z answer added over (inl n) = rw (n.refused, n.none) (not_begun session entry n.fault x z n.told)
  run_told start x z answer added over (inr r) = insert_told g start session entry x r.here z r.free r.fits r.end answer added r.add_is over r.told

  -- no block is left for the insert
  abbrev no_block : StoreAndSlots S → S → Bool
  no_block old new = has_no_block session (Some (g.state old.store).begun) (g.state new)

  caused : (old : StoreAndSlots S) (new : S) (answer : Answer) (added : Option ℕ) → MayEndInsert answer
      → ((action : ℕ) → added ≡ Some action → (fault : Fault) → IsOfEntry fault → answer ≢ Refused fault)
      → IsCaused (causes_of_asked g session least_room (Some (g.state old.store).begun) false (AskInsert entry) old new) answer
      → InsertCallIsCaused g session least_room entry old new (outcome_of answer added)
  caused old new (Added action None) added may apart c = tt
  caused old new (Added action (Some fault)) added may apart c = added_cause g session least_room old new (λ r. (g.state new).format.unique) (no_block old new) (is_tall (g.state new)) fault c
  caused old new (Refused fault) None may apart c =
      called_wider g session (ToInsert entry) old
      (causes_of_inserted g session least_room true (λ r. (g.state new).format.unique) (no_block old new) (is_tall (g.state new)) old new) refl refl refl fault c
  caused old new (Refused fault) (Some action) may apart c =
      left_cause g session least_room old new (λ r. (g.state new).format.unique) (no_block old new) (is_tall (g.state new)) fault (λ of. apart action refl fault of refl) c
  caused old new answer added may apart c = absurd may

  may_run : (start : Entry → Bool) (x z : Moment S) (answer : Answer) (added : Option ℕ) → answer ≢ Going
      → RequestIsRun g session least_room (ToInsert entry) answer added start x z → MayEndInsert answer
  may_run start x z answer added over (inl n) = subst MayEndInsert (sym n.refused) tt
  may_run start x z answer added over (inr r) =
      insert_may entry answer over (came_may (length x.calls) (first_call session (ToInsert entry) x) answer (with_one_call x (first_call session (ToInsert entry) x)) r.here r.told)

  pub insert_caused : {start : Entry → Bool} {x z : Moment S} (answer : Answer) (added : Option ℕ) → answer ≢ Going
      → RequestIsRun g session least_room (ToInsert entry) answer added start x z
      → InsertCallIsCaused g session least_room entry (here_at x) z.store (outcome_of answer added)
  insert_caused {x = x} {z} answer added over (inl n) =
      rw (n.refused, n.none)
      (begun_called g session (ToInsert entry) (here_at x)
      (causes_of_inserted g session least_room true (λ r. (g.state z.store).format.unique) (no_block (here_at x) z.store)
      (is_tall (g.state z.store)) (here_at x) z.store) (λ h. stopped_before g session least_room false (here_at x) z.store h) n.fault n.cause)
  insert_caused {start} {x} {z} answer added over (inr r) =
      caused (here_at x) z.store answer added (may_run start x z answer added over (inr r))
      (λ action some fault of e.
      not_there g start session entry x r.here z r.free r.fits r.end action (r.add_is ∙ some) fault of (subst (λ (a : Answer). NextMeans session (ToInsert entry) a x r.here) e r.told)) r.caused

  as_told : {a c : StoreAndSlots S} (answer : Answer) (added : Option ℕ) → answer ≢ Going → CallIsRunFrom g session (RequestIsRun g session least_room (ToInsert entry) answer added) (Some answer) a c
      → CallIsRun g session (InsertMeans session entry (outcome_of answer added)) (Some answer) a c
  as_told {a} {c} answer added over goes =
      goes_told _ goes (λ start h hc k kc answers fits by t. (by, run_told start (snapshot_of a h hc) (snapshot_of c k kc) answer added over t))

  pub insert_goes : {a c : StoreAndSlots S} (answer : Answer) (added : Option ℕ) → answer ≢ Going
      → CallIsRunFrom g session (RequestIsRun g session least_room (ToInsert entry) answer added) (Some answer) a c → InsertIsRun g session entry (outcome_of answer added) a c
  insert_goes (Added action unfinished) added over goes = inl (as_told (Added action unfinished) added over goes)
  insert_goes (Refused fault) None over goes = as_told (Refused fault) None over goes
  insert_goes (Refused fault) (Some action) over goes = inr (record { fault = fault; left = refl; goes = as_told (Refused fault) (Some action) over goes })
  insert_goes {a} {c} answer added over goes = λ honest start history calls fits. absurd (
      let r = goes honest start history calls fits in
      may_run start (snapshot_of a history calls) (snapshot_of c r.then_history r.then_calls) answer added over r.tells)
