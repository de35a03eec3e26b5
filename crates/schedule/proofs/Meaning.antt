-- What an event means follows from what its operation tells of it.
use Rattle.std.proofs.Common.{◌≡◌, ◌≢◌, ◌⊎◌, ℕ, suc, ◌+◌, ◌≤◌, ◌&&◌, ◌==◌, not, Bool, true, false, Option, Some, None, List, [], ◌∷◌, ◌++◌, length, slice_get, slice_set, refl, sym, ap, subst, arith, inl, inr, ◌∙◌, length-append}
use Rattle.tree_acts.specs.Flags.{FlagsMove}
use Rattle.schedule.proofs.Imports.{if◌then◌else◌, nat_lt, unwrap_or, true≢false, false≢true, and_parts, or_cases, eqb-true, eq-eqb, ne_eqb, ltb-true, ltb-false, Effect, Add, Remove, Shape}
use Rattle.schedule.proofs.Imports.{Action, Ask, AskInsert, AskScan, AskBulkDelete, AskCleanup, EndsAdded, Failed, Call, Circumstances, HasCause, Row, Entry, Fault, NoMemory, Io, Stopped, Blocked}
use Rattle.schedule.proofs.Imports.{Exists, KeyTooLong, BadRow, IndexFull, LogFull, NoFrame, VacuumRunning, NoSession, SessionBusy, BadSuper, BadVersion, LogDamaged, PageDamaged, BadLimits}
use Rattle.schedule.proofs.Imports.{TooTall, DeviceTooSmall, KeyExists, nothing_wrong, is_at_end, has_failed, causes_of_forced, State, Ghosts, nodes_of, FinishesASplit, DeletesALeaf, IsRaised}
use Rattle.schedule.proofs.Imports.{is_incomplete, level_in, asked_by, acts_of, becomes, MayComeWith, asked_of, session_of, asks_vacuum, is_vacuum, causes_of_asked_next, no_call_begins}
use Rattle.schedule.proofs.Imports.{once_added, IsCaused, ends_call, AnswerMeans, MovesShape, act_count, noted, ended, is_busy, Answer, Begun, Going, Added, Ready, Done, Finished, Gave, Ended}
use Rattle.schedule.proofs.Imports.{Forced, Flushed, Checkpointed, Refused, Op, Insert, Scan, Bulk, Cleanup, Request, ToInsert, ToScan, ToBulk, ToCleanup, Moment, RunsOne, IsRunningCall, Move}
use Rattle.schedule.proofs.Imports.{Steps, Takes, GivesUp, Upkeep, Forces, Flushes, Checkpoints, Kind, BeginsCall, MovesCall, MaintainsStore, MoveFails, Vacuums, EventFails, IsSameState}
use Rattle.schedule.proofs.Imports.{ClearsOneSplit, DeletesOneLeaf, ShapeMoves, IsRefusedFor, CallContinues, AllAreDurable, Means, Fits, EventDoes, slot_of, slot_vacuums, one_vacuums}
use Rattle.schedule.proofs.Imports.{slot_has_call, has_call, is_of_sets, SlotRuns, here_at, CallMoves, Stays, kept_answer, UpkeepIsDurable, UpkeepIsDone, MovesOn, MayBegin, Happens}
use Rattle.schedule.proofs.Imports.{causes_of_no_call, causes_of_begun_at, causes_of_moving, causes_of_happening, EventAlso}
use Rattle.schedule.proofs.Causes.{one_of_few, step_fails}
use Rattle.schedule.proofs.Fitting.{none_beyond, running_of}
use Rattle.schedule.proofs.Lists.{same_some}
use Rattle.schedule.proofs.Vacuums.{any_true}

-- a call that differs in its Add alone from one that an answer makes
with_added : (base after : Call) (added : Option ℕ) → after ≡ record base { added = added } → after ≡ record base { added = after.added }
with_added base after added e = e ∙ ap (λ (x : Option ℕ). record base { added = x }) (sym (ap (λ (c : Call). c.added) e))

-- what a refusal makes of a call, whose Add is as it was
refused_becomes : (fault : Fault) (count : ℕ) (call : Call) → (if ends_call fault then ended call (Failed fault) count else call) ≡ record (becomes (Refused fault) count call) { added = call.added }
refused_becomes NoMemory count call = refl
refused_becomes Io count call = refl
refused_becomes Stopped count call = refl
refused_becomes (Blocked b) count call = refl
refused_becomes Exists count call = refl
refused_becomes KeyTooLong count call = refl
refused_becomes BadRow count call = refl
refused_becomes IndexFull count call = refl
refused_becomes LogFull count call = refl
refused_becomes NoFrame count call = refl
refused_becomes VacuumRunning count call = refl
refused_becomes NoSession count call = refl
refused_becomes SessionBusy count call = refl
refused_becomes BadSuper count call = refl
refused_becomes BadVersion count call = refl
refused_becomes LogDamaged count call = refl
refused_becomes (PageDamaged b) count call = refl
refused_becomes BadLimits count call = refl
refused_becomes TooTall count call = refl
refused_becomes DeviceTooSmall count call = refl
refused_becomes (KeyExists r) count call = refl

-- no action is appended: there are as many as before
same_count : (effect : Option Effect) (count n : ℕ) → effect ≡ None → n ≡ act_count effect + count → count ≡ n
same_count effect count n none is = let zero_is : act_count effect ≡ 0 = ap act_count none in omega arith

-- what is told of a call is what the answer makes of it
told_becomes : (answer : Answer) (count n : ℕ) (effect : Option Effect) (call after : Call) → n ≡ act_count effect + count → AnswerMeans answer count effect call after
    → after ≡ record (becomes answer n call) { added = after.added }
told_becomes Begun count n effect call after is h = absurd h
told_becomes Going count n effect call after is h = with_added call after (noted call count effect).added h
told_becomes (Added action unfinished) count n effect call after is h =
    with_added (becomes (Added action unfinished) n call) after (noted call count effect).added
    (h.after_is ∙ ap (λ (k : ℕ). ended (noted call count effect) (EndsAdded action unfinished) k) (sym is))
told_becomes (Ready ready) count n effect call after is h = with_added call after call.added h.after_is
told_becomes Done count n effect call after is h =
    with_added (becomes Done n call) after call.added (h.after_is ∙ ap (λ (k : ℕ). becomes Done k call) (same_count effect count n h.none is))
told_becomes (Finished stats) count n effect call after is h =
    with_added (becomes (Finished stats) n call) after call.added (h.after_is ∙ ap (λ (k : ℕ). becomes (Finished stats) k call) (same_count effect count n h.none is))
told_becomes (Gave None) count n effect call after is h = with_added call after call.added h.after_is
told_becomes (Gave (Some e)) count n effect call after is h = with_added (becomes (Gave (Some e)) n call) after call.added h.after_is
told_becomes Ended count n effect call after is h =
    with_added (becomes Ended n call) after call.added (h.after_is ∙ ap (λ (k : ℕ). becomes Ended k call) (same_count effect count n h.none is))
told_becomes (Forced k) count n effect call after is h = absurd h
told_becomes (Flushed b) count n effect call after is h = absurd h
told_becomes (Checkpointed k) count n effect call after is h = absurd h
told_becomes (Refused fault) count n effect call after is h =
    with_added (becomes (Refused fault) n call) after call.added
    (h.1 ∙ refused_becomes fault count call ∙ ap (λ (k : ℕ). record (becomes (Refused fault) k call) { added = call.added }) (same_count effect count n h.0 is))

-- an answer that comes with no action
comes_alone : (answer : Answer) (effect : Option Effect) → effect ≡ None → MayComeWith answer effect
comes_alone answer effect none = subst (λ (x : Option Effect). MayComeWith answer x) (sym none) tt

goes_with : (effect : Option Effect) → MayComeWith Going effect
goes_with None = tt
goes_with (Some effect) = tt

added_with : (action : ℕ) (unfinished : Option Fault) (effect : Option Effect) → (unfinished ≢ None → effect ≡ None) → MayComeWith (Added action unfinished) effect
added_with action None None quiet = tt
added_with action None (Some effect) quiet = tt
added_with action (Some fault) effect quiet = comes_alone (Added action (Some fault)) effect (quiet (λ e. cc))

told_comes : (answer : Answer) (count : ℕ) (effect : Option Effect) (call after : Call) → AnswerMeans answer count effect call after → MayComeWith answer effect
told_comes Begun count effect call after h = absurd h
told_comes Going count effect call after h = goes_with effect
told_comes (Added action unfinished) count effect call after h = added_with action unfinished effect h.quiet
told_comes (Ready ready) count effect call after h = comes_alone (Ready ready) effect h.none
told_comes Done count effect call after h = comes_alone Done effect h.none
told_comes (Finished stats) count effect call after h = comes_alone (Finished stats) effect h.none
told_comes (Gave None) count effect call after h = comes_alone (Gave None) effect h.none
told_comes (Gave (Some e)) count effect call after h = comes_alone (Gave (Some e)) effect h.none
told_comes Ended count effect call after h = comes_alone Ended effect h.none
told_comes (Forced k) count effect call after h = absurd h
told_comes (Flushed b) count effect call after h = absurd h
told_comes (Checkpointed k) count effect call after h = absurd h
told_comes (Refused fault) count effect call after h = comes_alone (Refused fault) effect h.0

-- one split is finished
finishes_one : (old new : State) → FinishesASplit old new → ClearsOneSplit (nodes_of old.pages) (nodes_of new.pages)
finishes_one old new h = by h.raised h.higher h.moves
  where
    cleared_true : (h.cleared == h.cleared) ≡ true
    cleared_true = eq-eqb h.cleared h.cleared refl

    by : (raised : Option ℕ) → IsRaised old new (suc (level_in new h.cleared)) raised → FlagsMove raised (Some h.cleared) old new → ClearsOneSplit (nodes_of old.pages) (nodes_of new.pages)
    by None higher moves = record {
      cleared = h.cleared;
      was = h.was;
      is = moves h.cleared ∙ ap (λ (b : Bool). if b then false else is_incomplete old h.cleared) cleared_true;
      raised = h.cleared;
      higher = λ not_incomplete incomplete. absurd (true≢false (sym h.was ∙ not_incomplete));
      others = λ block apart same. moves block ∙ ap (λ (b : Bool). if b then false else is_incomplete old block) (ne_eqb block h.cleared apart);
    }
    by (Some raised) higher moves =
        let differs : h.cleared ≢ raised = λ e. true≢false (sym h.was ∙ (ap (is_incomplete old) e ∙ higher.0)) in
        record {
          cleared = h.cleared;
          was = h.was;
          is = moves h.cleared
              ∙ ap (λ (b : Bool). if b then true else if h.cleared == h.cleared then false else is_incomplete old h.cleared) (ne_eqb h.cleared raised differs)
              ∙ ap (λ (b : Bool). if b then false else is_incomplete old h.cleared) cleared_true;
          raised = raised;
          higher = λ not_incomplete incomplete. higher.1;
          others = λ block apart other. moves block
              ∙ ap (λ (b : Bool). if b then true else if block == h.cleared then false else is_incomplete old block) (ne_eqb block raised other)
              ∙ ap (λ (b : Bool). if b then false else is_incomplete old block) (ne_eqb block h.cleared apart);
        }

-- one leaf goes on its way out of the tree
deletes_one : (old new : State) → DeletesALeaf old new → DeletesOneLeaf (nodes_of old.pages) (nodes_of new.pages)
deletes_one old new h = elim h.leaf [
  | inl dies ↦ record { block = dies.block; goes = inl (dies.before, dies.after); others = dies.others }
  | inr goes ↦ record { block = goes.block; goes = inr (goes.before, goes.after); others = goes.others }
]

shape_moves : (ask : Ask) (effect : Option Effect) (old new : State) → MovesShape ask effect old new → ShapeMoves ask effect (nodes_of old.pages) (nodes_of new.pages)
shape_moves (AskInsert e) None old new h = tt
shape_moves (AskInsert e) (Some (Add x)) old new h = tt
shape_moves (AskInsert e) (Some (Remove es)) old new h = tt
shape_moves (AskInsert e) (Some Shape) old new h = finishes_one old new h
shape_moves (AskScan range) effect old new h = tt
shape_moves (AskBulkDelete dead) effect old new h = tt
shape_moves AskCleanup None old new h = tt
shape_moves AskCleanup (Some (Add x)) old new h = tt
shape_moves AskCleanup (Some (Remove es)) old new h = tt
shape_moves AskCleanup (Some Shape) old new h = deletes_one old new h

-- nothing is wrong: no refusal has a cause
no_cause : (fault : Fault) → HasCause nothing_wrong fault → ⊥
no_cause fault h = one_of_few false false false false false (λ f. ⊥) (record { device = false≢true; stopped = false≢true; vacuum = false≢true; session = false≢true; busy = false≢true }) fault h

-- there is no such session, or no call in it, and the log may have failed
no_session : (s : Bool) (Fails : Fault → Type 0) → (s ≡ true → Fails Stopped) → Fails NoSession → (fault : Fault)
    → HasCause (record nothing_wrong { is_stopped = s; no_such_session = true }) fault → Fails fault
no_session s Fails stopped session fault h =
    one_of_few false s false true false Fails
    (record { device = λ k. absurd (false≢true k); stopped = stopped; vacuum = λ k. absurd (false≢true k); session = λ k. session; busy = λ k. absurd (false≢true k) }) fault h

-- what an insert leaves unfinished is never because its entry or its key was there, nor because another
-- session stands in the way
not_there : (at : Circumstances) (fault : Fault) → HasCause (once_added at) fault → HasCause at fault × (fault ≢ Exists) × ((row : Row) → fault ≢ KeyExists row) × ((block : ℕ) → fault ≢ Blocked block)
not_there at NoMemory h = (h, (λ e. cc), (λ r e. cc), λ b e. cc)
not_there at Io h = (h, (λ e. cc), (λ r e. cc), λ b e. cc)
not_there at Stopped h = (h, (λ e. cc), (λ r e. cc), λ b e. cc)
not_there at (Blocked b) h = absurd (false≢true h)
not_there at Exists h = absurd (false≢true h)
not_there at KeyTooLong h = absurd h
not_there at BadRow h = absurd h
not_there at IndexFull h = (h, (λ e. cc), (λ r e. cc), λ b e. cc)
not_there at LogFull h = (h, (λ e. cc), (λ r e. cc), λ b e. cc)
not_there at NoFrame h = (h, (λ e. cc), (λ r e. cc), λ b e. cc)
not_there at VacuumRunning h = (h, (λ e. cc), (λ r e. cc), λ b e. cc)
not_there at NoSession h = (h, (λ e. cc), (λ r e. cc), λ b e. cc)
not_there at SessionBusy h = (h, (λ e. cc), (λ r e. cc), λ b e. cc)
not_there at BadSuper h = absurd h
not_there at BadVersion h = absurd h
not_there at LogDamaged h = absurd h
not_there at (PageDamaged b) h = (h, (λ e. cc), (λ r e. cc), λ b e. cc)
not_there at BadLimits h = absurd h
not_there at TooTall h = (h, (λ e. cc), (λ r e. cc), λ b e. cc)
not_there at DeviceTooSmall h = absurd h
not_there at (KeyExists r) h = absurd (false≢true h)

refused_for : (at : Circumstances) (Fails : Fault → Type 0) → ((fault : Fault) → HasCause at fault → Fails fault) → (answer : Answer) → IsCaused at answer → IsRefusedFor Fails answer
refused_for at Fails fails Begun h = tt
refused_for at Fails fails Going h = tt
refused_for at Fails fails (Added action None) h = tt
refused_for at Fails fails (Added action (Some fault)) h = let why = not_there at fault h in (fails fault why.0, why.1, why.2, why.3)
refused_for at Fails fails (Ready ready) h = tt
refused_for at Fails fails Done h = tt
refused_for at Fails fails (Finished stats) h = tt
refused_for at Fails fails (Gave e) h = tt
refused_for at Fails fails Ended h = tt
refused_for at Fails fails (Forced k) h = tt
refused_for at Fails fails (Flushed b) h = tt
refused_for at Fails fails (Checkpointed k) h = tt
refused_for at Fails fails (Refused fault) h = fails fault h

module _ {S : Type 0} (g : Ghosts S) (start : Entry → Bool) (old : Moment S) (fits : Fits g start old) (new : Moment S) where
  -- asking for the next entry is refused if the call is no scan
  next_fails : (session : ℕ) (ask : Ask) (op : Op) (fault : Fault) → HasCause (causes_of_asked_next ask) fault → MoveFails g Takes session ask op old new.store fault
  next_fails session (AskScan range) op fault h = absurd (no_cause fault h)
  next_fails session (AskInsert e) op fault h = no_session false (MoveFails g Takes session (AskInsert e) op old new.store) (λ k. absurd (false≢true k)) tt fault h
  next_fails session (AskBulkDelete dead) op fault h = no_session false (MoveFails g Takes session (AskBulkDelete dead) op old new.store) (λ k. absurd (false≢true k)) tt fault h
  next_fails session AskCleanup op fault h = no_session false (MoveFails g Takes session AskCleanup op old new.store) (λ k. absurd (false≢true k)) tt fault h

  move_fails : (move : Move) (op : Op) (fault : Fault) → HasCause (causes_of_moving g old.sets old.store new.store move (Some (Some op))) fault
      → MoveFails g move (session_of op) (asked_of old.sets op) op old new.store fault
  move_fails Steps op fault h = step_fails g old new.store old.sets op fault h
  move_fails Takes op fault h = next_fails (session_of op) (asked_of old.sets op) op fault h
  move_fails GivesUp op fault h = absurd (no_cause fault h)

  -- a move of the session's running call
  goes_on : (session : ℕ) (move : Move) (answer : Answer) (op : Op) → slice_get old.slots session ≡ Some (Some op)
      → IsCaused (causes_of_moving g old.sets old.store new.store move (slice_get old.slots session)) answer → CallMoves g start session answer old new → CallContinues g session move answer old new
  goes_on session move answer op at caused h =
      let runs : SlotRuns g start old session op = running_of fits session (Some op) at in
      let number_is : h.number ≡ runs.number = runs.only h.number h.call h.is in
      let call_is : h.call ≡ runs.call = same_some (slice_get old.calls runs.number) h.call runs.call (subst (λ (i : ℕ). slice_get old.calls i ≡ Some h.call) number_is h.is.found) runs.is.found in
      let ask_is : asked_of old.sets op ≡ h.call.ask = sym (ap (λ (c : Call). c.ask) call_is ∙ runs.runs.ask) in
      let session_is : session_of op ≡ session = runs.runs.session ∙ runs.is.session_is in
      let length_is : length new.history ≡ act_count h.effect + length old.history = ap (λ (l : List Action). length l) h.history_is ∙ longer h.effect h.number in
      record {
        op = op;
        runs = at;
        number = h.number;
        call = h.call;
        is = h.is;
        effect = h.effect;
        added = h.after.added;
        comes = told_comes answer (length old.history) h.effect h.call h.after h.told;
        history_is = h.history_is;
        calls_is = h.calls_is ∙ ap (λ (c : Call). slice_set old.calls h.number c) (told_becomes answer (length old.history) (length new.history) h.effect h.call h.after length_is h.told);
        shape = shape_moves h.call.ask h.effect (g.state old.store) (g.state new.store) h.shape;
        caused = subst (λ (s : ℕ). IsRefusedFor (MoveFails g move s h.call.ask op old new.store) answer) session_is
            (subst (λ (a : Ask). IsRefusedFor (MoveFails g move (session_of op) a op old new.store) answer) ask_is
            (refused_for (causes_of_moving g old.sets old.store new.store move (Some (Some op))) (MoveFails g move (session_of op) (asked_of old.sets op) op old new.store) (move_fails move op) answer
            (subst (λ (o : Option (Option Op)). IsCaused (causes_of_moving g old.sets old.store new.store move o) answer) at caused)));
      }
    where
      longer : (effect : Option Effect) (number : ℕ) → length (old.history ++ acts_of number effect) ≡ act_count effect + length old.history
      longer None number = length-append old.history [] ∙ omega arith
      longer (Some effect) number = length-append old.history (record { by = number; effect = effect } ∷ []) ∙ omega arith

  -- a session that runs nothing
  no_step : (session : ℕ) (fault : Fault) → HasCause (causes_of_no_call (g.backing old.store).stopped) fault → EventFails g (MovesCall session Steps) old new.store fault
  no_step session fault h = no_session (g.backing old.store).stopped (EventFails g (MovesCall session Steps) old new.store) (λ k. k) tt fault h

  not_asked : (session : ℕ) (move : Move) (fault : Fault) → HasCause (causes_of_no_call false) fault → EventFails g (MovesCall session move) old new.store fault
  not_asked session move fault h = no_session false (EventFails g (MovesCall session move) old new.store) (λ k. absurd (false≢true k)) tt fault h

  idle_fails : (session : ℕ) (move : Move) (o : Option (Option Op)) → slot_has_call o ≡ false → (fault : Fault)
      → HasCause (causes_of_moving g old.sets old.store new.store move o) fault → EventFails g (MovesCall session move) old new.store fault
  idle_fails session move (Some (Some op)) idle fault h = absurd (true≢false idle)
  idle_fails session Steps None idle fault h = no_step session fault h
  idle_fails session Steps (Some None) idle fault h = no_step session fault h
  idle_fails session Takes None idle fault h = not_asked session Takes fault h
  idle_fails session Takes (Some None) idle fault h = not_asked session Takes fault h
  idle_fails session GivesUp None idle fault h = not_asked session GivesUp fault h
  idle_fails session GivesUp (Some None) idle fault h = not_asked session GivesUp fault h

  -- a move, by what the session runs
  moves_mean : (session : ℕ) (move : Move) (answer : Answer) → MovesOn g start (has_call old.slots session) session answer old new
      → IsCaused (causes_of_moving g old.sets old.store new.store move (slice_get old.slots session)) answer → Means g (MovesCall session move) answer old new
  moves_mean session move answer h caused = of (slice_get old.slots session) refl
    where
      goes : (a : Answer) → CallContinues g session move a old new → Means g (MovesCall session move) a old new
      goes Begun k = k
      goes Going k = k
      goes (Added action unfinished) k = k
      goes (Ready ready) k = k
      goes Done k = k
      goes (Finished stats) k = k
      goes (Gave e) k = k
      goes Ended k = k
      goes (Forced n) k = k
      goes (Flushed b) k = k
      goes (Checkpointed n) k = k
      goes (Refused fault) k = inl k

      idle : (o : Option (Option Op)) → slice_get old.slots session ≡ o → slot_has_call o ≡ false → (RunsOne old.slots session → ⊥) → Means g (MovesCall session move) answer old new
      idle o at none free =
          let stays : Stays g answer old new = subst (λ (b : Bool). MovesOn g start b session answer old new) (ap slot_has_call at ∙ none) h in
          let cause : HasCause (causes_of_moving g old.sets old.store new.store move o) stays.fault =
          subst (λ (a : Answer). IsCaused (causes_of_moving g old.sets old.store new.store move o) a) stays.refused
          (subst (λ (x : Option (Option Op)). IsCaused (causes_of_moving g old.sets old.store new.store move x) answer) at caused) in
          subst (λ (a : Answer). Means g (MovesCall session move) a old new) (sym stays.refused) (inr (free, stays.still, idle_fails session move o none stays.fault cause))

      of : (o : Option (Option Op)) → slice_get old.slots session ≡ o → Means g (MovesCall session move) answer old new
      of None at = idle None at refl (λ runs. (let some : slice_get old.slots session ≡ Some (Some runs.0) = runs.1 in cc))
      of (Some None) at = idle (Some None) at refl (λ runs. (let some : slice_get old.slots session ≡ Some (Some runs.0) = runs.1 in cc))
      of (Some (Some op)) at = goes answer (goes_on session move answer op at caused (subst (λ (b : Bool). MovesOn g start b session answer old new) (ap slot_has_call at) h))

  -- a request of a bulk delete or a cleanup, and a session that runs one
  vacuums_asked : (request : Request) → asks_vacuum request ≡ true → Vacuums (asked_by old.sets request)
  vacuums_asked (ToInsert e) h = false≢true h
  vacuums_asked (ToScan range) h = false≢true h
  vacuums_asked (ToBulk set) h = tt
  vacuums_asked ToCleanup h = tt

  vacuums_op : (op : Op) → is_vacuum op ≡ true → Vacuums (asked_of old.sets op)
  vacuums_op (Insert op) h = false≢true h
  vacuums_op (Scan op) h = false≢true h
  vacuums_op (Bulk set op) h = tt
  vacuums_op (Cleanup op) h = tt

  one_runs : one_vacuums old.slots ≡ true → (other number : ℕ) × (call : Call) × IsRunningCall old.calls other number call × Vacuums call.ask
  one_runs h =
      let found = any_true slot_vacuums refl old.slots h in
      of found.0 (slice_get old.slots found.0) refl found.1
    where
      of : (session : ℕ) (o : Option (Option Op)) → slice_get old.slots session ≡ o → slot_vacuums (slot_of old.slots session) ≡ true
          → (other number : ℕ) × (call : Call) × IsRunningCall old.calls other number call × Vacuums call.ask
      of session None at is = absurd (false≢true (sym (ap (λ (x : Option (Option Op)). slot_vacuums (unwrap_or x None)) at) ∙ is))
      of session (Some None) at is = absurd (false≢true (sym (ap (λ (x : Option (Option Op)). slot_vacuums (unwrap_or x None)) at) ∙ is))
      of session (Some (Some op)) at is =
          let runs : SlotRuns g start old session op = running_of fits session (Some op) at in
          let vacuum : is_vacuum op ≡ true = sym (ap (λ (x : Option (Option Op)). slot_vacuums (unwrap_or x None)) at) ∙ is in
          (session, runs.number, runs.call, runs.is, subst Vacuums (sym runs.runs.ask) (vacuums_op op vacuum))

  no_set : (request : Request) → not (is_of_sets old.sets request) ≡ true → (set : ℕ) × (request ≡ ToBulk set) × (length old.sets ≤ set)
  no_set (ToInsert e) h = absurd (false≢true h)
  no_set (ToScan range) h = absurd (false≢true h)
  no_set (ToBulk set) h = (set, refl, ltb-false set (length old.sets) (not_so (nat_lt set (length old.sets)) h))
    where
      not_so : (b : Bool) → not b ≡ true → b ≡ false
      not_so true k = absurd (false≢true k)
      not_so false k = refl
  no_set ToCleanup h = absurd (false≢true h)

  -- a beginning that is refused
  busy_runs : (session : ℕ) (slot : Option Op) → slice_get old.slots session ≡ Some slot → is_busy slot ≡ true → RunsOne old.slots session
  busy_runs session None at h = absurd (false≢true h)
  busy_runs session (Some op) at h = (op, at)

  none_begin : no_call_begins (g.state old.store) (g.backing old.store) ≡ true → ((g.backing old.store).stopped ≡ true) ⊎ ((g.state old.store).begun ≡ 18446744073709551615)
  none_begin k = elim (or_cases (g.backing old.store).stopped (is_at_end (g.state old.store).begun) k) [
    | inl stopped ↦ inl stopped
    | inr at_end ↦ inr (eqb-true (g.state old.store).begun 18446744073709551615 at_end)
  ]

  begin_fails : (session : ℕ) (request : Request) (o : Option (Option Op)) → slice_get old.slots session ≡ o → (fault : Fault)
      → HasCause (causes_of_begun_at g old.store (one_vacuums old.slots) old.sets request o) fault → EventFails g (BeginsCall session request) old new.store fault
  begin_fails session request None at fault h =
      no_session (no_call_begins (g.state old.store) (g.backing old.store)) (EventFails g (BeginsCall session request) old new.store) none_begin (inl (none_beyond old.slots session at)) fault h
  begin_fails session request (Some slot) at fault h =
      one_of_few false (no_call_begins (g.state old.store) (g.backing old.store)) (asks_vacuum request && one_vacuums old.slots) (not (is_of_sets old.sets request)) (is_busy slot)
      (EventFails g (BeginsCall session request) old new.store) (record {
        device = λ k. absurd (false≢true k);
        stopped = none_begin;
        vacuum = λ k. let both = and_parts (asks_vacuum request) (one_vacuums old.slots) k in (vacuums_asked request both.0, one_runs both.1);
        session = λ k. inr (no_set request k);
        busy = busy_runs session slot at;
      }) fault h

  -- a beginning, by what the session runs
  begins_mean : (session : ℕ) (request : Request) (answer : Answer) → MayBegin g (slice_get old.slots session) session request answer old new
      → IsCaused (causes_of_begun_at g old.store (one_vacuums old.slots) old.sets request (slice_get old.slots session)) answer → Means g (BeginsCall session request) answer old new
  begins_mean session request answer h caused = of (slice_get old.slots session) refl h
    where
      refused : Stays g answer old new → Means g (BeginsCall session request) answer old new
      refused stays =
          let cause : HasCause (causes_of_begun_at g old.store (one_vacuums old.slots) old.sets request (slice_get old.slots session)) stays.fault =
          subst (λ (a : Answer). IsCaused (causes_of_begun_at g old.store (one_vacuums old.slots) old.sets request (slice_get old.slots session)) a) stays.refused caused in
          subst (λ (a : Answer). Means g (BeginsCall session request) a old new) (sym stays.refused) (stays.still, begin_fails session request (slice_get old.slots session) refl stays.fault cause)

      of : (o : Option (Option Op)) → slice_get old.slots session ≡ o → MayBegin g o session request answer old new → Means g (BeginsCall session request) answer old new
      of None at k = refused k
      of (Some (Some op)) at k = refused k
      of (Some None) at k = elim k [
        | inl begins ↦ subst (λ (a : Answer). Means g (BeginsCall session request) a old new) (sym begins.told) (record { was_free = at; history_is = begins.history_is; calls_is = begins.calls_is })
        | inr stays ↦ refused stays
      ]

  -- what is done for the store is refused
  upkeep_fails : (upkeep : Upkeep) (fault : Fault) → HasCause (causes_of_forced (g.backing old.store) (g.backing new.store)) fault → EventFails g (MaintainsStore upkeep) old new.store fault
  upkeep_fails upkeep fault h =
      one_of_few (has_failed (g.backing old.store) (g.backing new.store)) (g.backing old.store).stopped false false false (EventFails g (MaintainsStore upkeep) old new.store) (record {
        device = λ k. ltb-true (g.backing old.store).failures (g.backing new.store).failures k;
        stopped = λ k. k;
        vacuum = λ k. absurd (false≢true k);
        session = λ k. absurd (false≢true k);
        busy = λ k. absurd (false≢true k);
      }) fault h

  durable_mean : (count : ℕ) (u : Upkeep) (answer : Answer) (is : Answer) → IsSameState g old new → UpkeepIsDurable g u answer old new → kept_answer u (length old.history) ≡ Some is
      → (answer ≡ is) × AllAreDurable g (length old.history) old new
  durable_mean count u answer is still told kept = (same_some (kept_answer u (length old.history)) answer is told.told kept, record { still = still; count_is = refl; durable = told.durable })

  done_means : (upkeep : Upkeep) (answer : Answer) → UpkeepIsDone g upkeep answer old new → Means g (MaintainsStore upkeep) answer old new
  done_means Forces answer done =
      let all = durable_mean 0 Forces answer (Forced (length old.history)) done.still done.tells refl in
      subst (λ (a : Answer). Means g (MaintainsStore Forces) a old new) (sym all.0) all.1
  done_means Flushes answer done = subst (λ (a : Answer). Means g (MaintainsStore Flushes) a old new) (sym done.tells) (done.still, refl)
  done_means Checkpoints answer done =
      let all = durable_mean 0 Checkpoints answer (Checkpointed (length old.history)) done.still done.tells refl in
      subst (λ (a : Answer). Means g (MaintainsStore Checkpoints) a old new) (sym all.0) all.1

  upkeep_refused : (upkeep : Upkeep) (fault : Fault) → IsSameState g old new → EventFails g (MaintainsStore upkeep) old new.store fault → Means g (MaintainsStore upkeep) (Refused fault) old new
  upkeep_refused Forces fault still fails = (still, fails)
  upkeep_refused Flushes fault still fails = (still, fails)
  upkeep_refused Checkpoints fault still fails = (still, fails)

  upkeep_means : (upkeep : Upkeep) (answer : Answer) → UpkeepIsDone g upkeep answer old new ⊎ Stays g answer old new
      → IsCaused (causes_of_forced (g.backing old.store) (g.backing new.store)) answer → Means g (MaintainsStore upkeep) answer old new
  upkeep_means upkeep answer h caused = elim h [
    | inl done ↦ done_means upkeep answer done
    | inr stays ↦ (
        let cause : HasCause (causes_of_forced (g.backing old.store) (g.backing new.store)) stays.fault =
        subst (λ (a : Answer). IsCaused (causes_of_forced (g.backing old.store) (g.backing new.store)) a) stays.refused caused in
        subst (λ (a : Answer). Means g (MaintainsStore upkeep) a old new) (sym stays.refused) (upkeep_refused upkeep stays.fault stays.still (upkeep_fails upkeep stays.fault cause)))
  ]

  -- what happens, with its cause, is what the event means
  event_means : (kind : Kind) (answer : Answer) → Happens g start kind answer old new → IsCaused (causes_of_happening g kind (here_at old) (here_at new)) answer → Means g kind answer old new
  event_means (BeginsCall session request) answer h caused = begins_mean session request answer h caused
  event_means (MovesCall session move) answer h caused = moves_mean session move answer h caused
  event_means (MaintainsStore upkeep) answer h caused = upkeep_means upkeep answer h caused

-- an event that also leaves this means what it says
pub does_of : {S : Type 0} {g : Ghosts S} {start : Entry → Bool} {kind : Kind} {answer : Answer} {old new : Moment S} → Fits g start old → Fits g start new → new.sets ≡ old.sets
    → EventAlso g start kind answer old new → EventDoes g start kind answer old new
does_of {S} {g} {start} {kind} {answer} {old} {new} fits then_fits sets also = record {
  means = record {
    means = event_means g start old fits new kind answer also.happens also.caused;
    sets = sets;
    format = also.quiet.format;
    explains = then_fits.explains;
  };
  also = also;
}
