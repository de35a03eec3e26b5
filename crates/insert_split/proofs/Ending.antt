-- An insert that finishes splits.
use Rattle.std.proofs.Common.{◌≡◌, ℕ, ◌<◌, ◌||◌, Bool, true, false, true≢false, Option, Some, None, Result, Ok, Err, List, slice_get, refl, sym, ap, subst, inl, inr, ◌∙◌, arith}
use Rattle.split_finish.specs.Turns.{splits_root_of}
use Rattle.split_finish.specs.declared.finish.FinishStep.TheVariants.{Going as FinishGoing, Done}
use Rattle.insert_split.proofs.Imports.{Effect, HasCause, Entry, Fault, Stopped, Blocked, Table, holding_of, nothing_held, Format, is_at_end, State, Backing, Ghosts, IsInOrder, StepEffect}
use Rattle.insert_split.proofs.Imports.{is_incomplete, nothing_else, one_nothing, FinishSteps, OnlyShapes, finish_blocks, frames_of, takes_block_of, causes_of_finishing, OnlyTargetsAreIncomplete}
use Rattle.insert_split.proofs.Imports.{FinishInvariant, finish_left, FinishOp, InsertInvariant, InsertStands, InsertSteps, IsNoted, IsToCome, AnswersStopped, insert_left, targets_at}
use Rattle.insert_split.proofs.Imports.{causes_of_inserting, causes_of_left, IsStraight, ContinuesAs, ContinuesFrom, Leaves, EndsBy, FinishesSplits, IsRefusedRightly, is_blocked, InsertAt, Coming}
use Rattle.insert_split.proofs.Imports.{Finishing, Start, InsertOp, InsertStep, Going, Added}
use Rattle.insert_split.proofs.Steps.{refuses, runs_no_more}
use Rattle.insert_split.proofs.Walking.{as_inserting}

-- what an insert knows of the splits that it finishes
pub finishing_there : (st : State) (op : InsertOp) (splits : FinishOp) → op.at ≡ Finishing splits → (fits : InsertInvariant st op) → (splits.session ≡ op.session) × FinishInvariant st splits
finishing_there st op splits at_is fits = subst (InsertStands st op.session fits.start op.entry) at_is fits.stands

-- a step that finishes splits notes nothing
pub notes_nothing : (effect : Option Effect) (acts : ℕ) (e : Entry) (added : Option ℕ) → OnlyShapes effect → IsNoted effect acts e added added
notes_nothing effect acts e added (inl none) = subst (λ (x : Option Effect). IsNoted x acts e added added) (sym none) refl
notes_nothing effect acts e added (inr shape) = subst (λ (x : Option Effect). IsNoted x acts e added added) (sym shape) refl

-- the causes of a finishing step are those of an insert there
pub finishing_cause : (st : State) (old new : Backing) (op : InsertOp) (splits : FinishOp) (fault : Fault) → op.at ≡ Finishing splits → splits.session ≡ op.session
    → HasCause (causes_of_finishing st old new splits.session splits.target splits.at) fault → HasCause (causes_of_inserting st old new op.session op.entry op.at) fault
finishing_cause st old new op splits fault at_is session h =
    subst (λ (a : InsertAt). HasCause (causes_of_inserting st old new op.session op.entry a) fault) (sym at_is)
    (as_inserting st old new op.session op.entry (Finishing splits) (finish_blocks st splits.target splits.at) (frames_of st splits.target splits.at)
    (takes_block_of st splits.target splits.at) (splits_root_of st splits.target splits.at) fault refl
    (subst (λ (s : ℕ). HasCause (causes_of_finishing st old new s splits.target splits.at) fault) session h))

-- ... and, except for a page that is blocked, once the entry is logged
finishing_left : (st : State) (old new : Backing) (op : InsertOp) (splits : FinishOp) (fault : Fault) → op.at ≡ Finishing splits → splits.session ≡ op.session → is_blocked fault ≡ false
    → HasCause (causes_of_finishing st old new splits.session splits.target splits.at) fault → HasCause (causes_of_left st old new op.session op.entry op.at) fault
finishing_left st old new op splits fault at_is session free h =
    subst (λ (a : InsertAt). HasCause (causes_of_left st old new op.session op.entry a) fault) (sym at_is)
    (by fault free (subst (λ (s : ℕ). HasCause (causes_of_finishing st old new s splits.target splits.at) fault) session h))
  where
    by : (f : Fault) → is_blocked f ≡ false → HasCause (causes_of_finishing st old new op.session splits.target splits.at) f
        → HasCause (causes_of_left st old new op.session op.entry (Finishing splits)) f
    by (Blocked b) free h = absurd cc
    by f free h = h

-- ... that goes on
pub finish_goes : {S : Type 0} (g : Ghosts S) (before : InsertOp) (splits then_splits : FinishOp) (old new : S) → before.at ≡ Finishing splits → (g.backing old).stopped ≡ false
    → FinishSteps g splits then_splits old new (Ok FinishGoing) → InsertSteps g before (record before { at = Finishing then_splits }) old new (Ok Going)
finish_goes g before splits then_splits old new at_is alive h = record {
  steps = h.steps;
  session = refl;
  entry = refl;
  kept = h.kept;
  refused = tt;
  stopped = λ halted. runs_no_more (g.backing old).stopped alive halted;
  less = λ honest is acts.
      subst (λ (a : InsertAt).
      finish_left (g.state new).format.pages (g.state new).pages then_splits < insert_left (g.state old).format.pages (g.state old).pages a) (sym at_is) (h.less honest refl acts);
  stepped = λ honest order fits.
      let there = finishing_there (g.state old) before splits at_is fits in
      let on = h.stepped honest order there.1 in
      record {
        effect = on.effect;
        does = subst (λ (s : ℕ). StepEffect s on.effect (g.state old) (g.state new)) there.0 on.does;
        noted = notes_nothing on.effect (g.state old).acts before.entry before.added on.shapes;
        fits = record {
          session = fits.session;
          start = fits.start;
          running = ap (λ (r : List (Option ℕ)). slice_get r before.session) on.does.running ∙ fits.running;
          stands = (h.session ∙ there.0, on.fits);
          to_come = tt;
        };
        flags = λ only. on.flags (subst (λ (a : InsertAt). OnlyTargetsAreIncomplete (g.state old) (targets_at a)) at_is only);
      };
  straight = λ honest order fits whole on room. absurd (subst (IsStraight (g.state old) before.entry) at_is on);
}

-- ... that is the last
pub finish_done : {S : Type 0} (g : Ghosts S) (before after : InsertOp) (splits then_splits : FinishOp) (step : InsertStep) (old new : S)
    → before.at ≡ Finishing splits → (g.backing old).stopped ≡ false
    → FinishSteps g splits then_splits old new (Ok Done) → ContinuesAs (record before { at = Finishing then_splits }) after step → InsertSteps g before after old new (Ok step)
finish_done g before after splits then_splits step old new at_is alive h on = by before.added refl on
  where
    none_incomplete : IsInOrder (g.state old) → (fits : InsertInvariant (g.state old) before) → (g.backing new).honest ≡ true → OnlyTargetsAreIncomplete (g.state old) (targets_at before.at)
        → (b : ℕ) → is_incomplete (g.state new) b ≡ false
    none_incomplete order fits honest only =
        let there = finishing_there (g.state old) before splits at_is fits in
        (h.stepped honest order there.1).flags (subst (λ (a : InsertAt). OnlyTargetsAreIncomplete (g.state old) (targets_at a)) at_is only)

    by : (added : Option ℕ) → before.added ≡ added → ContinuesFrom added (record before { at = Finishing then_splits }) after step → InsertSteps g before after old new (Ok step)
    by None is on = subst (λ (s : InsertStep). InsertSteps g before after old new (Ok s)) (sym on.0) (subst (λ (o : InsertOp). InsertSteps g before o old new (Ok Going)) (sym on.1) (record {
      steps = h.steps;
      session = refl;
      entry = refl;
      kept = h.kept;
      refused = tt;
      stopped = λ halted. runs_no_more (g.backing old).stopped alive halted;
      less = λ honest going acts.
          subst (λ (a : InsertAt). insert_left (g.state new).format.pages (g.state new).pages (Coming Start) < insert_left (g.state old).format.pages (g.state old).pages a) (sym at_is)
          (let over = h.over honest refl acts in let l = ap (λ (x : Format). x.pages) h.kept.format in rw l (omega (arith, over)));
      stepped = λ honest order fits.
          let there = finishing_there (g.state old) before splits at_is fits in
          let last = h.stepped honest order there.1 in
          record {
            effect = last.effect;
            does = subst (λ (s : ℕ). StepEffect s last.effect (g.state old) (g.state new)) there.0 last.does;
            noted = notes_nothing last.effect (g.state old).acts before.entry before.added last.shapes;
            fits = record {
              session = fits.session;
              start = fits.start;
              running = ap (λ (r : List (Option ℕ)). slice_get r before.session) last.does.running ∙ fits.running;
              stands = ap (λ (t : Table). holding_of t before.session) last.table ∙ subst (λ (s : ℕ). holding_of (g.state old).table s ≡ nothing_held) there.0 there.1.free;
              to_come = is;
            };
            flags = λ only b incomplete. absurd (true≢false (sym incomplete ∙ none_incomplete order fits honest only b));
          };
      straight = λ honest order fits whole on room. absurd (subst (IsStraight (g.state old) before.entry) at_is on);
    }))
    by (Some action) is on =
        subst (λ (s : InsertStep). InsertSteps g before after old new (Ok s)) (sym on.0) (subst (λ (o : InsertOp). InsertSteps g before o old new (Ok (Added action None))) (sym on.1) (record {
          steps = h.steps;
          session = refl;
          entry = refl;
          kept = h.kept;
          refused = tt;
          stopped = λ halted. runs_no_more (g.backing old).stopped alive halted;
          less = λ honest going. absurd cc;
          stepped = λ honest order fits.
              let there = finishing_there (g.state old) before splits at_is fits in
              let last = h.stepped honest order there.1 in
              record {
                effect = last.effect;
                does = subst (λ (s : ℕ). StepEffect s last.effect (g.state old) (g.state new)) there.0 last.does;
                noted = subst (λ (a : Option ℕ). IsNoted last.effect (g.state old).acts before.entry before.added a) is
                    (notes_nothing last.effect (g.state old).acts before.entry before.added last.shapes);
                left = none_incomplete order fits honest;
              };
          straight = λ honest order fits whole on room. absurd (subst (IsStraight (g.state old) before.entry) at_is on);
        }))

-- ... that is refused
pub finish_refused : {S : Type 0} (g : Ghosts S) (before : InsertOp) (splits then_splits : FinishOp) (fault : Fault) (result : Result InsertStep Fault) (old new : S) → before.at ≡ Finishing splits
    → (g.backing old).stopped ≡ false → FinishSteps g splits then_splits old new (Err fault) → Leaves before.added fault result
    → InsertSteps g before (record before { at = Finishing then_splits }) old new result
finish_refused g before splits then_splits fault result old new at_is alive h leaves = by (is_blocked fault) refl before.added refl leaves
  where
    same : (let o : InsertOp = record before { at = Finishing then_splits } in o) ≡ before
    same = ap (λ (a : InsertAt). let o : InsertOp = record before { at = a } in o) (ap Finishing h.refused.op ∙ sym at_is)

    cause : (g.backing new).honest ≡ true → IsInOrder (g.state old) → InsertInvariant (g.state old) before
        → HasCause (causes_of_inserting (g.state old) (g.backing old) (g.backing new) before.session before.entry before.at) fault
    cause honest order fits =
        let there = finishing_there (g.state old) before splits at_is fits in
        finishing_cause (g.state old) (g.backing old) (g.backing new) before splits fault at_is there.0 (h.stepped honest order there.1)

    left_cause : is_blocked fault ≡ false → (g.backing new).honest ≡ true → IsInOrder (g.state old) → InsertInvariant (g.state old) before
        → HasCause (causes_of_left (g.state old) (g.backing old) (g.backing new) before.session before.entry before.at) fault
    left_cause free honest order fits =
        let there = finishing_there (g.state old) before splits at_is fits in
        finishing_left (g.state old) (g.backing old) (g.backing new) before splits fault at_is there.0 free (h.stepped honest order there.1)

    refusal : InsertSteps g before (record before { at = Finishing then_splits }) old new (Err fault)
    refusal = subst (λ (o : InsertOp). InsertSteps g before o old new (Err fault)) (sym same) (refuses g before old new fault h.steps h.refused.state alive cause)

    over : is_blocked fault ≡ false → (action : ℕ) → before.added ≡ Some action → InsertSteps g before (record before { at = Finishing then_splits }) old new (Ok (Added action (Some fault)))
    over free action is = subst (λ (o : InsertOp). InsertSteps g before o old new (Ok (Added action (Some fault)))) (sym same) (record {
      steps = h.steps;
      session = refl;
      entry = refl;
      kept = h.kept;
      refused = tt;
      stopped = λ halted. runs_no_more (g.backing old).stopped alive halted;
      less = λ honest going. absurd cc;
      stepped = λ honest order fits. record {
        effect = None;
        does = nothing_else before.session (g.state old) (g.state new) h.refused.state order;
        noted = sym is;
        left = (refl, left_cause free honest order fits);
      };
      straight = λ honest order fits whole on room. absurd (subst (IsStraight (g.state old) before.entry) at_is on);
    })

    by : (blocked : Bool) → is_blocked fault ≡ blocked → (added : Option ℕ) → before.added ≡ added → EndsBy blocked added fault result
        → InsertSteps g before (record before { at = Finishing then_splits }) old new result
    by blocked held None is leaves = subst (λ (r : Result InsertStep Fault). InsertSteps g before (record before { at = Finishing then_splits }) old new r) (sym leaves) refusal
    by true held (Some action) is leaves = subst (λ (r : Result InsertStep Fault). InsertSteps g before (record before { at = Finishing then_splits }) old new r) (sym leaves) refusal
    by false held (Some action) is leaves = subst (λ (r : Result InsertStep Fault). InsertSteps g before (record before { at = Finishing then_splits }) old new r) (sym leaves) (over held action is)

-- an insert whose entry is logged is refused for a blocked page alone
pub refused_rightly : (added : Option ℕ) (fault : Fault) (result : Result InsertStep Fault) → Leaves added fault result → IsRefusedRightly added result
refused_rightly None fault result leaves = tt
refused_rightly (Some action) fault result leaves = by (is_blocked fault) refl leaves
  where
    by : (blocked : Bool) → is_blocked fault ≡ blocked → EndsBy blocked (Some action) fault result → IsRefusedRightly (Some action) result
    by true is h = subst (λ (r : Result InsertStep Fault). IsRefusedRightly (Some action) r) (sym h) is
    by false is h = subst (λ (r : Result InsertStep Fault). IsRefusedRightly (Some action) r) (sym h) refl

-- an insert whose entry is logged isn't on its straight way any more
past_adding : (st : State) (e : Entry) (at : InsertAt) (action : ℕ) → IsToCome at (Some action) → IsStraight st e at → ⊥
past_adding st e (Coming stage) action to_come on = absurd cc
past_adding st e (Finishing op) action to_come on = on

-- a step on a stopped log
pub stops : {S : Type 0} (g : Ghosts S) (op : InsertOp) (store : S) (result : Result InsertStep Fault) → (g.backing store).stopped ≡ true
    → AnswersStopped op.added result → InsertSteps g op op store store result
stops g op store result halted told = by op.added refl told
  where
    stopped_cause : (b : Bool) → (g.backing store).stopped || b ≡ true
    stopped_cause b = rw halted refl

    by : (added : Option ℕ) → op.added ≡ added → AnswersStopped added result → InsertSteps g op op store store result
    by None is answer = subst (λ (r : Result InsertStep Fault). InsertSteps g op op store store r) (sym answer) (record {
      steps = λ first h. h;
      session = refl;
      entry = refl;
      kept = one_nothing (g.state store) (g.state store) refl;
      refused = record { state = refl; op = refl };
      stopped = λ h. subst (λ (a : Option ℕ). AnswersStopped a (Err Stopped)) (sym is) refl;
      less = λ honest going. absurd cc;
      stepped = λ honest order fits. stopped_cause (is_at_end (g.state store).acts);
      straight = λ honest order fits whole on room. tt;
    })
    by (Some action) is answer = subst (λ (r : Result InsertStep Fault). InsertSteps g op op store store r) (sym answer) (record {
      steps = λ first h. h;
      session = refl;
      entry = refl;
      kept = one_nothing (g.state store) (g.state store) refl;
      refused = tt;
      stopped = λ h. subst (λ (a : Option ℕ). AnswersStopped a (Ok (Added action (Some Stopped)))) (sym is) refl;
      less = λ honest going. absurd cc;
      stepped = λ honest order fits. record {
        effect = None;
        does = nothing_else op.session (g.state store) (g.state store) refl order;
        noted = sym is;
        left = (refl, stopped_cause (is_at_end (g.state store).acts));
      };
      straight = λ honest order fits whole on room. absurd (past_adding (g.state store) op.entry op.at action (subst (λ (a : Option ℕ). IsToCome op.at a) is fits.to_come) on);
    })

-- an insert that finishes has something to finish
pub has_splits : (at : InsertAt) → FinishesSplits at → ((splits : FinishOp) → at ≡ Finishing splits → ⊥) → ⊥
has_splits (Coming stage) finishing none = finishing
has_splits (Finishing splits) finishing none = none splits refl
