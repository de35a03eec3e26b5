-- What the acts by which splits are finished leave to the call.
use Rattle.std.proofs.Common.{◌≡◌, ℕ, suc, ◌==◌, if◌then◌else◌, Bool, true, false, true≢false, Some, None, Ok, Err, List, map, slice_get, refl, sym, ap, subst, inr, ◌∙◌, arith}
use Rattle.split_finish.proofs.Imports.{eq-eqb, Shape, HasCause, Fault, Page, State, Backing, Continues, after_act, Ghosts, bound_aim, bound_falls, TreeLasts, FlagsMove, IsInOrder, StepEffect}
use Rattle.split_finish.proofs.Imports.{is_incomplete, causes_of_acting, one_act, act_cause_of, FinishInvariant, IsTarget, Popped, splits_root_of, FinishStepped, finish_blocks, takes_block_of}
use Rattle.split_finish.proofs.Imports.{FinishActs, FinishOp, FinishStep, Going, Done, Target}
use Rattle.split_finish.proofs.Standing.{fits_popped}
use Rattle.split_finish.proofs.Stepping.{acts_not}
use Rattle.split_finish.proofs.Turning.{flags_popped, flags_gone}

-- an act was done
pub acts_done : {S : Type 0} (g : Ghosts S) (before after : FinishOp) (old new : S) (step : FinishStep) (changed : List Page)
    → Continues g.follows old new → g.state new ≡ after_act changed (g.state old)
    → after.session ≡ before.session
    → ((g.backing new).honest ≡ true → IsInOrder (g.state old) → FinishInvariant (g.state old) before
    → FinishStepped (g.state old) (g.backing old) (after_act changed (g.state old)) (g.backing new) before after (Ok step))
    → FinishActs g before after old new (Ok step)
acts_done g before after old new step changed steps is session stepped = record {
  steps = steps;
  session = session;
  kept = one_act (g.state old) (g.state new) changed is;
  table = ap (λ (st : State). st.table) is;
  refused = tt;
  less = λ honest going same. absurd (acted (sym (ap (λ (st : State). st.acts) is) ∙ same));
  over = λ honest done same. absurd (acted (sym (ap (λ (st : State). st.acts) is) ∙ same));
  stepped = λ honest order fits. subst (λ (st : State). FinishStepped (g.state old) (g.backing old) st (g.backing new) before after (Ok step)) (sym is) (stepped honest order fits);
}
  where
    acted : {n : ℕ} → suc n ≡ n → ⊥
    acted {n} h = omega arith

-- a target is one still, after an act that lasts
pub target_lasts : (old new : State) (session start i : ℕ) (t : Target) → slice_get old.running session ≡ Some (Some start) → TreeLasts old new → IsTarget old start i t → IsTarget new start i t
target_lasts old new session start i t runs lasts is = record {
  high_enough = is.high_enough;
  place = lasts.places start t.level (bound_aim t.separator) true t.block (record { session = session; is = runs }) (bound_falls t.separator) is.place;
}

if_false : (b x : Bool) → (if b then false else x) ≡ true → (b ≡ false) × (x ≡ true)
if_false true x h = absurd cc
if_false false x h = (refl, h)

-- only the newest target was cleared
pub only_cleared : (old new : State) (cleared : ℕ) → FlagsMove None (Some cleared) old new → (block : ℕ) → is_incomplete new block ≡ true → (is_incomplete old block ≡ true) × (cleared ≡ block → ⊥)
only_cleared old new cleared moves block h =
    let k = if_false (block == cleared) (is_incomplete old block) (sym (moves block) ∙ h) in
    (k.1, λ same. true≢false (sym (eq-eqb block cleared (sym same)) ∙ k.0))

-- an act that clears the newest target, and nothing more
pub clears : (old new : State) (old_backing new_backing : Backing) (op after : FinishOp) (step : FinishStep) → (fits : FinishInvariant old op)
    → StepEffect op.session (Some Shape) old new → new.table ≡ old.table
    → new.running ≡ old.running → TreeLasts old new → FlagsMove None (Some op.target.block) old new → Popped op after step
    → FinishStepped old old_backing new new_backing op after (Ok step)
clears old new old_backing new_backing op after Going fits does table running lasts moves popped = record {
  effect = Some Shape;
  shapes = inr refl;
  does = does;
  table = table;
  fits = fits_popped new op after fits.start popped fits.session (rw table fits.free) (rw running fits.running)
      (λ i t is. target_lasts old new op.session fits.start i t fits.running lasts (fits.below i t is));
  flags = λ h. flags_popped old new op after popped h (only_cleared old new op.target.block moves);
}
clears old new old_backing new_backing op after Done fits does table running lasts moves popped = record {
  effect = Some Shape;
  shapes = inr refl;
  does = does;
  table = table;
  flags = λ h. flags_gone old new op after popped h (only_cleared old new op.target.block moves);
}

-- the act is refused
pub act_refused : {S : Type 0} (g : Ghosts S) (op : FinishOp) (old new : S) (fault : Fault) (changed : List Page) → Continues g.follows old new → g.state new ≡ g.state old
    → ((g.backing new).honest ≡ true → map (λ (page : Page). page.block) changed ≡ finish_blocks (g.state old) op.target op.at)
    → ((g.backing new).honest ≡ true → IsInOrder (g.state old) → FinishInvariant (g.state old) op → HasCause (causes_of_acting (g.state old) (g.backing old) (g.backing new) changed) fault)
    → FinishActs g op op old new (Err fault)
act_refused g op old new fault changed steps same are cause =
    acts_not g op old new fault steps same (λ honest order fits.
    act_cause_of (g.state old) (g.backing old) (g.backing old) (g.backing new) op.session (finish_blocks (g.state old) op.target op.at) (takes_block_of (g.state old) op.target op.at)
    (splits_root_of (g.state old) op.target op.at) changed fault (omega arith) (λ h. h) refl (are honest) (cause honest order fits))

pub popped_session : (op after : FinishOp) (step : FinishStep) → Popped op after step → after.session ≡ op.session
popped_session op after Going popped = popped.session
popped_session op after Done popped = ap (λ (o : FinishOp). o.session) popped.1
