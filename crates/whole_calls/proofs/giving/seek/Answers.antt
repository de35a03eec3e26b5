use Rattle.std.proofs.Common.{◌≡◌, ◌⊎◌, ℕ, arith, false, refl, ap, inl, inr, ◌∙◌}
use Rattle.whole_calls.proofs.Imports.{Answer, Going, Ready, is_last, runs_on_same, runs_on_then, work_bounded, snapshot_of, slot_of}
use Rattle.whole_calls.proofs.Composing.{is_later, joined, joined_second, goes_nowhere}
use Rattle.whole_calls.proofs.Made.{made_nowhere, made_last, made_more, made_told}
use Rattle.whole_calls.proofs.Given.{down_after, down_on}
use Rattle.whole_calls.proofs.Lasting.{waits_here, waits_then, waits_after, waits_on}
use Rattle.whole_calls.proofs.giving.seek.Goals as goal

-- an answer that it goes on isn't the last one
goes_not_last : (answer : Answer) → (answer ≡ Going) ⊎ ((count : ℕ) × (answer ≡ Ready count)) → is_last answer ≡ false
goes_not_last answer (inl going) = ap is_last going
goes_not_last answer (inr ready) = ap is_last ready.1

pub loop-left-init : goal.loop-left-init
loop-left-init g c = record {
  steps = λ f h. h;
  sessions = refl;
  others = λ o ne. refl;
  runs_on = runs_on_same (slot_of c.args.calls.now.slots.items c.args.session);
  lasts = λ runs. runs;
  goes = goes_nowhere g.met.S.PageStore.laws waits_here;
  made = made_nowhere (omega arith);
  budget = λ honest. omega arith;
  fewer = omega arith;
}

pub returns-in_default-clause-goes : goal.returns-in_default-clause-goes
returns-in_default-clause-goes g c =
    joined_second g.met.S.PageStore.laws _ c.loop-left.invariant.steps c.advance.ensures.steps c.loop-left.invariant.goes c.advance.ensures.goes
    (λ start h hc k kc l lc fx fy fz one two. waits_after one two)

pub loop-left-preserved : goal.loop-left-preserved
loop-left-preserved g c =
    let session = c.args.session in
    let so_far = c.loop-left.invariant in
    let went = c.advance.ensures in
    let old_fewer = so_far.fewer in
    record {
      steps = λ f h. went.steps f (so_far.steps f h);
      sessions = went.others.sessions ∙ so_far.sessions;
      others = λ o ne. went.others.others o ne ∙ so_far.others o ne;
      runs_on = runs_on_then (slot_of c.args.calls.now.slots.items session) (slot_of c.loop-left.calls.slots.items session) (slot_of c.advance.new.calls.slots.items session)
          so_far.runs_on went.runs_on;
      lasts = λ runs. went.lasts (goes_not_last c.advance.result c.in-Going.is) (so_far.lasts runs);
      goes = joined g.met.S.PageStore.laws _ so_far.steps went.steps so_far.goes went.goes (λ xs ys none so. tt)
          (λ start h hc k kc l lc fx fy fz one two. waits_then one (waits_on c.in-Going.is two));
      made = made_more _ _ so_far.made went.made;
      budget = λ honest. (
          let down = down_on (g.S.PageStore.state c.loop-left.store) (g.S.PageStore.state c.advance.new.store)
          (slot_of c.loop-left.calls.slots.items session) (slot_of c.advance.new.calls.slots.items session) c.advance.result c.in-Going.is (went.less honest) in
          let most = so_far.budget ((is_later g.S.PageStore g.met.S.PageStore.laws went.steps).honest honest) in
          omega (arith, down, most));
      fewer = omega (arith, old_fewer);
    }

pub returns-clause-goes : goal.returns-clause-goes
returns-clause-goes g c honest start history calls fits =
    let few = work_bounded g.S.PageStore start (snapshot_of _ history calls) fits c.limits-limits.ensures.allowed.pages_to c.args.session in
    let most = c.loop-left.invariant.budget honest in
    absurd (omega (arith, few, most, c.loop-left-test.false))

pub returns-in_default-clause-less : goal.returns-in_default-clause-less
returns-in_default-clause-less g c honest =
    let most = c.loop-left.invariant.budget ((is_later g.S.PageStore g.met.S.PageStore.laws c.advance.ensures.steps).honest honest) in
    let fewer = c.loop-left.invariant.fewer in
    down_after (g.S.PageStore.state c.args.store.now) (g.S.PageStore.state c.loop-left.store) (g.S.PageStore.state c.advance.new.store)
    (slot_of c.args.calls.now.slots.items c.args.session) (slot_of c.loop-left.calls.slots.items c.args.session) (slot_of c.advance.new.calls.slots.items c.args.session)
    c.advance.result (omega (arith, most, fewer)) (c.advance.ensures.less honest)

pub returns-in_default-clause-made : goal.returns-in_default-clause-made
returns-in_default-clause-made g c = made_told (made_last c.loop-left.invariant.made c.advance.ensures.made) (λ xs so. inl so)

pub returns-clause-made : goal.returns-clause-made
returns-clause-made g c = made_told c.loop-left.invariant.made (λ xs many. inr (refl, omega (arith, many, c.loop-left-test.false)))

pub returns-in_default-clause-lasts : goal.returns-in_default-clause-lasts
returns-in_default-clause-lasts g c last runs = c.advance.ensures.lasts last (c.loop-left.invariant.lasts runs)

pub returns-clause-lasts : goal.returns-clause-lasts
returns-clause-lasts g c last runs = c.loop-left.invariant.lasts runs
