use Rattle.std.proofs.Common.{map, ◌≡◌, ◌≤◌, refl, sym, subst, arith, inl, inr, ◌∙◌, rules}
use Rattle.whole_calls.proofs.Imports.{runs_on_same, runs_on_then, PageDamaged, Format, Going, snapshot_of, slot_of}
use Rattle.whole_calls.proofs.Composing.{is_later, joined, joined_second, goes_nowhere}
use Rattle.whole_calls.proofs.Lasting.{reached_here, moved_beyond}
use Rattle.whole_calls.proofs.Made.{made_among, made_nowhere, made_last, made_more, made_told}
use Rattle.whole_calls.proofs.Tellings.{step_comes, comes_on, refused_comes}
use Rattle.whole_calls.proofs.Spending.{steps_few}
use Rattle.whole_calls.proofs.running.finish.Goals as goal

pub loop-left-init : goal.loop-left-init
loop-left-init g c = record {
  steps = λ f h. h;
  sessions = refl;
  others = λ o ne. refl;
  format = refl;
  goes = goes_nowhere g.met.S.PageStore.laws reached_here;
  runs_on = runs_on_same (slot_of c.args.calls.now.slots.items c.args.session);
  made = made_nowhere (omega arith);
  budget = λ low honest start history calls fits. omega arith;
}

pub returns-in_default-clause-goes : goal.returns-in_default-clause-goes
returns-in_default-clause-goes g c =
    joined_second g.met.S.PageStore.laws _ c.loop-left.invariant.steps c.step.ensures.steps c.loop-left.invariant.goes c.step.ensures.goes
    (λ start h hc k kc l lc fx fy fz one two.
    record { last = snapshot_of _ k kc; fits = fy; gone = one; lasts = record { steps = c.step.ensures.steps; others = c.step.ensures.others.others }; step = two })

pub loop-left-preserved : goal.loop-left-preserved
loop-left-preserved g c =
    let laws = g.met.S.PageStore.laws in
    let session = c.args.session in
    let so_far = c.loop-left.invariant in
    let went = c.step.ensures in
    let going : c.step.result ≡ Going = search rules in
    record {
      steps = λ f h. went.steps f (so_far.steps f h);
      sessions = went.others.sessions ∙ so_far.sessions;
      others = λ o ne. went.others.others o ne ∙ so_far.others o ne;
      format = went.format ∙ so_far.format;
      goes = joined laws _ so_far.steps went.steps so_far.goes went.goes (λ xs ys none so. tt)
          (λ start h hc k kc l lc fx fy fz one two. moved_beyond going one (record { steps = went.steps; others = went.others.others }) refl went.format two);
      runs_on = runs_on_then (slot_of c.args.calls.now.slots.items session) (slot_of c.loop-left.calls.slots.items session) (slot_of c.step.new.calls.slots.items session) so_far.runs_on went.runs_on;
      made = made_more _ _ so_far.made (made_among went.made);
      budget = λ low honest start history calls fits. (
          let then_honest = (is_later g.S.PageStore laws went.steps).honest honest in
          let most = so_far.budget low then_honest start history calls fits in
          let r = so_far.goes then_honest start history calls fits in
          let t = went.goes honest start r.then_history r.then_calls r.ran.fits in
          let fewer = t.tells.fewer (subst (λ (l : Format). l.pages ≤ 65536) (sym so_far.format) low) going in
          omega (arith, most, fewer));
    }

pub returns-clause-goes : goal.returns-clause-goes
returns-clause-goes g c honest start history calls fits =
    let low = c.limits-limits.ensures.allowed.pages_to in
    let few = steps_few g.S.PageStore g.met.S.PageStore.laws start (snapshot_of _ history calls) c.args.session fits low in
    let most = c.loop-left.invariant.budget low honest start history calls fits in
    absurd (omega (arith, few, most, c.loop-left-test.false))

pub returns-in_default-clause-made : goal.returns-in_default-clause-made
returns-in_default-clause-made g c = made_told (made_last c.loop-left.invariant.made (made_among c.step.ensures.made)) (λ xs so. inl so)

pub returns-clause-made : goal.returns-clause-made
returns-clause-made g c = made_told c.loop-left.invariant.made (λ xs many. inr (refl, omega (arith, many, c.loop-left-test.false)))

pub returns-in_default-clause-kind : goal.returns-in_default-clause-kind
returns-in_default-clause-kind g c =
    let sets = map g.T.DeadRows.is_in c.args.sets.now in
    let mid = slot_of c.loop-left.calls.slots.items c.args.session in
    comes_on sets (slot_of c.args.calls.now.slots.items c.args.session) mid c.step.result c.loop-left.invariant.runs_on
    (step_comes sets mid (slot_of c.step.new.calls.slots.items c.args.session) c.step.result c.step.ensures.kind)

pub returns-clause-kind : goal.returns-clause-kind
returns-clause-kind g c = refused_comes (map g.T.DeadRows.is_in c.args.sets.now) (slot_of c.args.calls.now.slots.items c.args.session) (PageDamaged 0)
