use Rattle.std.proofs.Common.{map, ◌≡◌, ◌≢◌, ℕ, suc, arith, refl, ap, subst, ◌∙◌, rules}
use Rattle.whole_calls.proofs.Imports.{is_last, runs_on_same, runs_on_then, Going, snapshot_of, slot_of}
use Rattle.whole_calls.specs.Parts.{PartIsRun, StepsGoOn}
use Rattle.whole_calls.proofs.Composing.{joined, joined_second, goes_nowhere, goes_told}
use Rattle.whole_calls.proofs.Counting.{counts_from}
use Rattle.whole_calls.proofs.Lasting.{reached_here, moved_beyond}
use Rattle.whole_calls.proofs.Made.{made_nowhere, made_then, made_told}
use Rattle.whole_calls.proofs.Parting.{part_came, part_comes, part_told, part_goes_on, steps_more}
use Rattle.whole_calls.proofs.Gone.{far_last}
use Rattle.whole_calls.proofs.Tellings.{step_comes, comes_on}
use Rattle.whole_calls.proofs.parts.take_steps.Goals as goal

pub loop-left-init : goal.loop-left-init
loop-left-init g c = record {
  steps = λ f h. h;
  sessions = refl;
  others = λ o ne. refl;
  goes = goes_nowhere g.met.S.PageStore.laws reached_here;
  runs_on = runs_on_same (slot_of c.args.calls.now.slots.items c.args.session);
  lasts = λ runs. runs;
  made = made_nowhere (0, omega arith, refl);
  fewer = omega arith;
  idle = λ is. (refl, refl);
}

pub loop-left-preserved : goal.loop-left-preserved
loop-left-preserved g c =
    let laws = g.met.S.PageStore.laws in
    let session = c.args.session in
    let so_far = c.loop-left.invariant in
    let went = c.step.ensures in
    let going : c.step.result ≡ Going = search rules in
    record {
      steps = λ f h. went.steps f (so_far.steps f h);
      sessions = went.others.sessions ∙ so_far.sessions;
      others = λ o ne. went.others.others o ne ∙ so_far.others o ne;
      goes = joined laws _ so_far.steps went.steps so_far.goes went.goes (λ xs ys none so. tt)
          (λ start h hc k kc l lc fx fy fz one two. moved_beyond going one (record { steps = went.steps; others = went.others.others }) refl went.format two);
      runs_on = runs_on_then (slot_of c.args.calls.now.slots.items session) (slot_of c.loop-left.calls.slots.items session) (slot_of c.step.new.calls.slots.items session) so_far.runs_on went.runs_on;
      lasts = λ runs. went.lasts (ap is_last going) (so_far.lasts runs);
      made = made_then so_far.made went.made (λ xs ys one two. (suc one.0, (let long = one.1 in omega (arith, long, c.loop-left-test.true)), steps_more one.0 c.step.result xs ys going one.2 two));
      fewer = omega (arith, so_far.fewer);
      idle = λ is. absurd (omega (arith, is, so_far.fewer, c.loop-left-test.true));
    }

pub returns-in_default-clause-goes : goal.returns-in_default-clause-goes
returns-in_default-clause-goes g c =
    let over : c.step.result ≢ Going = search rules in
    let so_far = c.loop-left.invariant in
    part_came over
    (joined_second g.met.S.PageStore.laws (PartIsRun g.S.PageStore c.args.session c.args.least_room c.step.result) so_far.steps c.step.ensures.steps so_far.goes c.step.ensures.goes
    (λ start h hc k kc l lc fx fy fz one two.
    record {
      told = part_told c.args.session c.step.result _ _ over (far_last c.args.session c.step.result _ (snapshot_of _ k kc) _ one.far two.told);
      going = λ is. absurd (over is);
      ends = λ apart. record {
        finish = record { last = snapshot_of _ k kc; fits = fy; gone = one; lasts = record { steps = c.step.ensures.steps; others = c.step.ensures.others.others }; step = two };
        on = so_far.runs_on;
      };
      counts = λ what. counts_from what (map g.T.DeadRows.is_in c.args.sets.now) _ _ _ _ _ _ c.step.result (one.counted what) (two.counts what);
    }))

pub returns-clause-goes : goal.returns-clause-goes
returns-clause-goes g c =
    goes_told _ c.loop-left.invariant.goes (λ start h hc k kc answers fits by gone. (tt, part_goes_on g.S.PageStore c.args.session c.args.least_room start _ _ gone))

pub returns-in_default-clause-made : goal.returns-in_default-clause-made
returns-in_default-clause-made g c =
    let over : c.step.result ≢ Going = search rules in
    made_then c.loop-left.invariant.made c.step.ensures.made
    (λ xs ys one two. part_comes c.args.count one.0 c.step.result xs ys over (let long = one.1 in omega (arith, long, c.loop-left-test.true)) one.2 two)

pub returns-clause-made : goal.returns-clause-made
returns-clause-made g c =
    made_told c.loop-left.invariant.made (λ xs so. (let long = so.1 in subst (λ (n : ℕ). StepsGoOn n xs) (omega (arith, long, c.loop-left-test.false)) so.2))

pub returns-in_default-clause-idle : goal.returns-in_default-clause-idle
returns-in_default-clause-idle g c none = absurd (omega (arith, none, c.loop-left.invariant.fewer, c.loop-left-test.true))

pub returns-clause-idle : goal.returns-clause-idle
returns-clause-idle g c none = c.loop-left.invariant.idle (omega (arith, none, c.loop-left.invariant.fewer))

pub returns-in_default-clause-lasts : goal.returns-in_default-clause-lasts
returns-in_default-clause-lasts g c last runs = c.step.ensures.lasts last (c.loop-left.invariant.lasts runs)

pub returns-clause-lasts : goal.returns-clause-lasts
returns-clause-lasts g c last runs = c.loop-left.invariant.lasts runs

pub returns-in_default-clause-kind : goal.returns-in_default-clause-kind
returns-in_default-clause-kind g c over =
    let sets = map g.T.DeadRows.is_in c.args.sets.now in
    let mid = slot_of c.loop-left.calls.slots.items c.args.session in
    comes_on sets (slot_of c.args.calls.now.slots.items c.args.session) mid c.step.result c.loop-left.invariant.runs_on
    (step_comes sets mid (slot_of c.step.new.calls.slots.items c.args.session) c.step.result c.step.ensures.kind)
