use Rattle.std.proofs.Common.{◌≡◌, ◌≤◌, ◌∙◌, refl, sym, subst, arith, rules}
use Rattle.index_model.specs.declared.format.Format.{Format}
use Rattle.session_calls.specs.declared.answer.Answer.TheVariants.{Going}
use Rattle.command_line.proofs.Stepped.{gone_nowhere, gone_then, gone_more, within_more, within_some}
use Rattle.command_line.proofs.stepping.run_call.Goals as goal

pub loop-left-init : goal.loop-left-init
loop-left-init g c = record {
  steps = λ first h. h;
  format = refl;
  sizes = record { sessions = refl; frames = refl };
  gone = gone_nowhere g.S.PageStore g.met.S.PageStore.laws g.T.DeadRows c.args.session c.args.world.now;
  within = λ honest start history calls fits. omega arith;
}

pub loop-left-preserved : goal.loop-left-preserved
loop-left-preserved g c =
    let old = c.loop-left.invariant in
    let going : c.one.result ≡ Going = search rules in
    let low = subst (λ (l : Format). l.pages ≤ 65536) (sym old.format) c.requires.pages in
    record {
      steps = λ first h. c.one.ensures.steps first (old.steps first h);
      format = c.one.ensures.always.kept.format ∙ old.format;
      sizes = record {
        sessions = c.one.ensures.same.sessions ∙ old.sizes.sessions;
        frames = c.one.ensures.always.kept.frames ∙ old.sizes.frames;
      };
      gone = gone_more g.S.PageStore g.met.S.PageStore.laws g.T.DeadRows c.args.session c.args.world.now c.loop-left.world c.one.new.self
          old.steps c.one.ensures.steps old.gone c.one.result c.one.ensures.goes going;
      within = within_more g.S.PageStore g.met.S.PageStore.laws g.T.DeadRows c.args.session c.args.world.now c.loop-left.world c.one.new.self
          old.steps c.one.ensures.steps old.gone c.one.result c.one.ensures.goes c.loop-left.left _ (omega arith) going low old.within;
    }

pub returns-clause-goes : goal.returns-clause-goes
returns-clause-goes g c honest start history calls fits =
    absurd (within_some g.S.PageStore g.met.S.PageStore.laws g.T.DeadRows c.args.session c.args.world.now c.loop-left.world c.loop-left.left c.loop-left-test.false c.requires.pages
    honest start history calls fits (c.loop-left.invariant.within honest start history calls fits))

pub returns-in_default : goal.returns-in_default
returns-in_default g c =
    let old = c.loop-left.invariant in
    record {
      steps = λ first h. c.one.ensures.steps first (old.steps first h);
      sizes = record {
        sessions = c.one.ensures.same.sessions ∙ old.sizes.sessions;
        frames = c.one.ensures.always.kept.frames ∙ old.sizes.frames;
      };
      goes = gone_then g.S.PageStore g.met.S.PageStore.laws g.T.DeadRows c.args.session c.args.world.now c.loop-left.world c.one.new.self
          old.steps c.one.ensures.steps old.gone c.one.result c.one.ensures.goes;
      over = search rules;
    }
