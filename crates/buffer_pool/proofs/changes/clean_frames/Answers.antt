use Rattle.std.proofs.Common.{◌∙◌, ◌++◌, ◌<◌, length, ℕ, List, length-set, subst, arith}
use Rattle.buffer_pool.proofs.Imports.{drop_all, AreChanged}
use Rattle.buffer_pool.proofs.Changing.{clean_next, clean_kept}
use Rattle.buffer_pool.proofs.changes.clean_frames.Goals as goal

pub loop-block-preserved : goal.loop-block-preserved
loop-block-preserved c =
    let i = c.loop-block.block-index in
    let acts = c.loop-block.acts in
    let at = c.frame_at.result in
    let before = c.loop-block.invariant in
    let within : at < length acts = omega (arith, c.frame_at.ensures, c.requires.within i 0 c.loop-block-test.true, before.many) in
    record {
      many = length-set acts at 0 ∙ before.many;
      kept = λ k. clean_kept acts c.args.acts.now at k within (before.kept k);
      left = λ blocks others placed changed.
          clean_next c.args.places.now blocks acts c.args.written.now others i at placed c.loop-block-test.true c.frame_at.ensures within
          (before.left blocks others placed changed);
    }

pub returns-clause-left : goal.returns-clause-left
returns-clause-left c = λ blocks others placed changed.
    subst (λ (xs : List ℕ). AreChanged (xs ++ others) blocks c.loop-block.acts) (drop_all c.loop-block.block-index c.args.written.now c.loop-block-test.false)
    (c.loop-block.invariant.left blocks others placed changed)
