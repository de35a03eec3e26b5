use Rattle.std.proofs.Common.{◌∙◌, ◌+◌, ◌*◌, ℕ, sym, subst, set}
use Rattle.redo_log.proofs.Noting.{NotedSoFar, none_there, noted_more}
use Rattle.redo_log.proofs.reading.note_images.Goals as goal

pub returns-in_default-clause-wrong : goal.returns-in_default-clause-wrong
returns-in_default-clause-wrong c =
    none_there c.args.format.now c.args.log.now c.args.at c.args.count c.loop-k.k c.args.lasts.now c.loop-k.lasts c.loop-k.invariant c.loop-k-test.true c.requires.inside
    (λ p good is. let h = c.block_of.ensures.only p good (c.piece.ensures.value ∙ is) in let w = c.in_default.is in cc)

pub loop-k-preserved : goal.loop-k-preserved
loop-k-preserved c =
    let f = c.in-Some.ensures.found in
    subst (λ (b : ℕ). NotedSoFar c.args.format.now c.args.log.now c.args.at c.args.count (c.loop-k.k + 1) c.args.lasts.now (set c.loop-k.lasts b (c.args.at + 4096 * c.loop-k.k))) f.3
    (noted_more c.args.format.now c.args.log.now c.args.at c.args.count c.loop-k.k c.args.lasts.now c.loop-k.lasts c.loop-k.invariant
    c.loop-k-test.true c.requires.inside f.0 f.1 (sym c.piece.ensures.value ∙ f.2) c.requires.after)
