use Rattle.std.proofs.Common.{◌≡◌, ◌<◌, length, ap, ◌∙◌, arith}
use Rattle.amcheck.proofs.Imports.{Node, node_of, node_from, nodes_of, count_entries_on, one_if_half_dead, one_if_deleted, one_if_incomplete, page_there}
use Rattle.amcheck.proofs.Kept.{total_drop, one_half_dead, one_deleted, one_incomplete}
use Rattle.amcheck.proofs.counts.count_up.Goals as goal

pub loop-block-preserved : goal.loop-block-preserved
loop-block-preserved c =
    let pages = c.args.pages.now in
    let block = c.loop-block.block in
    let old = c.loop-block.invariant in
    let lt : block < length pages = omega (arith, c.loop-block-test.true, c.len-block-end.ensures, c.requires.few) in
    let page = page_there pages block lt in
    let here : nodes_of pages block ≡ node_of page.0 = ap node_from page.1 in
    let is = c.sketch-sketch.ensures.is in
    let state = is.state ∙ ap (λ (n : Node). n.state) here in
    let split = is.split ∙ ap (λ (n : Node). n.split) here in
    let entries = c.sketch-sketch.ensures.entries page.0 page.1 in
    let half_dead = c.one_if_half_dead.ensures ∙ ap one_if_half_dead state in
    let deleted = c.one_if_deleted.ensures ∙ ap one_if_deleted state in
    let unfinished = c.one_if_incomplete.ensures ∙ ap one_if_incomplete split in
    record {
      levels = old.levels;
      pages = old.pages;
      entries = omega (arith, old.entries, entries, total_drop count_entries_on pages block page.0 page.1);
      half_dead = omega (arith, old.half_dead, half_dead, total_drop (λ p. one_if_half_dead p.state) pages block page.0 page.1);
      deleted = omega (arith, old.deleted, deleted, total_drop (λ p. one_if_deleted p.state) pages block page.0 page.1);
      unfinished = omega (arith, old.unfinished, unfinished, total_drop (λ p. one_if_incomplete p.split) pages block page.0 page.1);
      few_entries = omega (arith, old.few_entries, c.sketch-sketch.ensures.few);
      few_half_dead = (let k = one_half_dead c.sketch-sketch.result.now.state in omega (arith, old.few_half_dead, k, c.one_if_half_dead.ensures));
      few_deleted = (let k = one_deleted c.sketch-sketch.result.now.state in omega (arith, old.few_deleted, k, c.one_if_deleted.ensures));
      few_unfinished = (let k = one_incomplete c.sketch-sketch.result.now.split in omega (arith, old.few_unfinished, k, c.one_if_incomplete.ensures));
    }
