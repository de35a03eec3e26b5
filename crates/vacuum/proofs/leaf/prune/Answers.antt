use Rattle.std.proofs.Common.{◌≡◌, ◌≤◌, length, ap, ◌∙◌, arith}
use Rattle.std.specs.List.{filter}
use Rattle.vacuum.proofs.Imports.{entries_of, Page, lives}
use Rattle.vacuum.proofs.Removing.{parted}
use Rattle.vacuum.proofs.leaf.prune.Given.{Over}
use Rattle.vacuum.proofs.leaf.prune.Goals.{After-entries_on-2}
use Rattle.vacuum.proofs.leaf.prune.Goals as goal

-- no more entries are left than there were
fewer : (g : Over) (c : After-entries_on-2 g) → length c.entries_on.result.now ≤ length c.entries_on-2.result.now
fewer g c =
    let parts = parted (lives (g.T.DeadRows.is_in c.args.dead.now)) (entries_of c.args.page.now.items) in
    let left : length c.entries_on.result.now ≡ length (filter (lives (g.T.DeadRows.is_in c.args.dead.now)) (entries_of c.args.page.now.items)) =
    ap length c.entries_on.ensures ∙ ap (λ (p : Page). length (entries_of p.items)) c.without_dead-after.ensures in
    let all = ap length c.entries_on-2.ensures in
    omega (arith, parts, left, all)

pub overflow_sub-gone : goal.overflow_sub-gone
overflow_sub-gone g c = fewer g (goal.at.overflow_sub-gone g c).After-entries_on-2

pub returns-clause-pruned : goal.returns-clause-pruned
returns-clause-pruned g c = record {
  after_is = c.without_dead-after.ensures;
  kept_is = ap length c.entries_on.ensures;
  gone_is = (let few = fewer g (goal.at.returns-clause-pruned g c).After-entries_on-2 in let all = ap length c.entries_on-2.ensures in omega (arith, few, all));
}
