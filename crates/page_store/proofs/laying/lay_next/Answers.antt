use Rattle.std.proofs.Common.{◌≡◌, ◌∙◌, true, false, Some, None, sym, ap, subst}
use Rattle.std.specs.Prelude.{IsSome, is_some}
use Rattle.buffer_pool.specs.Pools.{held_page}
use Rattle.page_store.proofs.Holding.{next_image}
use Rattle.page_store.proofs.laying.lay_next.Goals as goal

pub lay-requires-clause-same : goal.lay-requires-clause-same
lay-requires-clause-same c = λ page at.
    let next = next_image c.args.log.now _ c.args.block c.requires.next c.requires.block in
    let both : Some page ≡ Some next.0 = sym at ∙ next.1 in
    c.requires.held.held c.args.block _ page (sym c.in-Some.ensures.held ∙ c.page.ensures) (next.2 ∙ sym both)

pub unreachable-requires : goal.unreachable-requires
unreachable-requires c =
    let next = next_image c.args.log.now _ c.args.block c.requires.next c.requires.block in
    let acted = c.requires.held.acted c.args.block (ap is_some next.2) in
    let some : IsSome (held_page c.args.pool.now c.args.block) = c.law.ensures.kept c.args.block acted in
    let none : held_page c.args.pool.now c.args.block ≡ None = c.in-None.ensures.none in
    let both : false ≡ true = subst IsSome none some in
    absurd cc
