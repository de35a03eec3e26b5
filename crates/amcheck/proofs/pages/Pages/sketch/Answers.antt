use Rattle.std.proofs.Common.{◌≡◌, Some, List, length, slice_get, ap, subst, ◌∙◌, arith}
use Rattle.amcheck.proofs.Imports.{slice_get_at, Page, nodes_of, IsSketch}
use Rattle.amcheck.proofs.Kept.{sketch_is, entries_are, entries_few}
use Rattle.amcheck.proofs.pages.Pages.sketch.Goals.{After-index}
use Rattle.amcheck.proofs.pages.Pages.sketch.Goals as goal

found : (c : After-index) → slice_get c.self.inside.sketches.items c.args.block ≡ Some c.index.result.now
found c = slice_get_at c.self.inside.sketches.items c.args.block c.index.result.now
    (let size = ap length c.self.view_is in omega (arith, c.requires, c.self.invariant.count, size)) c.index.ensures

pub returns-clause-is : goal.returns-clause-is
returns-clause-is c =
    subst (λ (ps : List Page). IsSketch (nodes_of ps c.args.block) c.index.result.now) c.self.view_is
    (sketch_is c.self.inside.list.value c.self.inside.whole.items c.self.inside.sketches.items c.self.invariant c.args.block c.index.result.now (found (goal.at.returns-clause-is c).After-index))

pub returns-clause-entries : goal.returns-clause-entries
returns-clause-entries c page is =
    entries_are c.self.inside.list.value c.self.inside.whole.items c.self.inside.sketches.items c.self.invariant c.args.block c.index.result.now (found (goal.at.returns-clause-entries c).After-index)
    page (ap (λ (ps : List Page). slice_get ps c.args.block) c.self.view_is ∙ is)

pub returns-clause-few : goal.returns-clause-few
returns-clause-few c =
    entries_few c.self.inside.list.value c.self.inside.whole.items c.self.inside.sketches.items c.self.invariant c.args.block c.index.result.now (found (goal.at.returns-clause-few c).After-index)
