use Rattle.std.proofs.Common.{◌≡◌, Some, List, slice_get, ap, ◌∙◌, arith}
use Rattle.amcheck.proofs.Imports.{slice_get_at, Page, nodes_of}
use Rattle.amcheck.proofs.Kept.{high_is}
use Rattle.amcheck.proofs.pages.Pages.high.Goals as goal

pub returns : goal.returns
returns c =
    let found : slice_get c.self.inside.sketches.items c.args.block ≡ Some c.index.result.now =
    slice_get_at c.self.inside.sketches.items c.args.block c.index.result.now (omega (arith, c.if-block-len.false, c.len.ensures)) c.index.ensures in
    high_is c.self.inside.list.value c.self.inside.whole.items c.self.inside.sketches.items c.self.invariant c.args.block c.index.result.now found
    ∙ ap (λ (ps : List Page). (nodes_of ps c.args.block).high) c.self.view_is
