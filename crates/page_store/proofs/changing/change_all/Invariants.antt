use Rattle.std.proofs.Common.{take}
use Rattle.page_store.specs.Changing.{AreActed}
use Rattle.page_store.proofs.changing.change_all.Given as goal

abbrev pub invariant-loop-page : goal.invariant-loop-page
invariant-loop-page l = AreActed l.fn.pool l.pool (take l.page-index l.pages) l.act
