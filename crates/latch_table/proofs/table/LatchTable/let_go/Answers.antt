use Rattle.std.proofs.Common.{arith}
use Rattle.latch_table.proofs.Holders.{few_hold, before_counted, still_counted}
use Rattle.latch_table.proofs.table.LatchTable.let_go.Goals as goal

pub recounted-self-inside-requires-clause-counted : goal.recounted-self-inside-requires-clause-counted
recounted-self-inside-requires-clause-counted c =
    before_counted c.self.inside.holdings c.number-number.result c.index-self-number.result c.self.inside.holders c.holds_any-before.result
    (omega (arith, c.number-number.ensures.value, c.number-number.ensures.fits)) c.self.invariant c.holds_any-before.ensures

pub recounted-self-inside-requires-clause-few : goal.recounted-self-inside-requires-clause-few
recounted-self-inside-requires-clause-few c = few_hold c.self.inside.holdings c.self.inside.holders c.self.invariant

pub invariant_of-self : goal.invariant_of-self
invariant_of-self c =
    still_counted c.self.inside.holdings c.number-number.result c.nothing.result c.index-self-number.result c.index-self-number-3.result c.self.inside.holders c.recounted-self-inside.result
    c.holds_any-before.result c.holds_any-after.result (omega (arith, c.number-number.ensures.value, c.number-number.ensures.fits)) c.self.invariant
    c.holds_any-before.ensures c.holds_any-after.ensures c.recounted-self-inside.ensures
