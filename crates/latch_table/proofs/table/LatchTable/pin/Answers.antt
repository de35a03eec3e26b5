use Rattle.std.proofs.Common.{ap, ◌∙◌, arith, cond, nat_lt, length, ◌∷◌}
use Rattle.latch_table.specs.Holdings.{Holding, with_holding}
use Rattle.latch_table.proofs.Holders.{few_hold, before_counted, still_counted, same_holding}
use Rattle.latch_table.proofs.table.LatchTable.pin.Goals as goal

pub recounted-self-inside-requires-clause-counted : goal.recounted-self-inside-requires-clause-counted
recounted-self-inside-requires-clause-counted c =
    before_counted c.self.inside.holdings c.number-number.result c.index-self-number.result c.self.inside.holders c.holds_any-before.result
    (omega (arith, c.number-number.ensures.value, c.number-number.ensures.fits)) c.self.invariant c.holds_any-before.ensures

pub recounted-self-inside-requires-clause-few : goal.recounted-self-inside-requires-clause-few
recounted-self-inside-requires-clause-few c = few_hold c.self.inside.holdings c.self.inside.holders c.self.invariant

pub invariant_of-self : goal.invariant_of-self
invariant_of-self c =
    still_counted c.self.inside.holdings c.number-number.result c.pin.new.self c.index-self-number.result c.index-self-number-3.result c.self.inside.holders c.recounted-self-inside.result
    c.holds_any-before.result c.holds_any-after.result (omega (arith, c.number-number.ensures.value, c.number-number.ensures.fits)) c.self.invariant
    c.holds_any-before.ensures c.holds_any-after.ensures c.recounted-self-inside.ensures

pub returns : goal.returns
returns c =
    rw (← c.self.view_is, ← c.number-number.ensures.value) (ap (with_holding c.self.inside.holdings c.number-number.result)
    (c.pin.ensures ∙ ap (λ (held : Holding).
    record { latches = held.latches; pins = cond (nat_lt (length held.pins) 2) (c.args.block ∷ held.pins) held.pins })
    (same_holding c.self.inside.holdings c.number-number.result c.index-self-number-2.result (omega (arith, c.self.invariant.0, c.number-number.ensures.value, c.number-number.ensures.fits)))))
