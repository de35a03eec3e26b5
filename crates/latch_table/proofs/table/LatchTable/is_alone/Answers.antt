use Rattle.std.proofs.Common.{◌≡◌, ◌<◌, length, ap, sym, ◌∙◌, arith}
use Rattle.std.proofs.lemmas.Bool.{eqb-true}
use Rattle.latch_table.specs.Holders.{one_if, holds_any}
use Rattle.latch_table.proofs.Holders.{alone, same_holding}
use Rattle.latch_table.proofs.table.LatchTable.is_alone.Goals as goal

pub returns-clause-alone : goal.returns-clause-alone
returns-clause-alone c same block mode =
    let holdings = c.self.inside.holdings in
    let number = c.number-number.result in
    let below : number < length holdings = omega (arith, c.self.invariant.0, c.number-number.ensures.value, c.number-number.ensures.fits) in
    let own : c.self.inside.holders ≡ c.count.result = eqb-true c.self.inside.holders c.count.result same in
    rw (← c.self.view_is, ← c.number-number.ensures.value) (alone holdings number block mode below
    (sym c.self.invariant.1 ∙ own ∙ c.count.ensures ∙ ap one_if (c.holds_any.ensures ∙ ap holds_any (same_holding holdings number c.index-self-number.result below))))
