use Rattle.std.proofs.Common.{◌<◌, ◌≡◌, length, get_or, sym, ◌∙◌, arith}
use Rattle.std.proofs.lemmas.Bool.{true≢false}
use Rattle.latch_table.proofs.Holders.{same_holding}
use Rattle.latch_table.proofs.table.LatchTable.is_full.Goals as goal

pub returns-clause-full : goal.returns-clause-full
returns-clause-full c full room =
    let holdings = c.self.inside.holdings in
    let below : c.number.result < length holdings = omega (arith, c.self.invariant.0, c.number.ensures.value, c.number.ensures.fits) in
    let eight : 8 ≡ length (get_or holdings c.number.result c.index-self-number.result).latches = c.is_full.ensures.full.0 full in
    let fewer : length (get_or holdings c.number.result c.index-self-number.result).latches < 8 =
    rw (same_holding holdings c.number.result c.index-self-number.result below, c.self.view_is, c.number.ensures.value) room in
    omega (arith, eight, fewer)

pub returns-clause-room : goal.returns-clause-room
returns-clause-room c free =
    let holdings = c.self.inside.holdings in
    let below : c.number.result < length holdings = omega (arith, c.self.invariant.0, c.number.ensures.value, c.number.ensures.fits) in
    let held = get_or holdings c.number.result c.index-self-number.result in
    let other : 8 ≡ length held.latches → ⊥ = λ same. true≢false (sym (c.is_full.ensures.full.1 same) ∙ free) in
    let fewer : length held.latches < 8 = omega (arith, other, c.is_full.ensures.fits) in
    rw (← c.self.view_is, ← c.number.ensures.value, ← same_holding holdings c.number.result c.index-self-number.result below) fewer
