use Rattle.std.proofs.Common.{◌≡◌, replicate, ap, sym, ◌∙◌, rules}
use Rattle.latch_table.specs.Holdings.{nothing_held}
use Rattle.latch_table.specs.Holders.{holder_count}
use Rattle.latch_table.proofs.Made.{made_same}
use Rattle.latch_table.proofs.Holders.{none_hold}
use Rattle.latch_table.proofs.table.LatchTable.new.Goals as goal

pub invariant_of-result : goal.invariant_of-result
invariant_of-result c =
    let same : c.from_fn.result ≡ replicate 64 nothing_held = made_same _ _ c.from_fn.result 64 nothing_held c.from_fn.ensures.items (λ p i y q called. search rules) in
    (c.from_fn.ensures.items.long, sym (ap holder_count same ∙ none_hold 64))

pub returns : goal.returns
returns c = made_same _ _ c.from_fn.result 64 nothing_held c.from_fn.ensures.items (λ p i y q called. search rules)
