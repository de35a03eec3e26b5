use Rattle.std.proofs.Common.{◌≡◌, ℕ, ◌+◌, ◌<◌, ◌≤◌, List, ◌++◌, length, drop, get_or, sym, ap, ◌∙◌, append_assoc, append-nil, arith}
use Rattle.std.proofs.lemmas.List.{at_drop_more, at_drop_all}
use Rattle.latch_table.specs.Holdings.{Holding, Table, pinned_blocks}
use Rattle.latch_table.specs.Holders.{holds_any, one_if, holder_count}
use Rattle.latch_table.proofs.Holders.{none_pinned}
use Rattle.latch_table.proofs.table.LatchTable.pinned.Goals as goal

-- with the pins of the next holding, the blocks and those of the rest are still those of the whole table
with_next : (table : Table) (at : ℕ) (held : Holding) (old new : List ℕ) → at < length table → new ≡ old ++ (get_or table at held).pins
    → old ++ pinned_blocks (drop at table) ≡ pinned_blocks table → new ++ pinned_blocks (drop (at + 1) table) ≡ pinned_blocks table
with_next table at held old new below added before =
    let rest = pinned_blocks (drop (at + 1) table) in
    ap (λ blocks. blocks ++ rest) added ∙ append_assoc old (get_or table at held).pins rest
    ∙ sym (ap (λ blocks. old ++ blocks) (at_drop_more pinned_blocks table at held below)) ∙ before

-- so many of the rest hold something: the next one or not, and those after it
counts : (table : Table) (at : ℕ) (held : Holding) → at < length table
    → holder_count (drop at table) ≡ one_if (holds_any (get_or table at held)) + holder_count (drop (at + 1) table)
counts table at held below = at_drop_more holder_count table at held below

-- if none of the rest holds anything, these are all blocks
all_there : (table : Table) (at : ℕ) (blocks : List ℕ) → holder_count (drop at table) ≡ 0
    → blocks ++ pinned_blocks (drop at table) ≡ pinned_blocks table → blocks ≡ pinned_blocks table
all_there table at blocks none are = sym (append-nil blocks) ∙ sym (ap (λ rest. blocks ++ rest) (none_pinned (drop at table) none)) ∙ are

pub loop-held-preserved : goal.loop-held-preserved
loop-held-preserved c =
    let at = c.loop-held.held-index in
    let held = c.held-item.result in
    let before = c.loop-held.invariant in
    let below : at < length c.args.self.now = rw (← c.self.view_is) (omega (arith, c.type_inv.held-items)) in
    let added : c.add_pins.new.blocks.items ≡ c.loop-held.blocks.items ++ (get_or c.args.self.now at held).pins = rw (← c.self.view_is) c.add_pins.ensures.added in
    let here = counts c.args.self.now at held below in
    let holds : c.holds_any.result ≡ holds_any (get_or c.args.self.now at held) = rw (← c.self.view_is) c.holds_any.ensures in
    let counted : c.count-left.result ≡ one_if (holds_any (get_or c.args.self.now at held)) = c.count-left.ensures ∙ ap one_if holds in
    record {
      blocks = with_next c.args.self.now at held c.loop-held.blocks.items c.add_pins.new.blocks.items below added before.blocks;
      left = omega (arith, before.left, here, counted);
      few = omega (arith, before.few, c.add_pins.ensures.few);
    }

pub returns-then-left-eq0 : goal.returns-then-left-eq0
returns-then-left-eq0 c =
    let before = c.loop-held.invariant in
    all_there c.args.self.now c.loop-held.held-index c.loop-held.blocks.items (omega (arith, before.left, c.if-left-eq0.true)) before.blocks

pub returns : goal.returns
returns c =
    let blocks = c.loop-held.blocks.items in
    let all : length c.args.self.now ≤ c.loop-held.held-index = rw (← c.self.view_is) (omega (arith, c.self.invariant)) in
    sym (append-nil blocks) ∙ sym (ap (λ rest. blocks ++ rest) (at_drop_all pinned_blocks c.args.self.now c.loop-held.held-index all)) ∙ c.loop-held.invariant.blocks
