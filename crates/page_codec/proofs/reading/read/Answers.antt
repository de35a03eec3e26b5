use Rattle.std.proofs.Common.{◌≡◌, ◌∙◌, refl, sym}
use Rattle.page_codec.specs.Spelling.{page_bytes}
use Rattle.page_codec.proofs.Imports.{same_Some, IsTrue, IsPage, Page}
use Rattle.page_codec.proofs.Again.{slot_widens}
use Rattle.page_codec.proofs.PageAgain.{has_fields, are_items}
use Rattle.page_codec.proofs.Whole.{has_each}
use Rattle.page_codec.proofs.reading.read.Goals.{After-items}
use Rattle.page_codec.proofs.reading.read.Goals as goal

pub returns-in_default-clause-only : goal.returns-in_default-clause-only
returns-in_default-clause-only c = λ p h e.
    let has = has_fields p c.args.bytes.now h e in
    let some = c.layout.ensures p.layout has.layout in
    absurd (c.in_default.not-Some p.layout some)

pub returns-in_default-state-clause-only : goal.returns-in_default-state-clause-only
returns-in_default-state-clause-only c = λ p h e.
    let has = has_fields p c.args.bytes.now h e in
    let some = c.state.ensures p.state has.state in
    absurd (c.in_default-state.not-Some p.state some)

pub returns-in_default-slot-clause-only : goal.returns-in_default-slot-clause-only
returns-in_default-slot-clause-only c = λ p h e.
    let has = has_each p c.args.bytes.now h e in
    let some = c.slot.ensures.only p.high (slot_widens p.layout p.high h.high) (rw c.tail.ensures.value has.slot) in
    absurd (c.in_default-slot.not-Some p.high some)

-- the items are those of any page with these bytes
items_are : (c : After-items) → (p : Page) → IsPage p → c.args.bytes.now ≡ page_bytes p → IsTrue c.items.result × (c.items.new.into ≡ p.items)
items_are c p h e =
    let fields = has_fields p c.args.bytes.now h e in
    let pieces = has_each p c.args.bytes.now h e in
    c.items.ensures.only p.items (are_items p p.items h.kind) fields.kind (c.u16_at-count.ensures ∙ fields.count) (rw c.tail-2.ensures.value pieces.items)

pub returns-then-not-items-clause-only : goal.returns-then-not-items-clause-only
returns-then-not-items-clause-only c = λ p h e.
    let yes = items_are (goal.at.returns-then-not-items-clause-only c).After-items p h e in
    absurd cc

pub returns-clause-only : goal.returns-clause-only
returns-clause-only c = λ p h e.
    let fields = has_fields p c.args.bytes.now h e in
    let pieces = has_each p c.args.bytes.now h e in
    let items = (items_are (goal.at.returns-clause-only c).After-items p h e).1 in
    let layout = same_Some c.in-Some.layout p.layout (sym c.in-Some.is ∙ c.layout.ensures p.layout fields.layout) in
    let state = same_Some c.in-Some-state.state p.state (sym c.in-Some-state.is ∙ c.state.ensures p.state fields.state) in
    let high = same_Some c.in-Some-slot.high p.high (sym c.in-Some-slot.is ∙ c.slot.ensures.only p.high (slot_widens p.layout p.high h.high) (rw c.tail.ensures.value pieces.slot)) in
    let left = c.link-page.ensures p.left h.left (c.u32_at.ensures ∙ fields.left) in
    let right = c.link-page-2.ensures p.right h.right (c.u32_at-2.ensures ∙ fields.right) in
    let block = c.u32_at-page.ensures ∙ fields.block in
    let cycle = c.u32_at-page-2.ensures ∙ fields.cycle in
    let deletion = c.u64_at-page.ensures ∙ fields.deletion in (
      refl,
      λ i. let x : Page = record {
        layout = layout i;
        block = block i;
        level = fields.level i;
        state = state i;
        split = fields.split i;
        left = left i;
        right = right i;
        high = high i;
        cycle = cycle i;
        deletion = deletion i;
        items = items i;
      } in x,
    )
