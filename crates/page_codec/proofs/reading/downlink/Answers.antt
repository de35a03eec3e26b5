use Rattle.std.proofs.Common.{◌≡◌, ◌∙◌, ◌+◌, ◌<◌, Some, ℕ, take, drop, get_or, sym, ap, subst, arith, length-drop}
use Rattle.page_codec.proofs.Imports.{get_or-drop, same_Some, little_bytes, Downlink}
use Rattle.page_codec.proofs.Numbers.{four_again}
use Rattle.page_codec.proofs.Slots.{downlink_of_parts, slot_of_downlink, child_of_downlink}
use Rattle.page_codec.proofs.reading.downlink.Goals as goal

pub returns-in_err-bound-clause-only : goal.returns-in_err-bound-clause-only
returns-in_err-bound-clause-only c = λ d h begins.
    let some = c.slot.ensures.only d.bound h.bound (slot_of_downlink d c.args.bytes.now begins) in
    let none = c.in_err-bound.was in
    absurd cc

pub returns-clause-found : goal.returns-clause-found
returns-clause-found c =
    let bytes = c.args.bytes.now in
    let d : Downlink = record { bound = c.in_ok-bound.bound; child = c.u32_at-child.result } in
    let found = c.in_ok-bound.ensures.found in
    let small : (i : ℕ) → get_or bytes i 0 < 256 = λ i. (c.type_inv.bytes i).fits in
    let small_after : (i : ℕ) → get_or (drop 71 bytes) i 0 < 256 = λ i. subst (λ (b : ℕ). b < 256) (sym (get_or-drop 71 bytes i 0)) (small (71 + i)) in
    let child : take 4 (drop 71 bytes) ≡ little_bytes 4 d.child =
    sym (ap (λ (n : ℕ). little_bytes 4 n) c.u32_at-child.ensures ∙ four_again (drop 71 bytes) (omega (arith, length-drop 71 bytes, c.requires)) small_after) in
    (found.0, downlink_of_parts d bytes found.0 found.1 child)

pub returns-clause-only : goal.returns-clause-only
returns-clause-only c = λ d h begins.
    let bytes = c.args.bytes.now in
    let bound = same_Some c.in_ok-bound.bound d.bound (sym c.in_ok-bound.was ∙ c.slot.ensures.only d.bound h.bound (slot_of_downlink d bytes begins)) in
    let child = c.u32_at-child.ensures ∙ child_of_downlink d bytes h begins in
    λ i. Some (let x : Downlink = record { bound = bound i; child = child i } in x)
