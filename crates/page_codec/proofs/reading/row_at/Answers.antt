use Rattle.std.proofs.Common.{◌≡◌, ◌∙◌, ◌+◌, ◌<◌, ap, sym, subst, ℕ, take, drop, get_or, arith, length-drop}
use Rattle.page_codec.proofs.Imports.{get_or-drop, Row, little_bytes}
use Rattle.page_codec.proofs.Pieces.{begins_row}
use Rattle.page_codec.proofs.Numbers.{two_again, four_again}
use Rattle.page_codec.proofs.reading.row_at.Goals as goal

pub returns-in-Ok-clause-found : goal.returns-in-Ok-clause-found
returns-in-Ok-clause-found c =
    let bytes = c.args.bytes.now in
    let row = c.in-Ok.row in
    let small : (i : ℕ) → get_or bytes i 0 < 256 = λ i. (c.type_inv.bytes i).fits in
    let small_after : (i : ℕ) → get_or (drop 4 bytes) i 0 < 256 = λ i. subst (λ (b : ℕ). b < 256) (sym (get_or-drop 4 bytes i 0)) (small (4 + i)) in
    let block : take 4 bytes ≡ little_bytes 4 row.block =
    sym (ap (λ (n : ℕ). little_bytes 4 n) (ap (λ (r : Row). r.block) c.in-Ok.ensures.0 ∙ c.u32_at-block.ensures) ∙ four_again bytes (omega (arith, c.requires)) small) in
    let offset : take 2 (drop 4 bytes) ≡ little_bytes 2 row.offset =
    sym (ap (λ (n : ℕ). little_bytes 2 n) (ap (λ (r : Row). r.offset) c.in-Ok.ensures.0 ∙ c.u16_at-offset.ensures)
    ∙ two_again (drop 4 bytes) (omega (arith, length-drop 4 bytes, c.requires)) small_after) in
    (c.in-Ok.ensures.1, begins_row row bytes block offset)
