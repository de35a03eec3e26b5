use Rattle.std.proofs.Common.{◌≡◌, ◌∙◌, length, take, drop, sym, arith}
use Rattle.index_model.specs.Padded.{padded, length-padded}
use Rattle.page_codec.proofs.Pieces.{begins_one}
use Rattle.page_codec.proofs.reading.key_at.Goals as goal

pub returns-clause-only : goal.returns-clause-only
returns-clause-only c = λ k fits h.
    let parts = begins_one (length k) 64 (padded k) c.args.bytes.now (length-padded k fits) h in
    let cells : c.in-Ok.cells.now ≡ take 64 (drop 1 c.args.bytes.now) = grind (arith, c.in-Ok.ensures) in
    c.from_cells.ensures.only k (sym parts.0) fits (sym (cells ∙ parts.1))
