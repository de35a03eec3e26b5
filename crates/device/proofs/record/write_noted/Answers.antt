use Rattle.std.proofs.Common.{◌≡◌, ℕ, [], ◌∷◌, ◌++◌, List, refl, ap, ◌∙◌, rules}
use Rattle.device.specs.Record.{DeviceCall, Write}
use Rattle.device.specs.Past.{writes_of}
use Rattle.device.specs.declared.record.Piece.{Piece}
use Rattle.device.proofs.record.write_noted.Goals as goal

writes_push : (pieces : List Piece) (piece : Piece) → writes_of (pieces ++ piece ∷ []) ≡ writes_of pieces ++ Write piece.at piece.bytes.items ∷ []
writes_push [] piece = refl
writes_push (p ∷ pieces) piece = ap (λ (l : List DeviceCall). Write p.at p.bytes.items ∷ l) (writes_push pieces piece)

pub returns-clause-noted : goal.returns-clause-noted
returns-clause-noted c =
    let same : c.in_ok-noted.noted.items ≡ c.args.piece.now = search rules in
    let piece : Piece = record { at = c.args.at; bytes = c.in_ok-noted.noted } in
    ap writes_of c.in_ok-push.ensures.items ∙ writes_push c.args.since.now.items piece ∙ ap (λ (l : List ℕ). writes_of c.args.since.now.items ++ Write c.args.at l ∷ []) same
