use Rattle.std.proofs.Common.{Some, ap, ◌∙◌, rules}
use Rattle.access_method.specs.declared.token.Sitter.{Sitter}
use Rattle.access_method.proofs.Seats.{seat_found, seat_of_another}
use Rattle.access_method.proofs.index.Index.find.Goals as goal

pub returns-in-Some-Scan-clause-value : goal.returns-in-Some-Scan-clause-value
returns-in-Some-Scan-clause-value g c =
    seat_found c.args.self.now.seats c.args.token.session c.args.token.number c.in-Some-Scan.seat (search rules) (c.in-Some-Scan.is ∙ ap (λ (s : Sitter). Some s) (rw c.in-Some-Scan.is at c.in-Some-Scan.field-0-is)) c.if-seat-token.true

pub returns-in_default-clause-value : goal.returns-in_default-clause-value
returns-in_default-clause-value g c =
    seat_of_another c.args.self.now.seats c.args.token.session c.args.token.number c.in-Some-Scan.seat (search rules) (c.in-Some-Scan.is ∙ ap (λ (s : Sitter). Some s) (rw c.in-Some-Scan.is at c.in-Some-Scan.field-0-is)) c.if-seat-token.false
