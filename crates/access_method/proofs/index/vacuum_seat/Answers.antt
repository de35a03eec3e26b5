use Rattle.std.proofs.Common.{Some, ◌<◌, length, arith}
use Rattle.access_method.specs.declared.token.Sitter.TheVariants.{Vacuum}
use Rattle.access_method.proofs.index.vacuum_seat.Goals as goal
use Rattle.access_method.proofs.Imports.{slice_get_within}

pub returns-clause-seat : goal.returns-clause-seat
returns-clause-seat c session h = c.loop-at.invariant.none session (let w : session < length c.args.seats.now = slice_get_within c.args.seats.now session (Some Vacuum) h in omega (arith, c.loop-at-test.false)) h
