use Rattle.std.proofs.Common.{None}
use Rattle.std.proofs.Common.{◌<◌, length, arith}
use Rattle.access_method.proofs.index.free_seat.Goals as goal
use Rattle.access_method.proofs.Imports.{slice_get_within}

pub returns-clause-free : goal.returns-clause-free
returns-clause-free c session h = c.loop-at.invariant.taken session (let w : session < length c.args.seats.now = slice_get_within c.args.seats.now session None h in omega (arith, c.loop-at-test.false)) h
