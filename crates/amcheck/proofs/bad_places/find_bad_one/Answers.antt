use Rattle.std.proofs.Common.{arith}
use Rattle.amcheck.proofs.Found.{bad_inside}
use Rattle.amcheck.proofs.bad_places.find_bad_one.Goals as goal

pub returns : goal.returns
returns c = record { first = λ k bad. c.loop-place.invariant k (let lt = bad_inside _ _ _ _ k bad in let e = c.loop-place-test.false in omega arith) bad }
