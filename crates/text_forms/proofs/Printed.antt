-- What is printed in two parts.
use Rattle.std.specs.Prelude.{◌++◌, ℕ, Option, List, Result, Ok, Err, OnOk}
use Rattle.std.specs.Io.KnownBytes.{Appends}
use Rattle.std.proofs.KnownBytes.{Appends-trans}

pub then_printed : {T E : Type 0} (r : Result T E) (a b c : Option (List ℕ)) (xs ys : List ℕ) → Appends a b xs → OnOk r (Appends b c ys)
    → OnOk r (Appends a c (xs ++ ys))
then_printed (Ok done) a b c xs ys first second = Appends-trans a b c xs ys first second
then_printed (Err fault) a b c xs ys first second = tt
