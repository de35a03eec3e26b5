-- Causes of what a page is read under.
use Rattle.std.proofs.Common.{Result, Ok, Err}
use Rattle.descent.proofs.Imports.{IfErr, Fault}

-- what holds of each fault holds of the one that is answered
pub if_err : {A : Type 0} (r : Result A Fault) (P Q : Fault → Type 0) → ((f : Fault) → P f → Q f) → IfErr r P → IfErr r Q
if_err (Ok x) P Q f h = h
if_err (Err e) P Q f h = f e h
