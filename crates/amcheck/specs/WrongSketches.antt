-- What is judged of a page of a chain, as its sketch tells.
use Rattle.std.specs.Prelude.{◌≡◌, ℕ, Bool, false, Option}
use Rattle.tree_shape.specs.Chains.{LeftContext}
use Rattle.amcheck.specs.Places.{IsNoneOrBeyond}
use Rattle.amcheck.specs.Stops.{IsWrongBy}
use Rattle.amcheck.specs.declared.sketches.Sketch.{Sketch}

-- number by number, as `IsWrong` says of the page
abbrev pub IsWrongSketch : Bool → Sketch → Option ℕ → LeftContext → ℕ → ℕ → Type 0
IsWrongSketch keys sketch root s block number =
    IsWrongBy keys sketch.left sketch.state sketch.high (IsNoneOrBeyond s.low sketch.least → ⊥) (sketch.unique ≡ false) root s block number
