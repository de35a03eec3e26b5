-- What lies beyond the low of a page.
use Rattle.std.specs.Prelude.{Option, Some, None, List, [], ◌∷◌}
use Rattle.index_model.specs.Order.{bound_of}
use Rattle.index_model.specs.declared.bound.Bound.{Bound}
use Rattle.index_model.specs.declared.entry.Entry.{Entry}
use Rattle.page_codec.specs.declared.page.Downlink.{Downlink}
use Rattle.tree_shape.specs.Chains.{IsBeyond}

-- the first of these entries lies beyond the low
abbrev pub IsFirstBeyond : Option Bound → List Entry → Type 0
IsFirstBeyond low [] = Unit {0}
IsFirstBeyond low (e ∷ es) = IsBeyond low (bound_of e)

-- a bound lies beyond the low
abbrev pub IsBoundBeyond : Option Bound → Option Bound → Type 0
IsBoundBeyond low None = ⊥
IsBoundBeyond low (Some bound) = IsBeyond low bound

-- the bound of the second of these downlinks lies beyond the low
abbrev pub IsSecondBeyond : Option Bound → List Downlink → Type 0
IsSecondBeyond low [] = Unit {0}
IsSecondBeyond low (i ∷ []) = Unit {0}
IsSecondBeyond low (i ∷ j ∷ js) = IsBoundBeyond low j.bound
