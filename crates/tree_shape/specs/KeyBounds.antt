-- Bounds that don't part the rows of one key.
use Rattle.std.specs.Prelude.{◌≡◌, None}
use Rattle.index_model.specs.Order.{is_past}
use Rattle.index_model.specs.declared.bound.Bound.{Bound}
use Rattle.index_model.specs.declared.entry.Entry.{Entry}

-- the bound is the place before all rows of a key
abbrev pub IsKeyBound : Bound → Type 0
IsKeyBound b = b.row ≡ None

-- such a bound has all entries of a key on one side
abbrev pub KeyBoundsPartKeys : Type 0
KeyBoundsPartKeys =
    (b : Bound) (x y : Entry) → IsKeyBound b → x.key ≡ y.key → is_past b x ≡ is_past b y
