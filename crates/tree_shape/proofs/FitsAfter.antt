-- A downlink that a tree is to have fits after the one before it.
use Rattle.std.proofs.Common.{◌≡◌, ℕ, zero, suc, ◌<◌, Option, Some, None, List, [], ◌∷◌, ◌++◌, length, take, drop, arith}
use Rattle.tree_shape.proofs.Imports.{Bound, Downlink, IsBeyond, Rises, IsBoundWithin, BoundsWithin, bound_at, IsBelowFirst}
use Rattle.tree_shape.proofs.LinkHalves.{link_to}

first_below : (separator : Bound) (ds : List Downlink) (high : Option Bound) → BoundsWithin (Some separator) ds high → IsBelowFirst separator ds
first_below separator [] high h = tt
first_below separator (d ∷ ds) high h = go d.bound h.0
  where
    go : (b : Option Bound) → IsBoundWithin (Some separator) b high → IsBelowFirst separator (record { bound = b; child = 0 } ∷ ds)
    go None h = absurd h
    go (Some b) h = h.0

-- the separator stands at its place among ascending bounds
record Placed (links : List Downlink) (at : ℕ) (separator : Bound) (high : Option Bound) : Type 0 where
  above : IsBeyond (bound_at links at) separator
  before_next : IsBelowFirst separator (drop (suc at) links)
  below_high : Rises (Some separator) high

placed : (d : Downlink) (ds : List Downlink) (at : ℕ) (separator : Bound) (new : ℕ) (high : Option Bound) → at < length (d ∷ ds)
    → BoundsWithin d.bound (take at ds ++ link_to separator new ∷ drop at ds) high → Placed (d ∷ ds) at separator high
placed d ds zero separator new high lt h = record { above = h.0.0; before_next = first_below separator ds high h.1; below_high = h.0.1 }
placed d [] (suc at) separator new high lt h = absurd (omega arith)
placed d (e ∷ es) (suc at) separator new high lt h =
    let p = placed e es at separator new high (omega arith) h.1 in
    record { above = p.above; before_next = p.before_next; below_high = p.below_high }

from_first : (low : Option Bound) (d : Downlink) (ds : List Downlink) (at : ℕ) (separator : Bound) (new : ℕ) (high : Option Bound) → at < length (d ∷ ds)
    → d.bound ≡ None → BoundsWithin low (take at ds ++ link_to separator new ∷ drop at ds) high → Placed (d ∷ ds) at separator high
from_first low d ds zero separator new high lt first h = record { above = rw first tt; before_next = first_below separator ds high h.1; below_high = h.0.1 }
from_first low d [] (suc at) separator new high lt first h = absurd (omega arith)
from_first low d (e ∷ es) (suc at) separator new high lt first h =
    let p = placed e es at separator new high (omega arith) h.1 in
    record { above = p.above; before_next = p.before_next; below_high = p.below_high }
