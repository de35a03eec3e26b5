use Rattle.std.proofs.Common.{◌≡◌, ℕ, ◌<◌, slice_get, Some}
use Rattle.amcheck.proofs.Imports.{Downlink, from_low, nodes_of, HasOtherLow}
use Rattle.amcheck.proofs.downlinks.has_wrong_bound.Given as goal

abbrev pub invariant-loop-item : goal.invariant-loop-item
invariant-loop-item l = (j : ℕ) (d : Downlink) → j < l.item → slice_get (from_low l.low l.links) j ≡ Some d → HasOtherLow (nodes_of l.pages) l.stops d → ⊥
