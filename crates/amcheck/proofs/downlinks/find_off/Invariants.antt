use Rattle.std.proofs.Common.{◌≡◌, ℕ, suc, ◌<◌, slice_get, Some}
use Rattle.amcheck.proofs.Imports.{Downlink, from_low, index_of, IsOnLevel}
use Rattle.amcheck.proofs.downlinks.find_off.Given as goal

abbrev pub invariant-loop-item : goal.invariant-loop-item
invariant-loop-item l = (j : ℕ) (d : Downlink) → j < l.item → slice_get (from_low l.low l.links) j ≡ Some d → IsOnLevel (index_of l.pages) (suc l.depth) d.child
