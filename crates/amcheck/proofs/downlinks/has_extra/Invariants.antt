use Rattle.std.proofs.Common.{◌≡◌, length}
use Rattle.amcheck.proofs.Imports.{from_low, nodes_of}
use Rattle.amcheck.proofs.ItemsNoted.{HasNotedTo}
use Rattle.amcheck.proofs.downlinks.has_extra.Given as goal

abbrev pub invariant-loop-item : goal.invariant-loop-item
invariant-loop-item l = record {
  size : length l.linked ≡ length l.fn.linked;
  noted : HasNotedTo (nodes_of l.pages) l.stops (from_low l.low l.links) l.item l.fn.linked l.linked;
}
