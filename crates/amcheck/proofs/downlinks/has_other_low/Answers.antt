use Rattle.std.proofs.Common.{◌≡◌, ◌↔◌, IsTrue, Option, subst}
use Rattle.amcheck.proofs.Imports.{Bound, nodes_of}
use Rattle.amcheck.proofs.ItemsNoted.{other_low, no_other_low}
use Rattle.amcheck.proofs.downlinks.has_other_low.Goals as goal

pub returns-in-None : goal.returns-in-None
returns-in-None c = no_other_low (nodes_of c.args.pages.now) c.args.stops.now c.args.link.now c.in-None.ensures.none

pub returns-in-Some : goal.returns-in-Some
returns-in-Some c =
    other_low c.is_same.result (nodes_of c.args.pages.now) c.args.stops.now c.args.link.now c.in-Some.stop c.requires.once c.in-Some.ensures.some
    (subst (λ (low : Option Bound). IsTrue c.is_same.result ↔ (c.args.link.now.bound ≡ low)) c.low.ensures c.is_same.ensures)
