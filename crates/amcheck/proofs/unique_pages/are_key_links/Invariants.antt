use Rattle.std.proofs.Common.{◌↔◌, length}
use Rattle.amcheck.proofs.Imports.{AllByRecursion, IsKeyLink}
use Rattle.amcheck.proofs.unique_pages.are_key_links.Given as goal

abbrev pub invariant-loop-rest : goal.invariant-loop-rest
invariant-loop-rest l = AllByRecursion IsKeyLink l.rest ↔ AllByRecursion IsKeyLink l.links

abbrev pub decreases-loop-rest : goal.decreases-loop-rest
decreases-loop-rest l = length l.rest
