use Rattle.std.proofs.Common.{◌↔◌, length}
use Rattle.amcheck.proofs.Imports.{Ascends, KeyBefore}
use Rattle.amcheck.proofs.unique_pages.do_keys_ascend.Given as goal

abbrev pub invariant-loop-rest : goal.invariant-loop-rest
invariant-loop-rest l = Ascends KeyBefore l.rest ↔ Ascends KeyBefore l.entries

abbrev pub decreases-loop-rest : goal.decreases-loop-rest
decreases-loop-rest l = length l.rest
