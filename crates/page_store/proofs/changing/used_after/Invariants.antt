use Rattle.std.proofs.Common.{◌≡◌, drop}
use Rattle.page_store.specs.Changing.{used_after}
use Rattle.page_store.proofs.changing.used_after.Given as goal

abbrev pub invariant-loop-page : goal.invariant-loop-page
invariant-loop-page l = used_after l.next (drop l.page-index l.pages) ≡ used_after l.fn.used l.pages
