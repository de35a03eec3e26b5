use Rattle.std.proofs.Common.{◌≡◌, List, ℕ, ◌∙◌, subst}
use Rattle.std.specs.Prelude.{IfSome}
use Rattle.page_codec.specs.Grammar.{IsPage}
use Rattle.page_codec.specs.Spelling.{page_bytes}
use Rattle.redo_log.proofs.reading.page_of.Goals as goal

pub returns-clause-found : goal.returns-clause-found
returns-clause-found c = subst (λ (l : List ℕ). IfSome c.decode.result (λ p. IsPage p × (l ≡ page_bytes p))) c.in_ok-as_array.ensures.cases.same c.decode.ensures.found

pub returns-clause-only : goal.returns-clause-only
returns-clause-only c = λ p is e. c.decode.ensures.only p is (c.in_ok-as_array.ensures.cases.same ∙ e)
