use Rattle.std.proofs.Common.{◌≡◌, true, false, ◌∙◌, sym}
use Rattle.recovery.proofs.reading.page_of.Goals as goal

pub returns-then-is_unused-clause-found : goal.returns-then-is_unused-clause-found
returns-then-is_unused-clause-found c = sym c.in-Some.ensures.cases.same ∙ c.is_unused.ensures.0 c.if-is_unused.true

pub returns-in-None-clause-no_page : goal.returns-in-None-clause-no_page
returns-in-None-clause-no_page c = λ page is e. let h = c.decode.ensures.only page is (c.in-Some.ensures.cases.same ∙ e) in let w = c.in-None.is in cc

pub returns-in-None-clause-in_use : goal.returns-in-None-clause-in_use
returns-in-None-clause-in_use c = λ zeros. let both : true ≡ false = sym (c.is_unused.ensures.1 (c.in-Some.ensures.cases.same ∙ zeros)) ∙ c.if-is_unused.false in absurd cc
