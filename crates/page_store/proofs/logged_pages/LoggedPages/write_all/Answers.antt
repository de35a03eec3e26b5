use Rattle.std.proofs.Common.{◌∙◌, drop, sym, ap, subst}
use Rattle.buffer_pool.specs.Pools.{changed_of}
use Rattle.page_store.proofs.Imports.{Pool, IsRestOf, held_of}
use Rattle.page_store.proofs.FollowLaws.{follows_both}
use Rattle.page_store.proofs.logged_pages.LoggedPages.write_all.Given.{Over}
use Rattle.page_store.proofs.logged_pages.LoggedPages.write_all.Goals.{After-note_first_written}
use Rattle.page_store.proofs.logged_pages.LoggedPages.write_all.Goals as goal

pub returns-clause-steps : goal.returns-clause-steps
returns-clause-steps g c =
    follows_both _ (held_of g.D.Device c.note_first_written.new.self) _
    (follows_both _ (held_of g.D.Device c.write_pages-result.new.self) _ c.write_pages-result.ensures.steps c.note_first_written.ensures.steps) c.sync.ensures.steps

-- those that were written wait no more
rest : (g : Over) (c : After-note_first_written g) → IsRestOf (changed_of c.note_first_written.new.self.pool) (changed_of c.args.self.now.pool)
rest g c = record {
  written = c.write_pages-result.new.written;
  is = c.note_first_written.ensures.order ∙ ap (λ p. drop c.write_pages-result.new.written (changed_of p)) c.write_pages-result.ensures.same.pool;
}

pub returns-in_err-result-clause-rest : goal.returns-in_err-result-clause-rest
returns-in_err-result-clause-rest g c = rest g (goal.at.returns-in_err-result-clause-rest g c).After-note_first_written

pub returns-clause-rest : goal.returns-clause-rest
returns-clause-rest g c =
    subst (λ (p : Pool). IsRestOf (changed_of p) (changed_of c.args.self.now.pool)) (sym c.sync.ensures.same.pool) (rest g (goal.at.returns-clause-rest g c).After-note_first_written)
