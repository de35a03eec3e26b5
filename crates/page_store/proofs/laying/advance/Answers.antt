use Rattle.std.proofs.lemmas.Result.{on_ok_weaker}
use Rattle.redo_log.proofs.Keeping.{keeps_laid}
use Rattle.page_store.proofs.Holding.{laid_moments, laid_outside, laid_same}
use Rattle.page_store.proofs.laying.advance.Goals as goal

pub returns-clause-keeps : goal.returns-clause-keeps
returns-clause-keeps g c = on_ok_weaker c.advance.result (λ all acts forced k. all acts forced (keeps_laid c.args.log.now c.lay_waiting.new.log c.lay_waiting.ensures.waits _ acts forced k)) c.advance.ensures.keeps

pub returns-clause-moments : goal.returns-clause-moments
returns-clause-moments g c = laid_moments c.args.log.now c.lay_waiting.new.log c.lay_waiting.ensures.waits _ _ c.advance.ensures.moments

pub returns-clause-outside : goal.returns-clause-outside
returns-clause-outside g c = laid_outside c.args.log.now c.lay_waiting.new.log c.lay_waiting.ensures.waits _ _ c.advance.ensures.outside

pub returns-clause-same : goal.returns-clause-same
returns-clause-same g c = laid_same c.args.log.now c.lay_waiting.new.log c.lay_waiting.ensures.waits _ c.advance.ensures.same
