use Rattle.std.proofs.Common.{◌∙◌, suc, arith}
use Rattle.std.proofs.lemmas.Result.{on_ok_weaker, on_err_weaker}
use Rattle.redo_log.proofs.Keeping.{keeps_laid}
use Rattle.page_store.proofs.Holding.{end_laid, laid_moments, laid_outside, laid_same}
use Rattle.page_store.proofs.laying.force.Goals as goal

pub returns-clause-keeps : goal.returns-clause-keeps
returns-clause-keeps g c = on_ok_weaker c.force.result (λ all acts forced k. all acts forced (keeps_laid c.args.log.now c.lay_waiting.new.log c.lay_waiting.ensures.waits _ acts forced k)) c.force.ensures.keeps

pub returns-clause-moments : goal.returns-clause-moments
returns-clause-moments g c = laid_moments c.args.log.now c.lay_waiting.new.log c.lay_waiting.ensures.waits _ _ c.force.ensures.moments

pub returns-clause-outside : goal.returns-clause-outside
returns-clause-outside g c = laid_outside c.args.log.now c.lay_waiting.new.log c.lay_waiting.ensures.waits _ _ c.force.ensures.outside

pub returns-clause-same : goal.returns-clause-same
returns-clause-same g c = laid_same c.args.log.now c.lay_waiting.new.log c.lay_waiting.ensures.waits _ c.force.ensures.same

pub returns-clause-room : goal.returns-clause-room
returns-clause-room g c = on_ok_weaker c.force.result (λ most n. omega (arith, most n, end_laid c.args.log.now c.lay_waiting.new.log c.lay_waiting.ensures.waits (suc n))) c.force.ensures.room

pub returns-clause-refused : goal.returns-clause-refused
returns-clause-refused g c = on_err_weaker c.force.result (λ same n. same n ∙ end_laid c.args.log.now c.lay_waiting.new.log c.lay_waiting.ensures.waits n) c.force.ensures.refused
