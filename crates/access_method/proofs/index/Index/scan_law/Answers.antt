use Rattle.access_method.proofs.Scans.{are_the_matches, begin_the_matches, scan_rests, scan_rests_then}
use Rattle.access_method.proofs.index.Index.scan_law.Goals as goal

pub returns-clause-first : goal.returns-clause-first
returns-clause-first g c session range before begun given begins nexts honest start history calls fits =
    begin_the_matches g.S.PageStore g.met.S.PageStore.laws session range given before begun c.args.self.now start history calls begins nexts honest fits

pub returns-clause-all : goal.returns-clause-all
returns-clause-all g c session range before begun last given begins nexts next honest start history calls fits =
    are_the_matches g.S.PageStore g.met.S.PageStore.laws session range given before begun last c.args.self.now start history calls begins nexts next honest fits

pub returns-clause-rests : goal.returns-clause-rests
returns-clause-rests g c session range before begun given begins nexts honest start history calls fits =
    scan_rests g.S.PageStore g.met.S.PageStore.laws session range given before begun c.args.self.now start history calls begins nexts honest fits

pub returns-clause-rests_then : goal.returns-clause-rests_then
returns-clause-rests_then g c session range before begun last given answer begins nexts next honest start history calls fits =
    scan_rests_then g.S.PageStore g.met.S.PageStore.laws session range given answer before begun last c.args.self.now start history calls begins nexts next honest fits
