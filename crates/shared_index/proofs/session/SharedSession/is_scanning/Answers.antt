use Rattle.std.proofs.Common.{◌∙◌, sym}
use Rattle.shared_index.proofs.Batches.{scan_is_open}
use Rattle.shared_index.proofs.session.SharedSession.is_scanning.Goals as goal

pub returns-clause-open : goal.returns-clause-open
returns-clause-open g c = λ yes. let self = c.args.self.now in scan_is_open self.scan self.seat self.scans self.there (sym c.is_some.ensures ∙ yes)
