use Rattle.page_store.proofs.Quieting.{quiet_same}
use Rattle.page_store.proofs.logged_pages.LoggedPages.flush.Goals as goal

pub returns-then-is_stopped-clause-quiet : goal.returns-then-is_stopped-clause-quiet
returns-then-is_stopped-clause-quiet g c = quiet_same g.D.Device c.args.self.now

pub returns-in_default-clause-quiet : goal.returns-in_default-clause-quiet
returns-in_default-clause-quiet g c = quiet_same g.D.Device c.args.self.now
