use Rattle.page_store.specs.Quiet.{IsSameButWritten}
use Rattle.page_store.proofs.Quieting.{quiet_both, quiet_device}
use Rattle.page_store.proofs.logged_pages.LoggedPages.write_changed.Given.{Over}
use Rattle.page_store.proofs.logged_pages.LoggedPages.write_changed.Goals.{After-write_home}
use Rattle.page_store.proofs.logged_pages.LoggedPages.write_changed.Goals as goal

-- the acts are durable, and the page was written or not
written : (g : Over) (c : After-write_home g) → IsSameButWritten g.D.Device c.args.self.now c.write_home.new.self
written g c =
    quiet_both g.D.Device c.args.self.now c.make_durable.new.self c.write_home.new.self c.make_durable.ensures.quiet
    (quiet_device g.D.Device c.make_durable.new.self c.write_home.new.self c.write_home.ensures.steps c.write_home.ensures.same)

pub returns-in_err-write_home-clause-quiet : goal.returns-in_err-write_home-clause-quiet
returns-in_err-write_home-clause-quiet g c = written g (goal.at.returns-in_err-write_home-clause-quiet g c).After-write_home

pub returns-clause-quiet : goal.returns-clause-quiet
returns-clause-quiet g c =
    quiet_both g.D.Device c.args.self.now c.write_home.new.self c.note_written.new.self (written g (goal.at.returns-clause-quiet g c).After-write_home) c.note_written.ensures.quiet
