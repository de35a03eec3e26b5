use Rattle.page_store.specs.Quiet.{IsSameButWritten}
use Rattle.page_store.proofs.Quieting.{quiet_same, quiet_both, quiet_device}
use Rattle.page_store.proofs.logged_pages.LoggedPages.write_next.Given.{Over}
use Rattle.page_store.proofs.logged_pages.LoggedPages.write_next.Goals.{After-write_home}
use Rattle.page_store.proofs.logged_pages.LoggedPages.write_next.Goals as goal

-- the page was written or not
tried : (g : Over) (c : After-write_home g) → IsSameButWritten g.D.Device c.args.self.now c.write_home.new.self
tried g c = quiet_device g.D.Device c.args.self.now c.write_home.new.self c.write_home.ensures.steps c.write_home.ensures.same

pub returns-in_default-clause-quiet : goal.returns-in_default-clause-quiet
returns-in_default-clause-quiet g c = quiet_same g.D.Device c.args.self.now

pub returns-then-act-self-clause-quiet : goal.returns-then-act-self-clause-quiet
returns-then-act-self-clause-quiet g c = quiet_same g.D.Device c.args.self.now

pub returns-in_err-write_home-clause-quiet : goal.returns-in_err-write_home-clause-quiet
returns-in_err-write_home-clause-quiet g c = tried g (goal.at.returns-in_err-write_home-clause-quiet g c).After-write_home

pub returns-clause-quiet : goal.returns-clause-quiet
returns-clause-quiet g c =
    quiet_both g.D.Device c.args.self.now c.write_home.new.self c.note_written.new.self (tried g (goal.at.returns-clause-quiet g c).After-write_home) c.note_written.ensures.quiet
