use Rattle.page_store.proofs.Imports.{held_by, crash_restarts, pages_were, left_now}
use Rattle.page_store.proofs.store.Store.crash_law.Goals as goal

pub returns-clause-restarts : goal.returns-clause-restarts
returns-clause-restarts g c = λ first image own follows left.
    crash_restarts first (held_by g.D.Device c.args.self.now) own follows c.args.self.now.held.format image c.args.self.now.held.log_format left

pub returns-clause-pages : goal.returns-clause-pages
returns-clause-pages g c = λ first own follows. pages_were first (held_by g.D.Device c.args.self.now) own follows

pub returns-clause-own : goal.returns-clause-own
returns-clause-own g c = λ first own follows. (follows.grows own).own

pub returns-clause-now : goal.returns-clause-now
returns-clause-now g c = λ image may. left_now (held_by g.D.Device c.args.self.now) image may
