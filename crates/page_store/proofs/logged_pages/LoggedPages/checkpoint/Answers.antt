use Rattle.std.proofs.Common.{◌∙◌, sym, ap, subst}
use Rattle.buffer_pool.specs.Pools.{changed_of}
use Rattle.page_store.proofs.Imports.{Pool, IsRestOf, WaitsOn, waiting_blocks, Follows, held_of, backing_of}
use Rattle.page_store.proofs.FollowLaws.{follows_both}
use Rattle.page_store.proofs.Logging.{waits_same}
use Rattle.page_store.proofs.logged_pages.LoggedPages.checkpoint.Given.{Over}
use Rattle.page_store.proofs.logged_pages.LoggedPages.checkpoint.Goals.{After-write_all, After-close}
use Rattle.page_store.proofs.logged_pages.LoggedPages.checkpoint.Goals as goal

-- the acts are forced and their pages written
home_steps : (g : Over) (c : After-write_all g) → Follows (held_of g.D.Device c.args.self.now) (held_of g.D.Device c.write_all.new.self)
home_steps g c = follows_both _ (held_of g.D.Device c.force.new.self) _ c.force.ensures.steps c.write_all.ensures.steps

-- and the log is closed
close_steps : (g : Over) (c : After-close g) → Follows (held_of g.D.Device c.args.self.now) (held_of g.D.Device c.close.new.self)
close_steps g c =
    follows_both _ (held_of g.D.Device c.write_all.new.self) _ (home_steps g (goal.at.After-close g c).After-write_all) c.close.ensures.steps

pub returns-in_err-write_all-clause-steps : goal.returns-in_err-write_all-clause-steps
returns-in_err-write_all-clause-steps g c = home_steps g (goal.at.returns-in_err-write_all-clause-steps g c).After-write_all

pub returns-in_err-close-clause-steps : goal.returns-in_err-close-clause-steps
returns-in_err-close-clause-steps g c = close_steps g (goal.at.returns-in_err-close-clause-steps g c).After-close

pub returns-clause-steps : goal.returns-clause-steps
returns-clause-steps g c = close_steps g (goal.at.returns-clause-steps g c).After-close

-- no page was written, or some first ones
home_rest : (g : Over) (c : After-write_all g) → IsRestOf (changed_of c.write_all.new.self.pool) (changed_of c.args.self.now.pool)
home_rest g c = subst (λ (p : Pool). IsRestOf (changed_of c.write_all.new.self.pool) (changed_of p)) c.force.ensures.pool c.write_all.ensures.rest

close_rest : (g : Over) (c : After-close g) → IsRestOf (changed_of c.close.new.self.pool) (changed_of c.args.self.now.pool)
close_rest g c =
    subst (λ (p : Pool). IsRestOf (changed_of p) (changed_of c.args.self.now.pool)) (sym c.close.ensures.pool) (home_rest g (goal.at.After-close g c).After-write_all)

pub returns-in_err-acts-clause-rest : goal.returns-in_err-acts-clause-rest
returns-in_err-acts-clause-rest g c = record { written = 0; is = ap changed_of c.force.ensures.pool }

pub returns-in_err-write_all-clause-rest : goal.returns-in_err-write_all-clause-rest
returns-in_err-write_all-clause-rest g c = home_rest g (goal.at.returns-in_err-write_all-clause-rest g c).After-write_all

pub returns-in_err-close-clause-rest : goal.returns-in_err-close-clause-rest
returns-in_err-close-clause-rest g c = close_rest g (goal.at.returns-in_err-close-clause-rest g c).After-close

pub returns-clause-rest : goal.returns-clause-rest
returns-clause-rest g c = close_rest g (goal.at.returns-clause-rest g c).After-close

-- what waits in the log
home_waits : (g : Over) (c : After-write_all g) → WaitsOn c.args.self.now.acts (backing_of (held_of g.D.Device c.args.self.now)) (backing_of (held_of g.D.Device c.write_all.new.self))
home_waits g c =
    waits_same c.args.self.now.acts (backing_of (held_of g.D.Device c.args.self.now)) (backing_of (held_of g.D.Device c.force.new.self))
    (backing_of (held_of g.D.Device c.write_all.new.self)) c.force.ensures.waits (ap waiting_blocks c.write_all.ensures.log) c.write_all.ensures.durable

close_waits : (g : Over) (c : After-close g) → WaitsOn c.args.self.now.acts (backing_of (held_of g.D.Device c.args.self.now)) (backing_of (held_of g.D.Device c.close.new.self))
close_waits g c =
    waits_same c.args.self.now.acts (backing_of (held_of g.D.Device c.args.self.now)) (backing_of (held_of g.D.Device c.write_all.new.self))
    (backing_of (held_of g.D.Device c.close.new.self)) (home_waits g (goal.at.After-close g c).After-write_all) c.close.ensures.waiting c.close.ensures.durable

pub returns-in_err-write_all-clause-waits : goal.returns-in_err-write_all-clause-waits
returns-in_err-write_all-clause-waits g c = home_waits g (goal.at.returns-in_err-write_all-clause-waits g c).After-write_all

pub returns-in_err-close-clause-waits : goal.returns-in_err-close-clause-waits
returns-in_err-close-clause-waits g c = close_waits g (goal.at.returns-in_err-close-clause-waits g c).After-close

pub returns-clause-waits : goal.returns-clause-waits
returns-clause-waits g c = close_waits g (goal.at.returns-clause-waits g c).After-close

pub returns-clause-none : goal.returns-clause-none
returns-clause-none g c = c.close.ensures.waiting ∙ (ap waiting_blocks c.write_all.ensures.log ∙ c.in_ok-acts.ensures.none)
