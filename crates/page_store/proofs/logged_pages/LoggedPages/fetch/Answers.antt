use Rattle.std.proofs.Common.{◌≡◌, ℕ, None, subst, ap, ◌∙◌}
use Rattle.buffer_pool.specs.Pools.{IsPut, frame_of, pool_blocks}
use Rattle.page_store.proofs.Imports.{Pool, IsSameButWritten, CostsFrame, GetsFrame}
use Rattle.page_store.proofs.Costing.{changes_same, none_of, costs_on, gets_none, gets_one}
use Rattle.page_store.proofs.Frames.{kept_put}
use Rattle.page_store.proofs.Quieting.{quiet_same, quiet_both}
use Rattle.page_store.proofs.logged_pages.LoggedPages.fetch.Given.{Over}
use Rattle.page_store.proofs.logged_pages.LoggedPages.fetch.Goals.{After-read, After-put}
use Rattle.page_store.proofs.logged_pages.LoggedPages.fetch.Goals as goal

-- a frame is had, and the page was read or not
read : (g : Over) (c : After-read g) → IsSameButWritten g.D.Device c.args.self.now c.read.new.self
read g c = quiet_both g.D.Device c.args.self.now c.free_frame.new.self c.read.new.self c.free_frame.ensures.quiet c.read.ensures.quiet

-- no frame held it
none : (g : Over) (c : After-read g) → frame_of c.args.self.now.pool c.args.block ≡ None
none g c = none_of (frame_of c.args.self.now.pool c.args.block) c.holds.result c.holds.ensures c.if-holds.false

cost_read : (g : Over) (c : After-read g) → CostsFrame g.D.Device c.args.pinned.now c.args.self.now c.read.new.self
cost_read g c =
    let r = c.read.ensures in
    costs_on g.D.Device c.args.pinned.now c.args.self.now c.free_frame.new.self c.read.new.self c.free_frame.ensures.cost (changes_same c.free_frame.new.self.pool c.read.new.self.pool r.pool)
    (record { log = r.log; durable = r.durable; room = r.room }) r.quiet.promised

put_there : (g : Over) (c : After-put g) → IsPut c.free_frame.new.self.pool c.put.new.self.pool c.in_ok-at.at c.read.new.self.decoded.value
put_there g c = subst (λ (p : Pool). IsPut p c.put.new.self.pool c.in_ok-at.at c.read.new.self.decoded.value) c.read.ensures.pool c.put.ensures.pool

pub returns-in_err-read-clause-quiet : goal.returns-in_err-read-clause-quiet
returns-in_err-read-clause-quiet g c = read g (goal.at.returns-in_err-read-clause-quiet g c).After-read

pub returns-in_err-read-clause-frame : goal.returns-in_err-read-clause-frame
returns-in_err-read-clause-frame g c =
    let here = (goal.at.returns-in_err-read-clause-frame g c).After-read in
    gets_none g.D.Device c.args.pinned.now c.args.block c.args.self.now c.read.new.self c.law.ensures (none g here) (cost_read g here)
    (ap pool_blocks c.read.ensures.pool ∙ c.free_frame.ensures.same.blocks)

pub returns-clause-quiet : goal.returns-clause-quiet
returns-clause-quiet g c =
    quiet_both g.D.Device c.args.self.now c.read.new.self c.put.new.self (read g (goal.at.returns-clause-quiet g c).After-read) c.put.ensures.quiet

pub returns-clause-kept : goal.returns-clause-kept
returns-clause-kept g c =
    kept_put c.args.self.now.pool c.free_frame.new.self.pool c.put.new.self.pool c.args.pinned.now c.in_ok-at.at c.read.new.self.decoded.value c.free_frame.ensures.same c.in_ok-at.ensures.unpinned
    (put_there g (goal.at.returns-clause-kept g c).After-put)

pub returns-then-holds-clause-quiet : goal.returns-then-holds-clause-quiet
returns-then-holds-clause-quiet g c = quiet_same g.D.Device c.args.self.now

pub returns-clause-frame : goal.returns-clause-frame
returns-clause-frame g c =
    let here = goal.at.returns-clause-frame g c in
    let page = c.read.new.self.decoded.value in
    let is : page.block ≡ c.args.block = c.in_ok-read.ensures.stored.block_is in
    let p = c.put.ensures in
    let cost = costs_on g.D.Device c.args.pinned.now c.args.self.now c.read.new.self c.put.new.self (cost_read g here.After-read) p.pool.changes
    (record { log = p.log; durable = p.durable; room = p.room }) p.quiet.promised in
    subst (λ (b : ℕ). GetsFrame g.D.Device c.args.pinned.now b c.args.self.now c.put.new.self) is
    (gets_one g.D.Device c.args.pinned.now c.in_ok-at.at c.args.self.now c.free_frame.new.self c.put.new.self page c.law.ensures (ap (frame_of c.args.self.now.pool) is ∙ none g here.After-read)
    c.free_frame.ensures.same c.in_ok-at.ensures.free c.in_ok-at.ensures.unpinned c.in_ok-at.ensures.unused (put_there g here.After-put) cost)
