use Rattle.std.proofs.Common.{◌≡◌, ◌<◌, ◌≤◌, ◌∙◌, ℕ, true, false, sym, ap, subst}
use Rattle.buffer_pool.specs.Pools.{act_of, changed_of}
use Rattle.page_store.proofs.Imports.{has_block, Pool, IsSameButWritten, LogStays, held_of, backing_of, CostsFrame}
use Rattle.page_store.proofs.Costing.{stays, stays_both, over_failed, over_written}
use Rattle.page_store.proofs.Pooling.{changed_at, same_block}
use Rattle.page_store.proofs.Quieting.{quiet_both}
use Rattle.page_store.proofs.logged_pages.LoggedPages.free_frame.Given.{Over}
use Rattle.page_store.proofs.logged_pages.LoggedPages.free_frame.Goals.{After-write_over, After-write_ahead}
use Rattle.page_store.proofs.logged_pages.LoggedPages.free_frame.Goals as goal

pub write_over-requires-clause-changed : goal.write_over-requires-clause-changed
write_over-requires-clause-changed g c =
    let oldest = c.in-Oldest.ensures.choice in
    subst (λ (n : ℕ). 0 < n) (sym oldest.changed) (changed_at c.choose-choice.new.self.pool c.law.ensures c.in-Oldest.place c.in-Oldest.block oldest.at)

-- the first one was written or not
first : (g : Over) (c : After-write_over g) → IsSameButWritten g.D.Device c.args.self.now c.write_over.new.self
first g c = quiet_both g.D.Device c.args.self.now c.choose-choice.new.self c.write_over.new.self c.choose-choice.ensures.quiet c.write_over.ensures.quiet

-- it was, and some after it
ahead : (g : Over) (c : After-write_ahead g) → IsSameButWritten g.D.Device c.args.self.now c.write_ahead.new.self
ahead g c =
    quiet_both g.D.Device c.args.self.now c.write_over.new.self c.write_ahead.new.self
    (quiet_both g.D.Device c.args.self.now c.choose-choice.new.self c.write_over.new.self c.choose-choice.ensures.quiet c.write_over.ensures.quiet)
    c.write_ahead.ensures.quiet

-- if the act of the first one is durable, the log isn't forced for it
stays_first : (g : Over) (c : After-write_over g) → c.in-Oldest.act ≤ c.args.self.now.durable
    → LogStays (backing_of (held_of g.D.Device c.args.self.now)) (backing_of (held_of g.D.Device c.write_over.new.self))
stays_first g c early =
    let chosen = c.choose-choice in
    stays_both g.D.Device c.args.self.now chosen.new.self c.write_over.new.self
    (stays g.D.Device c.args.self.now chosen.new.self (record { log = chosen.ensures.log; durable = chosen.ensures.durable; room = chosen.ensures.room }) chosen.ensures.quiet.promised)
    (stays g.D.Device chosen.new.self c.write_over.new.self
    (c.write_over.ensures.forced (subst (λ (n : ℕ). c.in-Oldest.act ≤ n) (sym chosen.ensures.durable) early)) c.write_over.ensures.quiet.promised)

over : (g : Over) (c : After-write_ahead g) → CostsFrame g.D.Device c.args.pinned.now c.args.self.now c.write_ahead.new.self
over g c =
    let chosen = c.choose-choice in
    let ahead = c.write_ahead.ensures in
    over_written g.D.Device c.args.pinned.now c.args.self.now chosen.new.self c.write_ahead.new.self c.in-Oldest.place c.in-Oldest.block c.in-Oldest.act
    chosen.ensures.same chosen.ensures.changes c.in-Oldest.ensures.choice c.law.ensures
    (λ early. stays_both g.D.Device c.args.self.now c.write_over.new.self c.write_ahead.new.self (stays_first g (goal.at.After-write_ahead g c).After-write_over early)
    (stays g.D.Device c.write_over.new.self c.write_ahead.new.self (record { log = ahead.log; durable = ahead.durable; room = ahead.room }) ahead.quiet.promised))
    c.write_over.new.self c.in_ok-at-in-Oldest.ensures.order c.write_over.ensures.same.most c.in_ok-at-in-Oldest.ensures.acts ahead.ahead ahead.durable

pub returns-in_err-at-in-Oldest-clause-cost : goal.returns-in_err-at-in-Oldest-clause-cost
returns-in_err-at-in-Oldest-clause-cost g c =
    let chosen = c.choose-choice in
    let same = c.in_err-at-in-Oldest.ensures.refused in
    over_failed g.D.Device c.args.pinned.now c.args.self.now chosen.new.self c.write_over.new.self c.in-Oldest.place c.in-Oldest.block c.in-Oldest.act
    chosen.ensures.same chosen.ensures.changes c.in-Oldest.ensures.choice c.law.ensures
    (stays_first g (goal.at.returns-in_err-at-in-Oldest-clause-cost g c).After-write_over)
    (ap changed_of same) (λ b. ap (λ (p : Pool). act_of p b) same)

pub returns-in_err-at-in-Oldest-clause-quiet : goal.returns-in_err-at-in-Oldest-clause-quiet
returns-in_err-at-in-Oldest-clause-quiet g c = first g (goal.at.returns-in_err-at-in-Oldest-clause-quiet g c).After-write_over

pub returns-in_err-write_ahead-in-Oldest-clause-quiet : goal.returns-in_err-write_ahead-in-Oldest-clause-quiet
returns-in_err-write_ahead-in-Oldest-clause-quiet g c = ahead g (goal.at.returns-in_err-write_ahead-in-Oldest-clause-quiet g c).After-write_ahead

pub returns-in_err-write_ahead-in-Oldest-clause-cost : goal.returns-in_err-write_ahead-in-Oldest-clause-cost
returns-in_err-write_ahead-in-Oldest-clause-cost g c = over g (goal.at.returns-in_err-write_ahead-in-Oldest-clause-cost g c).After-write_ahead

pub returns-in_ok-write_ahead-in-Oldest-clause-quiet : goal.returns-in_ok-write_ahead-in-Oldest-clause-quiet
returns-in_ok-write_ahead-in-Oldest-clause-quiet g c = ahead g (goal.at.returns-in_ok-write_ahead-in-Oldest-clause-quiet g c).After-write_ahead

pub returns-in_ok-write_ahead-in-Oldest-clause-cost : goal.returns-in_ok-write_ahead-in-Oldest-clause-cost
returns-in_ok-write_ahead-in-Oldest-clause-cost g c = over g (goal.at.returns-in_ok-write_ahead-in-Oldest-clause-cost g c).After-write_ahead

pub returns-in_ok-write_ahead-in-Oldest-clause-unpinned : goal.returns-in_ok-write_ahead-in-Oldest-clause-unpinned
returns-in_ok-write_ahead-in-Oldest-clause-unpinned g c = λ block pinned e.
    let pool = c.choose-choice.new.self.pool in
    let oldest = c.in-Oldest.ensures.choice in
    let there = c.choose-choice.ensures.same.places block ∙ e in
    let same : c.in-Oldest.block ≡ block = same_block pool c.law.ensures block c.in-Oldest.block c.in_ok-at-in-Oldest.at there c.in_ok-at-in-Oldest.ensures.frame
    (changed_at pool c.law.ensures c.in-Oldest.place c.in-Oldest.block oldest.at) in
    (let both : true ≡ false = sym pinned ∙ (ap (has_block c.args.pinned.now) (sym same) ∙ oldest.unpinned) in cc)
