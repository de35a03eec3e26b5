use Rattle.std.proofs.Common.{◌≡◌, Bool, List, ℕ, sym, ap, subst, ◌∙◌}
use Rattle.page_store.proofs.Imports.{is_stopped, backing_of, held_of, memory_in, state_of, held_by, FetchFails, GetsFrame, pinned_blocks, has_block}
use Rattle.page_store.proofs.Costing.{same_memory, backing_same, gets_from, gets_there}
use Rattle.page_store.proofs.Causes.{fetch_cause}
use Rattle.page_store.proofs.FollowLaws.{follows_both}
use Rattle.page_store.proofs.Frames.{if_err_map}
use Rattle.page_store.proofs.Ordering.{part_same}
use Rattle.page_store.proofs.Quieting.{quiet_both}
use Rattle.buffer_pool.specs.Pools.{changed_of}
use Rattle.page_store.proofs.store.StorePageStore.fetch.Given.{Over}
use Rattle.page_store.proofs.store.StorePageStore.fetch.Goals.{After-note_use}
use Rattle.page_store.proofs.store.StorePageStore.fetch.Goals as goal

pub returns-then-block-self-clause-order : goal.returns-then-block-self-clause-order
returns-then-block-self-clause-order g c = part_same (changed_of c.args.self.now.held.pool)

pub returns-clause-steps : goal.returns-clause-steps
returns-clause-steps g c = λ first before.
    follows_both _ (held_by g.D.Device c.args.self.now) _ before
    (quiet_both g.D.Device c.args.self.now.held c.note_use.new.self c.fetch.new.self c.note_use.ensures.quiet c.fetch.ensures.quiet).follows

pub returns-clause-cause : goal.returns-clause-cause
returns-clause-cause g c =
    let store = c.args.self.now in
    let looked = c.note_use.new.self in
    let old = backing_of (held_by g.D.Device store) in
    let new = backing_of (held_of g.D.Device c.fetch.new.self) in
    if_err_map c.fetch.result _ _ c.fetch.ensures.cause
    (λ e fails. fetch_cause (state_of g.D.Device store) old new looked.pool c.args.block e (sym c.note_use.ensures.same.most)
    (subst (λ (bs : List ℕ). FetchFails looked.pool bs old.stopped old.failures new.failures c.args.block new.honest e) (c.as_slice.ensures.value ∙ c.pinned-pinned.ensures)
    (subst (λ (n : ℕ). FetchFails looked.pool c.as_slice.result.now old.stopped n new.failures c.args.block new.honest e) (ap g.D.Device.failures c.note_use.ensures.device)
    (subst (λ (b : Bool). FetchFails looked.pool c.as_slice.result.now b (g.D.Device.failures looked.device) new.failures c.args.block new.honest e) (ap is_stopped c.note_use.ensures.log) fails))))

-- a look leaves the pages in memory, the log and the device
memory_looked : (g : Over) (c : After-note_use g) → memory_in c.note_use.new.self.pool ≡ memory_in c.args.self.now.held.pool
memory_looked g c = same_memory c.args.self.now.held.pool c.note_use.new.self.pool c.note_use.ensures.same c.note_use.ensures.changes

backing_looked : (g : Over) (c : After-note_use g) → backing_of (held_of g.D.Device c.note_use.new.self) ≡ backing_of (held_of g.D.Device c.args.self.now.held)
backing_looked g c =
    let l = c.note_use.ensures in
    backing_same g.D.Device c.args.self.now.held c.note_use.new.self l.changes.order l.log (ap g.D.Device.is_honest l.device) (ap g.D.Device.failures l.device) l.durable l.room l.quiet.promised

pub returns-then-note_use-clause-frame : goal.returns-then-note_use-clause-frame
returns-then-note_use-clause-frame g c =
    let here = (goal.at.returns-then-note_use-clause-frame g c).After-note_use in
    gets_there g.D.Device (pinned_blocks c.args.self.now.calls.table) c.args.block c.args.self.now.held c.note_use.new.self (memory_looked g here) (backing_looked g here)

pub returns-then-note_use-clause-in_memory : goal.returns-then-note_use-clause-in_memory
returns-then-note_use-clause-in_memory g c = ap (λ (bs : List ℕ). has_block bs c.args.block) c.note_use.ensures.same.blocks ∙ (sym c.note_use.ensures.there ∙ c.if-note_use.true)

pub returns-clause-frame : goal.returns-clause-frame
returns-clause-frame g c =
    let here = (goal.at.returns-clause-frame g c).After-note_use in
    subst (λ (bs : List ℕ). GetsFrame g.D.Device bs c.args.block c.args.self.now.held c.fetch.new.self) (c.as_slice.ensures.value ∙ c.pinned-pinned.ensures)
    (gets_from g.D.Device c.as_slice.result.now c.args.block c.args.self.now.held c.note_use.new.self c.fetch.new.self c.note_use.ensures.same.most
    (memory_looked g here) (backing_looked g here) c.fetch.ensures.frame)

pub returns-clause-in_memory : goal.returns-clause-in_memory
returns-clause-in_memory g c = c.fetch.ensures.there
