use Rattle.std.proofs.Common.{ℕ, List, ◌++◌, ap, subst, ◌∙◌}
use Rattle.buffer_pool.specs.Pools.{most_of}
use Rattle.page_store.proofs.Imports.{pinned_blocks, blocks_of, takes_none, held_of, backing_of, memory_in, GetFrames}
use Rattle.page_store.proofs.Frames.{own_pinned}
use Rattle.page_store.proofs.Quieting.{quiet_same}
use Rattle.page_store.proofs.store.Store.take_frames.Goals as goal

pub take_frames-requires-clause-pinned : goal.take_frames-requires-clause-pinned
take_frames-requires-clause-pinned g c =
    own_pinned c.args.pages.now c.pinned.result.items c.as_slice.result.now (c.as_slice.ensures.value ∙ c.with_blocks-pinned.ensures)

pub returns-then-holds_all-clause-quiet : goal.returns-then-holds_all-clause-quiet
returns-then-holds_all-clause-quiet g c = quiet_same g.D.Device c.args.self.now.held

pub returns-then-holds_all-clause-frames : goal.returns-then-holds_all-clause-frames
returns-then-holds_all-clause-frames g c =
    let held = c.args.self.now.held in
    let blocks = blocks_of c.args.pages.now in
    takes_none (most_of held.pool) (blocks ++ pinned_blocks c.args.self.now.calls.table) blocks (memory_in held.pool) (backing_of (held_of g.D.Device held))

pub returns-clause-frames : goal.returns-clause-frames
returns-clause-frames g c =
    subst (λ (bs : List ℕ). GetFrames g.D.Device bs (blocks_of c.args.pages.now) c.args.self.now.held c.take_frames.new.self)
    (c.as_slice.ensures.value ∙ (c.with_blocks-pinned.ensures ∙ ap (λ (bs : List ℕ). blocks_of c.args.pages.now ++ bs) c.pinned.ensures)) c.take_frames.ensures.frames
