use Rattle.std.proofs.Common.{true, sym, ◌∙◌}
use Rattle.split_finish.proofs.Imports.{IsLater, place_inside, finish_blocks, frames_of, takes_block_of, splits_root_of}
use Rattle.split_finish.proofs.Needs.{needs_frame}
use Rattle.split_finish.proofs.Standing.{meta_inside, has_room}
use Rattle.split_finish.proofs.Stepping.{refuses, follows_read}
use Rattle.split_finish.proofs.finish.FinishOp.grow.Goals as goal

pub returns-in-Ok-clause-all : goal.returns-in-Ok-clause-all
returns-in-Ok-clause-all g c =
    let later : IsLater (g.S.PageStore.backing c.args.store.now) (g.S.PageStore.backing c.read_both.new.store) =
    g.met.S.PageStore.laws.follows_later _ _ (c.read_both.ensures.steps _ (g.met.S.PageStore.laws.follows_same _)) in
    follows_read g.S.PageStore c.args.self.now c.grow_over.new.self c.args.store.now c.read_both.new.store c.grow_over.new.store c.grow_over.result
    (record {
      steps = c.read_both.ensures.steps;
      same = c.read_both.ensures.state;
      failures = later.failures;
      alive = c.in-Ok.ensures.alive;
      promised = c.read_both.ensures.room.promised;
    })
    (λ h. (let k = sym c.in-Ok.is ∙ c.read_both.ensures.stopped h in cc))
    c.grow_over.ensures.all

pub returns-in-Err-clause-all : goal.returns-in-Err-clause-all
returns-in-Err-clause-all g c =
    let op = c.args.self.now in
    let st = g.S.PageStore.state c.args.store.now in
    refuses g.S.PageStore op c.args.store.now c.read_both.new.store c.in-Err.fault c.read_both.ensures.steps c.read_both.ensures.state
    (λ h. (let k = sym c.in-Err.is ∙ c.read_both.ensures.stopped h in cc))
    (λ honest order fits.
    c.in-Err.ensures.cause honest (has_room st op fits) (meta_inside st order.tree)
    (place_inside st fits.start op.target.level _ true op.target.block order.tree fits.newest.place)
    (finish_blocks st op.target op.at) (frames_of st op.target op.at) (takes_block_of st op.target op.at) (splits_root_of st op.target op.at) (needs_frame st op.target op.at))
