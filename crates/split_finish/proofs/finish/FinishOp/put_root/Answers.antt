use Rattle.std.proofs.Common.{◌≡◌, Bool, true, sym, ap, subst, ◌∙◌}
use Rattle.split_finish.proofs.Imports.{HasCause, Backing, causes_of_working, finish_blocks, frames_of, takes_block_of, splits_root_of}
use Rattle.split_finish.proofs.Needs.{to_grow}
use Rattle.split_finish.proofs.Standing.{has_room}
use Rattle.split_finish.proofs.Stepping.{acts_not}
use Rattle.split_finish.proofs.finish.FinishOp.put_root.Goals as goal

pub returns-in-Err-clause-all : goal.returns-in-Err-clause-all
returns-in-Err-clause-all g c =
    acts_not g.S.PageStore c.args.self.now c.args.store.now c.take_block.new.store c.in-Err.fault c.take_block.ensures.steps c.take_block.ensures.state
    (λ honest order fits.
    let op = c.args.self.now in
    let st = g.S.PageStore.state c.args.store.now in
    let first = g.S.PageStore.backing c.args.store.now in
    let third = g.S.PageStore.backing c.take_block.new.store in
    let sound = subst (λ (b : Backing). b.honest ≡ true) c.take_block.ensures.backing honest in
    let grows = to_grow st op c.args.meta c.args.page (c.requires.meets.read_meta.found sound) (c.requires.meets.read.found sound) c.requires.meets.ready in
    let takes : takes_block_of st op.target op.at ≡ true = ap (takes_block_of st op.target) c.requires.meets.at ∙ grows in
    subst (λ (b : Bool).
    HasCause (causes_of_working st first third op.session (finish_blocks st op.target op.at) (frames_of st op.target op.at) b (splits_root_of st op.target op.at)) c.in-Err.fault) (sym takes)
    (c.in-Err.ensures.cause (has_room st op fits) (finish_blocks st op.target op.at) (frames_of st op.target op.at) (splits_root_of st op.target op.at)))
