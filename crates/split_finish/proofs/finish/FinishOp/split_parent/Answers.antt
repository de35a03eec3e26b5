use Rattle.std.proofs.Common.{sym, subst}
use Rattle.split_finish.proofs.Imports.{Page, State, IsLater, MeetsParent, finish_blocks, frames_of, takes_block_of, splits_root_of}
use Rattle.split_finish.proofs.Needs.{needs_frame}
use Rattle.split_finish.proofs.Parting.{beside_parent}
use Rattle.split_finish.proofs.Standing.{has_room}
use Rattle.split_finish.proofs.Stepping.{acts_not, after_more, still_meets}
use Rattle.split_finish.proofs.finish.FinishOp.split_parent.Goals as goal

pub split_beside-requires-clause-meets : goal.split_beside-requires-clause-meets
split_beside-requires-clause-meets g c =
    let later : IsLater (g.S.PageStore.backing c.args.store.now) (g.S.PageStore.backing c.read_right.new.store) =
    g.met.S.PageStore.laws.follows_later _ _ (c.read_right.ensures.steps _ (g.met.S.PageStore.laws.follows_same _)) in
    subst (λ (page : Page).
    MeetsParent (g.S.PageStore.state c.read_right.new.store) (g.S.PageStore.backing c.read_right.new.store).honest c.args.self.now page c.copy-in-Ok.result) (sym c.copy.ensures)
    (subst (λ (parent : Page).
    MeetsParent (g.S.PageStore.state c.read_right.new.store) (g.S.PageStore.backing c.read_right.new.store).honest c.args.self.now c.args.page.now parent) (sym c.copy-in-Ok.ensures)
    (still_meets (g.S.PageStore.state c.args.store.now) (g.S.PageStore.state c.read_right.new.store) (g.S.PageStore.backing c.args.store.now) (g.S.PageStore.backing c.read_right.new.store)
    c.args.self.now c.args.page.now c.args.parent.now c.read_right.ensures.state later.honest c.requires.meets))

pub returns-after-is_there-clause-all : goal.returns-after-is_there-clause-all
returns-after-is_there-clause-all g c =
    let later : IsLater (g.S.PageStore.backing c.args.store.now) (g.S.PageStore.backing c.read_right.new.store) =
    g.met.S.PageStore.laws.follows_later _ _ (c.read_right.ensures.steps _ (g.met.S.PageStore.laws.follows_same _)) in
    after_more g.S.PageStore c.args.self.now c.split_beside.new.self c.args.store.now c.read_right.new.store c.split_beside.new.store c.split_beside.result
    (record {
      steps = c.read_right.ensures.steps;
      same = c.read_right.ensures.state;
      failures = later.failures;
      alive = c.in-Ok.ensures.alive;
      promised = c.read_right.ensures.room.promised;
    })
    c.split_beside.ensures.all

pub returns-in-Err-clause-all : goal.returns-in-Err-clause-all
returns-in-Err-clause-all g c =
    let op = c.args.self.now in
    let st : State = g.S.PageStore.state c.args.store.now in
    let later : IsLater (g.S.PageStore.backing c.args.store.now) (g.S.PageStore.backing c.read_right.new.store) =
    g.met.S.PageStore.laws.follows_later _ _ (c.read_right.ensures.steps _ (g.met.S.PageStore.laws.follows_same _)) in
    acts_not g.S.PageStore op c.args.store.now c.read_right.new.store c.in-Err.fault c.read_right.ensures.steps c.read_right.ensures.state
    (λ honest order fits.
    let beside = beside_parent st op.session (g.S.PageStore.backing c.args.store.now).honest op c.requires.meets.position c.args.page.now c.args.parent.now
    order fits c.requires.meets.at (later.honest honest) c.requires.meets.read c.requires.meets.read_parent c.requires.meets.ready in
    c.in-Err.ensures.cause honest (has_room st op fits) beside.mendable
    (finish_blocks st op.target op.at) (frames_of st op.target op.at) (takes_block_of st op.target op.at) (splits_root_of st op.target op.at) (needs_frame st op.target op.at))
