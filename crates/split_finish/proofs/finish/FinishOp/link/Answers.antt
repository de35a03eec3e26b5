use Rattle.std.proofs.Common.{arith, ◌≡◌, true, List, length, sym, subst, ◌∙◌}
use Rattle.split_finish.proofs.Imports.{Page, State, IsLater, place_inside, FinishStands, finish_blocks, frames_of, takes_block_of, splits_root_of, IsReadToChange}
use Rattle.split_finish.proofs.InPlace.{two_put}
use Rattle.split_finish.proofs.Needs.{needs_frame}
use Rattle.split_finish.proofs.Standing.{has_room}
use Rattle.split_finish.proofs.Stepping.{refuses, follows_read}
use Rattle.split_finish.proofs.finish.FinishOp.link.Goals as goal

pub link_to-requires-clause-read : goal.link_to-requires-clause-read
link_to-requires-clause-read g c =
    let op = c.args.self.now in
    let front : List Page = c.split_at_mut-front.result.0.now in
    let back : List Page = c.split_at_mut-front.result.1.now in
    let page : Page = c.read_both.new.page in
    let parent : Page = c.read_both.new.other in
    let one : length front ≡ 1 = c.split_at_mut-front.ensures.front_len in
    let two : length back ≡ 2 = (let b = c.split_at_mut-front.ensures.back_len in let t = c.told-pages in omega arith) in
    let both = two_put front back parent page one two in
    record {
      parent = parent;
      page = page;
      rest = both.0;
      pages_are = both.1;
      read = subst (λ (s : State). IsReadToChange s (g.S.PageStore.backing c.read_both.new.store).honest op.session op.target.block page) (sym c.read_both.ensures.state) (record {
        found = λ honest. (c.in-Ok.ensures.pages honest).0;
        stored = c.in-Ok.ensures.stored.0;
        free = c.in-Ok.ensures.free.0;
      });
      read_parent = subst (λ (s : State). IsReadToChange s (g.S.PageStore.backing c.read_both.new.store).honest op.session c.args.position.block parent) (sym c.read_both.ensures.state) (record {
        found = λ honest. (c.in-Ok.ensures.pages honest).1;
        stored = c.in-Ok.ensures.stored.1;
        free = c.in-Ok.ensures.free.1;
      });
    }

pub returns-in-Ok-clause-all : goal.returns-in-Ok-clause-all
returns-in-Ok-clause-all g c =
    let later : IsLater (g.S.PageStore.backing c.args.store.now) (g.S.PageStore.backing c.read_both.new.store) =
    g.met.S.PageStore.laws.follows_later _ _ (c.read_both.ensures.steps _ (g.met.S.PageStore.laws.follows_same _)) in
    follows_read g.S.PageStore c.args.self.now c.link_to.new.self c.args.store.now c.read_both.new.store c.link_to.new.store c.link_to.result
    (record {
      steps = c.read_both.ensures.steps;
      same = c.read_both.ensures.state;
      failures = later.failures;
      alive = c.in-Ok.ensures.alive;
      promised = c.read_both.ensures.room.promised;
    })
    (λ h. (let k = sym c.in-Ok.is ∙ c.read_both.ensures.stopped h in cc))
    c.link_to.ensures.all

pub returns-in-Err-clause-all : goal.returns-in-Err-clause-all
returns-in-Err-clause-all g c =
    let op = c.args.self.now in
    let st = g.S.PageStore.state c.args.store.now in
    refuses g.S.PageStore op c.args.store.now c.read_both.new.store c.in-Err.fault c.read_both.ensures.steps c.read_both.ensures.state
    (λ h. (let k = sym c.in-Err.is ∙ c.read_both.ensures.stopped h in cc))
    (λ honest order fits.
    let stands = subst (FinishStands st fits.start op.target) c.requires fits.stands in
    c.in-Err.ensures.cause honest (has_room st op fits) (place_inside st fits.start op.target.level _ true op.target.block order.tree fits.newest.place)
    (place_inside st fits.start c.args.position.level _ true c.args.position.block order.tree stands.1.place)
    (finish_blocks st op.target op.at) (frames_of st op.target op.at) (takes_block_of st op.target op.at) (splits_root_of st op.target op.at) (needs_frame st op.target op.at))
