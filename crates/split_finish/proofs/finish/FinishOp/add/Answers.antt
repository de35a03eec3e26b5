use Rattle.std.proofs.Common.{List, map, take, slice_set, sym, ap, ◌∙◌}
use Rattle.split_finish.proofs.Imports.{Page, State, IsLater, finish_blocks, two_are}
use Rattle.split_finish.proofs.Doing.{acts_done, act_refused, popped_session}
use Rattle.split_finish.proofs.InPlace.{linked_there}
use Rattle.split_finish.proofs.Needs.{roomy_link}
use Rattle.split_finish.proofs.Linking.{links, may_link_all}
use Rattle.split_finish.proofs.finish.FinishOp.add.Goals as goal

pub returns-in-Ok-clause-all : goal.returns-in-Ok-clause-all
returns-in-Ok-clause-all g c =
    let op = c.args.self.now in
    let st : State = g.S.PageStore.state c.args.store.now in
    let have = c.requires.room in
    let ready = have.are in
    let meets = ready.meets in
    let put = c.add_link.ensures in
    let clear = c.clear_split.ensures in
    let later : IsLater (g.S.PageStore.backing c.args.store.now) (g.S.PageStore.backing c.act_on.new.store) =
    g.met.S.PageStore.laws.follows_later _ _ (c.act_on.ensures.steps _ (g.met.S.PageStore.laws.follows_same _)) in
    let linked = linked_there c.args.pages.now ready.parent ready.page ready.rest c.index-pages-0.result c.index-pages-1.result c.add_link.new.page
    c.clear_split.new.page op.target.separator c.args.at c.args.new
    ready.pages_are have.place
    (record { added = put.added; node_is = put.node; layout_is = ap (λ (p : Page). p.layout) put.only; block_is = put.block; count = put.count; internal = put.still_internal; admitted = put.page })
    (record { only = clear.only; after_is = clear.node; block_is = ap (λ (p : Page). p.block) clear.only }) clear.page in
    let changed : List Page = take 2 (slice_set (slice_set c.args.pages.now 0 c.add_link.new.page) 1 c.clear_split.new.page) in
    acts_done g.S.PageStore op c.pop.new.self c.args.store.now c.act_on.new.store c.pop.result changed c.act_on.ensures.steps c.in-Ok.ensures.done
    (popped_session op c.pop.new.self c.pop.result c.pop.ensures)
    (λ honest order fits. links st op (g.S.PageStore.backing c.args.store.now).honest meets.position ready.page ready.parent c.args.new changed order fits (later.honest honest)
    meets.at meets.read meets.read_parent meets.ready have.right (g.met.S.PageStore.laws.few c.args.store.now) have.room linked
    (g.S.PageStore.backing c.args.store.now) (g.S.PageStore.backing c.act_on.new.store) c.pop.new.self c.pop.result c.pop.ensures)

pub returns-in-Err-clause-all : goal.returns-in-Err-clause-all
returns-in-Err-clause-all g c =
    let op = c.args.self.now in
    let st : State = g.S.PageStore.state c.args.store.now in
    let have = c.requires.room in
    let ready = have.are in
    let meets = ready.meets in
    let put = c.add_link.ensures in
    let clear = c.clear_split.ensures in
    let later : IsLater (g.S.PageStore.backing c.args.store.now) (g.S.PageStore.backing c.act_on.new.store) =
    g.met.S.PageStore.laws.follows_later _ _ (c.act_on.ensures.steps _ (g.met.S.PageStore.laws.follows_same _)) in
    let are = linked_there c.args.pages.now ready.parent ready.page ready.rest c.index-pages-0.result c.index-pages-1.result c.add_link.new.page
    c.clear_split.new.page op.target.separator c.args.at c.args.new
    ready.pages_are have.place
    (record { added = put.added; node_is = put.node; layout_is = ap (λ (p : Page). p.layout) put.only; block_is = put.block; count = put.count; internal = put.still_internal; admitted = put.page })
    (record { only = clear.only; after_is = clear.node; block_is = ap (λ (p : Page). p.block) clear.only }) clear.page in
    let changed : List Page = take 2 (slice_set (slice_set c.args.pages.now 0 c.add_link.new.page) 1 c.clear_split.new.page) in
    act_refused g.S.PageStore op c.args.store.now c.act_on.new.store c.in-Err.fault changed c.act_on.ensures.steps c.in-Err.ensures.refused
    (λ honest.
    ap (map (λ (page : Page). page.block)) are.pages_are
    ∙ two_are are.parent_after.block are.page_after.block meets.position.block op.target.block (are.block_is ∙ meets.read_parent.stored.block_is) (are.clear.block_is ∙ meets.read.stored.block_is)
    ∙ sym (ap (finish_blocks st op.target) meets.at
    ∙ roomy_link st op meets.position ready.page ready.parent (meets.read.found (later.honest honest)) (meets.read_parent.found (later.honest honest)) meets.ready have.room))
    (λ honest order fits.
    c.in-Err.ensures.cause (may_link_all st op (g.S.PageStore.backing c.args.store.now).honest meets.position ready.page ready.parent c.args.new changed order fits (later.honest honest)
    meets.at meets.read meets.read_parent meets.ready have.right (g.met.S.PageStore.laws.few c.args.store.now) have.room are))
