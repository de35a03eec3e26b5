use Rattle.std.proofs.Common.{◌≤◌, map, sym, ap, subst, ◌∙◌}
use Rattle.split_finish.proofs.Imports.{Page, State, IsLater, fresh_block, fresh_is, finish_blocks}
use Rattle.split_finish.proofs.Needs.{root_takes, three_are}
use Rattle.split_finish.proofs.Doing.{acts_done, act_refused, popped_session}
use Rattle.split_finish.proofs.Growing.{grows, may_grow_all}
use Rattle.split_finish.proofs.finish.FinishOp.act_on_root.Goals as goal

pub returns-in-Ok-clause-all : goal.returns-in-Ok-clause-all
returns-in-Ok-clause-all g c =
    let op = c.args.self.now in
    let st : State = g.S.PageStore.state c.args.store.now in
    let later : IsLater (g.S.PageStore.backing c.args.store.now) (g.S.PageStore.backing c.act_on.new.store) =
    g.met.S.PageStore.laws.follows_later _ _ (c.act_on.ensures.steps _ (g.met.S.PageStore.laws.follows_same _)) in
    acts_done g.S.PageStore op c.pop.new.self c.args.store.now c.act_on.new.store c.pop.result c.grown-pages.result c.act_on.ensures.steps c.in-Ok.ensures.done
    (popped_session op c.pop.new.self c.pop.result c.pop.ensures)
    (λ honest order fits. grows st op (g.S.PageStore.backing c.args.store.now).honest c.args.meta c.args.page c.args.new c.args.fresh c.grown-pages.result order fits (later.honest honest)
    c.requires.meets.read_meta c.requires.meets.read c.requires.meets.ready c.requires.right c.requires.fresh c.requires.block c.requires.free
    (g.met.S.PageStore.laws.few c.args.store.now)
    (subst (λ (l : _). 2 ≤ l.items) c.limits-least.ensures.value c.if-prove.false)
    c.grown-pages.ensures (g.S.PageStore.backing c.args.store.now) (g.S.PageStore.backing c.act_on.new.store) c.pop.new.self c.pop.result c.pop.ensures)

pub returns-in-Err-clause-all : goal.returns-in-Err-clause-all
returns-in-Err-clause-all g c =
    let op = c.args.self.now in
    let st : State = g.S.PageStore.state c.args.store.now in
    let later : IsLater (g.S.PageStore.backing c.args.store.now) (g.S.PageStore.backing c.act_on.new.store) =
    g.met.S.PageStore.laws.follows_later _ _ (c.act_on.ensures.steps _ (g.met.S.PageStore.laws.follows_same _)) in
    let are = c.grown-pages.ensures in
    let meets = c.requires.meets in
    act_refused g.S.PageStore op c.args.store.now c.act_on.new.store c.in-Err.fault c.grown-pages.result c.act_on.ensures.steps c.in-Err.ensures.refused
    (λ honest.
    ap (map (λ (page : Page). page.block)) are.pages_are
    ∙ three_are are.root.block are.meta_after.block are.page_after.block (fresh_block st) 0 op.target.block (are.root_block ∙ sym (fresh_is st c.args.fresh c.requires.fresh))
    (are.meta_block ∙ meets.read_meta.stored.block_is) (are.clear.block_is ∙ meets.read.stored.block_is)
    ∙ sym (ap (finish_blocks st op.target) meets.at
    ∙ root_takes st op c.args.meta c.args.page (meets.read_meta.found (later.honest honest)) (meets.read.found (later.honest honest)) meets.ready))
    (λ honest order fits.
    c.in-Err.ensures.cause (may_grow_all st op (g.S.PageStore.backing c.args.store.now).honest c.args.meta c.args.page c.args.new c.args.fresh c.grown-pages.result order fits (later.honest honest)
    c.requires.meets.read_meta c.requires.meets.read c.requires.meets.ready c.requires.right c.requires.fresh c.requires.block c.requires.free
    (g.met.S.PageStore.laws.few c.args.store.now)
    (subst (λ (l : _). 2 ≤ l.items) c.limits-least.ensures.value c.if-prove.false)
    c.grown-pages.ensures))
