use Rattle.std.proofs.Common.{arith, ◌≡◌, ◌<◌, ◌≤◌, Bool, true, false, ℕ, map, length, ap, sym, subst, ◌∙◌, refl}
use Rattle.split_finish.proofs.Imports.{HasCause, is_held_by_another, Exclusive, IsBlock, count_of, Page, IsFresh, State, Backing, IsLater, after_act, AreActable, act_cause_of, fresh_is, slice_get_within}
use Rattle.split_finish.proofs.Imports.{fresh_block, causes_of_acting, causes_of_working, finish_blocks, frames_of, takes_block_of, causes_of_finishing, halves_and, splits_root_of, FinishAt, Link}
use Rattle.split_finish.proofs.Needs.{full_link, parted_are}
use Rattle.split_finish.proofs.Parting.{PartsParent, parts, parts_may, beside_parent, split_as_read}
use Rattle.split_finish.proofs.Standing.{has_room}
use Rattle.split_finish.proofs.Stepping.{acts_not}
use Rattle.split_finish.proofs.finish.FinishOp.split_beside.Goals as goal

pub returns-in-Err-clause-all : goal.returns-in-Err-clause-all
returns-in-Err-clause-all g c =
    let op = c.args.self.now in
    let st : State = g.S.PageStore.state c.args.store.now in
    let position = c.requires.meets.position in
    acts_not g.S.PageStore op c.args.store.now c.take_block.new.store c.in-Err.fault c.take_block.ensures.steps c.take_block.ensures.state
    (λ honest order fits.
    subst (λ (a : FinishAt).
    HasCause (causes_of_finishing st (g.S.PageStore.backing c.args.store.now) (g.S.PageStore.backing c.take_block.new.store) op.session op.target a) c.in-Err.fault) (sym c.requires.meets.at)
    (subst (λ (b : Bool).
    HasCause (causes_of_working st (g.S.PageStore.backing c.args.store.now) (g.S.PageStore.backing c.take_block.new.store) op.session
    (finish_blocks st op.target (Link position)) (frames_of st op.target (Link position)) b false) c.in-Err.fault)
    (let sound = subst (λ (b : Backing). b.honest ≡ true) c.take_block.ensures.backing honest in
    sym (full_link st op position c.args.page c.args.parent (c.requires.meets.read.found sound) (c.requires.meets.read_parent.found sound) c.requires.meets.ready c.requires.no_room).1)
    (c.in-Err.ensures.cause (has_room st op fits) (finish_blocks st op.target (Link position)) (frames_of st op.target (Link position)) false)))

pub split_links-half-requires-clause-block : goal.split_links-half-requires-clause-block
split_links-half-requires-clause-block g c = c.in-Ok.ensures.block c.requires.some

pub returns-in-Ok-act_on_halves-clause-all : goal.returns-in-Ok-act_on_halves-clause-all
returns-in-Ok-act_on_halves-clause-all g c =
    let op = c.args.self.now in
    let st : State = g.S.PageStore.state c.args.store.now in
    let left : Page = c.split_links-half.new.page in
    let half : Page = c.split_links-half.result in
    let clear : Page = c.clear_split.new.page in
    let is_new = c.split_links-half.ensures.right_block in
    let later : IsLater (g.S.PageStore.backing c.args.store.now) (g.S.PageStore.backing c.act_on_halves.new.store) =
    g.met.S.PageStore.laws.follows_later _ _ (c.act_on_halves.ensures.steps _ (c.take_block.ensures.steps _ (g.met.S.PageStore.laws.follows_same _))) in
    let same = c.take_block.ensures.state in
    parts g.S.PageStore op _ c.args.store.now c.act_on_halves.new.store c.requires.meets.position c.args.page c.args.parent left half clear c.args.right c.args.new c.in-Some.target
    (λ first h. c.act_on_halves.ensures.steps first (c.take_block.ensures.steps first h)) c.requires.meets.at later.honest
    (record {
      read = c.requires.meets.read;
      read_parent = c.requires.meets.read_parent;
      ready = c.requires.meets.ready;
      right_is = c.requires.right;
      split = split_as_read c.args.parent c.in-Ok.fresh _ c.args.page.block c.args.new op.target.separator left half c.requires.place.leads is_new c.split_links-half.ensures.split;
      left_layout = c.split_links-half.ensures.left_layout;
      half_layout = c.split_links-half.ensures.right_layout;
      left_block = c.split_links-half.ensures.left_block;
      fresh = subst (IsFresh st) (sym is_new) c.in-Ok.ensures.fresh;
      free = subst (λ (b : ℕ). is_held_by_another st.table op.session b Exclusive ≡ false) (sym is_new) c.in-Ok.ensures.free;
      right_stored = c.requires.beside;
      right_found = c.requires.beside_found;
      clears = record { only = c.clear_split.ensures.only; after_is = c.clear_split.ensures.node; block_is = ap (λ (p : Page). p.block) c.clear_split.ensures.only };
    })
    (subst (λ (s : State). AreActable s.format (length s.pages) (halves_and left half c.args.right clear)) same c.in-Ok-act_on_halves.ensures.may)
    (c.in-Ok-act_on_halves.ensures.done ∙ ap (after_act (halves_and left half c.args.right clear)) same)
    refl c.in-Some.ensures.target.0 c.in-Some.ensures.target.1 c.in-Some.ensures.target.2

pub returns-in-Err-act_on_halves-clause-all : goal.returns-in-Err-act_on_halves-clause-all
returns-in-Err-act_on_halves-clause-all g c =
    let op = c.args.self.now in
    let st : State = g.S.PageStore.state c.args.store.now in
    let left : Page = c.split_links-half.new.page in
    let half : Page = c.split_links-half.result in
    let clear : Page = c.clear_split.new.page in
    let is_new = c.split_links-half.ensures.right_block in
    let first : Backing = g.S.PageStore.backing c.args.store.now in
    let third : Backing = g.S.PageStore.backing c.act_on_halves.new.store in
    let later : IsLater (g.S.PageStore.backing c.args.store.now) (g.S.PageStore.backing c.act_on_halves.new.store) =
    g.met.S.PageStore.laws.follows_later _ _ (c.act_on_halves.ensures.steps _ (c.take_block.ensures.steps _ (g.met.S.PageStore.laws.follows_same _))) in
    let same = c.take_block.ensures.state in
    acts_not g.S.PageStore op c.args.store.now c.act_on_halves.new.store c.in-Err-act_on_halves.fault
    (λ before h. c.act_on_halves.ensures.steps before (c.take_block.ensures.steps before h)) (c.in-Err-act_on_halves.ensures.refused ∙ same)
    (λ honest order fits.
    let beside = beside_parent st op.session first.honest op c.requires.meets.position c.args.page c.args.parent order fits c.requires.meets.at
    (later.honest honest) c.requires.meets.read c.requires.meets.read_parent c.requires.meets.ready in
    let here : PartsParent st true op.session op c.requires.meets.position c.args.page c.args.parent left half clear c.args.right c.args.new =
    subst (λ (b : Bool). PartsParent st b op.session op c.requires.meets.position c.args.page c.args.parent left half clear c.args.right c.args.new) (later.honest honest) (record {
      read = c.requires.meets.read;
      read_parent = c.requires.meets.read_parent;
      ready = c.requires.meets.ready;
      right_is = c.requires.right;
      split = split_as_read c.args.parent c.in-Ok.fresh _ c.args.page.block c.args.new op.target.separator left half c.requires.place.leads is_new c.split_links-half.ensures.split;
      left_layout = c.split_links-half.ensures.left_layout;
      half_layout = c.split_links-half.ensures.right_layout;
      left_block = c.split_links-half.ensures.left_block;
      fresh = subst (IsFresh st) (sym is_new) c.in-Ok.ensures.fresh;
      free = subst (λ (b : ℕ). is_held_by_another st.table op.session b Exclusive ≡ false) (sym is_new) c.in-Ok.ensures.free;
      right_stored = c.requires.beside;
      right_found = c.requires.beside_found;
      clears = record { only = c.clear_split.ensures.only; after_is = c.clear_split.ensures.node; block_is = ap (λ (p : Page). p.block) c.clear_split.ensures.only };
    }) in
    let some_pages : 0 < length st.pages = (let u = slice_get_within st.pages c.requires.meets.position.block c.args.parent (c.requires.meets.read_parent.found (later.honest honest)) in omega arith) in
    let may : AreActable st.format (length st.pages) (halves_and left half c.args.right clear) =
    parts_may st op.session op c.requires.meets.position c.args.page c.args.parent left half clear c.args.right c.args.new order fits c.requires.meets.at here (g.met.S.PageStore.laws.few c.args.store.now)
    c.split_links-half.ensures.left_page c.split_links-half.ensures.right_page c.split_links-half.ensures.left_internal
    c.split_links-half.ensures.right_internal c.requires.place.internal c.requires.full
    c.split_links-half.ensures.kept c.split_links-half.ensures.moved (subst IsBlock (sym is_new) (c.in-Ok.ensures.block some_pages))
    (c.clear_split.ensures.page c.requires.meets.read.stored.storable.admitted)
    (subst (λ (p : Page). count_of p.items ≤ st.format.items) (sym c.clear_split.ensures.only) c.requires.meets.read.stored.storable.few)
    beside.mendable beside.apart_parent beside.apart_page in
    let why : HasCause (causes_of_acting st first third (halves_and left half c.args.right clear)) c.in-Err-act_on_halves.fault =
    subst (λ (b : Backing). HasCause (causes_of_acting st b third (halves_and left half c.args.right clear)) c.in-Err-act_on_halves.fault) c.take_block.ensures.backing
    (subst (λ (s : State). HasCause (causes_of_acting s (g.S.PageStore.backing c.take_block.new.store) third (halves_and left half c.args.right clear)) c.in-Err-act_on_halves.fault) same
    (c.in-Err-act_on_halves.ensures.cause (subst (λ (s : State). AreActable s.format (length s.pages) (halves_and left half c.args.right clear)) (sym same) may))) in
    let need = full_link st op c.requires.meets.position c.args.page c.args.parent (c.requires.meets.read.found (later.honest honest))
    (c.requires.meets.read_parent.found (later.honest honest)) c.requires.meets.ready c.requires.no_room in
    let are : map (λ (page : Page). page.block) (halves_and left half c.args.right clear) ≡ finish_blocks st op.target op.at =
    parted_are st op.session c.requires.meets.position.block (fresh_block st) op.target.block left half clear c.args.parent.right c.args.right
    (c.split_links-half.ensures.left_block ∙ c.requires.meets.read_parent.stored.block_is) (is_new ∙ sym (fresh_is st c.in-Ok.fresh c.in-Ok.ensures.fresh))
    (ap (λ (p : Page). p.block) c.clear_split.ensures.only ∙ c.requires.meets.read.stored.block_is) c.requires.beside
    ∙ sym (ap (finish_blocks st op.target) c.requires.meets.at ∙ need.0) in
    act_cause_of st first first third op.session (finish_blocks st op.target op.at) (takes_block_of st op.target op.at) (splits_root_of st op.target op.at) (halves_and left half c.args.right clear)
    c.in-Err-act_on_halves.fault (omega arith) (λ h. h) refl are why)
