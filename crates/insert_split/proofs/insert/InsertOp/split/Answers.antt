use Rattle.std.proofs.Common.{arith, None, ◌≡◌, ◌<◌, true, false, Option, ℕ, Some, List, ◌∷◌, map, length, suc, ap, sym, subst, ◌∙◌}
use Rattle.insert_split.proofs.Imports.{HasCause, HasRoom, released, unpinned, is_held_by_another, Page, State, Backing, IsLater, with_table, after_act, AreActable, IsFresh, IsBlock, Exclusive}
use Rattle.insert_split.proofs.Imports.{LeafHalves, Node, node_of, Finishing, InsertOp, fresh_block, causes_of_acting, causes_of_working, if_read, mended_to, working_later, act_cause, fresh_is}
use Rattle.insert_split.proofs.Imports.{blocks_halved}
use Rattle.insert_split.proofs.Halving.{halves_may, halved_are, frames_beside, third_put}
use Rattle.insert_split.proofs.insert.InsertOp.split.Goals as goal

pub returns-in-Err-clause-cause : goal.returns-in-Err-clause-cause
returns-in-Err-clause-cause g c honest room fits pinned =
    let beside : List ℕ = blocks_halved (g.S.PageStore.state c.args.store.now) c.args.page.now.right in
    c.in-Err.ensures.cause honest room fits.mendable (c.args.page.now.block ∷ beside) (length beside) true false (omega arith)

pub returns-in-Err-take_block-clause-cause : goal.returns-in-Err-take_block-clause-cause
returns-in-Err-take_block-clause-cause g c honest room fits pinned =
    let st : State = g.S.PageStore.state c.args.store.now in
    let session = c.args.self.now.session in
    let first : Backing = g.S.PageStore.backing c.args.store.now in
    let second : Backing = g.S.PageStore.backing c.read_right.new.store in
    let third : Backing = g.S.PageStore.backing c.take_block.new.store in
    let same = c.read_right.ensures.state in
    let later : IsLater first second = g.met.S.PageStore.laws.follows_later _ _ (c.read_right.ensures.steps _ (g.met.S.PageStore.laws.follows_same _)) in
    let beside : List ℕ = blocks_halved st c.args.page.now.right in
    let images : List ℕ = c.args.page.now.block ∷ beside in
    working_later st first second third session images (length beside) true false c.in-Err-take_block.fault later.failures c.in-Ok.ensures.alive c.read_right.ensures.room.promised
    (subst (λ (s : State). HasCause (causes_of_working s second third session images (length beside) true false) c.in-Err-take_block.fault) same
    (c.in-Err-take_block.ensures.cause (subst (λ (s : State). HasRoom s.table session) (sym same) room) images (length beside) false))

pub returns-in-Ok-act_on_halves-clause-splits : goal.returns-in-Ok-act_on_halves-clause-splits
returns-in-Ok-act_on_halves-clause-splits g c =
    let st : State = g.S.PageStore.state c.args.store.now in
    let session = c.args.self.now.session in
    let put = third_put c.args.pages.now c.read_right.new.page c.told-pages in
    let parted = c.part.ensures put.0 put.1 c.read_right.new.page put.2 in
    let left : Page = parted.left in
    let half : Page = parted.half in
    let right : Option Page = if_read c.in-Ok.is_beside c.read_right.new.page in
    let changed : List Page = left ∷ half ∷ mended_to half.block right in
    let read = c.read_right.ensures.state in
    let same = c.take_block.ensures.state ∙ read in
    let is_new = parted.half_block in
    let left_block : left.block ≡ c.args.page.now.block = parted.left_block in
    let found = rw parted.pages_are at c.in-Some.ensures.target in
    let block : c.in-Some.target.block ≡ c.args.page.now.block = found.0 ∙ left_block in
    let later : IsLater (g.S.PageStore.backing c.read_right.new.store) (g.S.PageStore.backing c.unpin.new.self) =
    g.met.S.PageStore.laws.follows_later _ _
    (c.unpin.ensures.steps _ (c.release.ensures.steps _ (c.act_on_halves.ensures.steps _ (c.take_block.ensures.steps _ (g.met.S.PageStore.laws.follows_same _))))) in
    record {
      left = left;
      half = half;
      right = right;
      halves = subst (λ (b : ℕ). LeafHalves (node_of c.args.page.now) c.args.page.now.block b c.args.self.now.entry (node_of left) (node_of half)) (sym is_new) parted.halves;
      cut = parted.cut;
      left_block = left_block;
      left_cycle = parted.left_cycle ∙ c.cycle.ensures ∙ ap (λ (s : State). s.cycle) same;
      half_cycle = parted.half_cycle ∙ c.cycle.ensures ∙ ap (λ (s : State). s.cycle) same;
      fresh = subst (λ (b : ℕ). IsFresh st b) (sym is_new) (subst (λ (s : State). IsFresh s c.in-Ok-take_block.new) read c.in-Ok-take_block.ensures.fresh);
      free = subst (λ (b : ℕ). is_held_by_another st.table session b Exclusive ≡ false) (sym is_new)
          (subst (λ (s : State). is_held_by_another s.table session c.in-Ok-take_block.new Exclusive ≡ false) read c.in-Ok-take_block.ensures.free);
      right_stored = c.in-Ok.ensures.stored;
      right_found = λ honest. c.in-Ok.ensures.found (later.honest honest);
      may = subst (λ (s : State). AreActable s.format (length s.pages) changed) same (c.in-Ok-act_on_halves.ensures.may left half c.read_right.new.page parted.pages_are);
      state = c.unpin.ensures.state
          ∙ ap (λ (s : State). with_table s (unpinned s.table session c.in-Some.target.block)) (c.release.ensures.state
          ∙ ap (λ (s : State). with_table s (released s.table session c.in-Some.target.block))
          (c.in-Ok-act_on_halves.ensures.done left half c.read_right.new.page parted.pages_are ∙ ap (after_act changed) same))
          ∙ ap (λ (b : ℕ). with_table (after_act changed st) (unpinned (released st.table session b) session b)) block;
      target = c.in-Some.target;
      block_is = block;
      level_is = found.1;
      high_is = found.2;
      finishes = record {
        op = c.new.result;
        after_is = ap (λ (n : ℕ). let o : InsertOp = record { session = session; entry = c.args.self.now.entry; at = Finishing c.new.result; added = Some n } in o)
            (c.in-Ok-act_on_halves.ensures.number ∙ ap (λ (s : State). suc s.acts) same);
        session = c.new.ensures.session;
        target_is = c.new.ensures.target;
        below = c.new.ensures.below;
        at = c.new.ensures.at;
      };
    }

pub returns-in-Err-act_on_halves-clause-cause : goal.returns-in-Err-act_on_halves-clause-cause
returns-in-Err-act_on_halves-clause-cause g c honest room fits pinned =
    let st : State = g.S.PageStore.state c.args.store.now in
    let session = c.args.self.now.session in
    let put = third_put c.args.pages.now c.read_right.new.page c.told-pages in
    let parted = c.part.ensures put.0 put.1 c.read_right.new.page put.2 in
    let left : Page = parted.left in
    let half : Page = parted.half in
    let right : Option Page = if_read c.in-Ok.is_beside c.read_right.new.page in
    let first : Backing = g.S.PageStore.backing c.args.store.now in
    let second : Backing = g.S.PageStore.backing c.read_right.new.store in
    let third : Backing = g.S.PageStore.backing c.act_on_halves.new.store in
    let changed : List Page = left ∷ half ∷ mended_to half.block right in
    let read = c.read_right.ensures.state in
    let same = c.take_block.ensures.state ∙ read in
    let is_new = parted.half_block in
    let left_block : left.block ≡ c.args.page.now.block = parted.left_block in
    let fresh : IsFresh st half.block = subst (λ (b : ℕ). IsFresh st b) (sym is_new) (subst (λ (s : State). IsFresh s c.in-Ok-take_block.new) read c.in-Ok-take_block.ensures.fresh) in
    let block : IsBlock half.block = subst IsBlock (sym is_new)
    (c.in-Ok-take_block.ensures.block (subst (λ (s : State). 0 < length s.pages) (sym read) (let u : c.args.page.now.block < length st.pages = c.requires.used in omega arith))) in
    let may : AreActable st.format (length st.pages) changed = halves_may st session c.args.self.now.entry c.args.page.now left half right fits c.requires.may c.requires.some
    parted.left_layout parted.half_layout parted.left_page parted.half_page parted.left_leaf parted.half_leaf
    parted.kept
    parted.moved left_block fresh block c.in-Ok.ensures.stored in
    let why : HasCause (causes_of_acting st second third changed) c.in-Err-act_on_halves.fault =
    subst (λ (b : Backing). HasCause (causes_of_acting st b third changed) c.in-Err-act_on_halves.fault) c.take_block.ensures.backing
    (subst (λ (s : State). HasCause (causes_of_acting s (g.S.PageStore.backing c.take_block.new.store) third changed) c.in-Err-act_on_halves.fault) same
    (c.in-Err-act_on_halves.ensures.cause left half c.read_right.new.page parted.pages_are (subst (λ (s : State). AreActable s.format (length s.pages) changed) (sym same) may))) in
    let later : IsLater first second = g.met.S.PageStore.laws.follows_later _ _ (c.read_right.ensures.steps _ (g.met.S.PageStore.laws.follows_same _)) in
    let beside : List ℕ = blocks_halved st c.args.page.now.right in
    let are : map (λ (page : Page). page.block) changed ≡ c.args.page.now.block ∷ beside = halved_are st session c.args.page.now.block (fresh_block st) left half c.args.page.now.right right left_block
    (sym (fresh_is st half.block fresh)) c.in-Ok.ensures.stored in
    act_cause st first second third session (c.args.page.now.block ∷ beside) (length beside) true false changed c.in-Err-act_on_halves.fault
    later.failures c.in-Ok.ensures.alive c.read_right.ensures.room.promised
    are (frames_beside st c.args.page.now.block beside (map (λ (page : Page). page.block) changed) are pinned) why

pub returns-in-None-clause-cause : goal.returns-in-None-clause-cause
returns-in-None-clause-cause g c honest room fits pinned =
    let put = third_put c.args.pages.now c.read_right.new.page c.told-pages in
    let parted = c.part.ensures put.0 put.1 c.read_right.new.page put.2 in
    let none : parted.left.high ≡ None = rw parted.pages_are at c.in-None.ensures.none in
    let k = ap (λ (n : Node). n.high) parted.halves.left_is in
    cc
