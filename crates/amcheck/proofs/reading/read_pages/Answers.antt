use Rattle.std.proofs.Common.{◌≡◌, ◌+◌, ◌++◌, ◌∷◌, [], ℕ, ◌<◌, List, length, slice_get, sym, ap, subst, ◌∙◌, arith, add-one, length-append}
use Rattle.amcheck.proofs.Imports.{lt-leb, HasCause, Page, pinned_blocks, takes_next, takes_rest, stored-add, TakesFrame, TakesFrames, causes_of_read, KeepsRoom, State, IsLater, IsStored}
use Rattle.amcheck.proofs.Imports.{AreStored, HasPageRoom, blocks_below}
use Rattle.amcheck.proofs.Fetched.{below_next}
use Rattle.amcheck.proofs.ReadOn.{kept_on, cause_on, never_memory, take_get}
use Rattle.amcheck.proofs.reading.read_pages.Given.{Over}
use Rattle.amcheck.proofs.reading.read_pages.Goals.{After-fetch, After-view}
use Rattle.amcheck.proofs.reading.read_pages.Goals as goal

-- what never goes back, up to the page that is read
later : (g : Over) (c : After-fetch g) → IsLater (g.S.PageStore.backing c.args.store.now) (g.S.PageStore.backing c.loop-block.store)
later g c = g.met.S.PageStore.laws.follows_later _ _ (c.loop-block.invariant.steps _ (g.met.S.PageStore.laws.follows_same _))

-- ... and over it
later_on : (g : Over) (c : After-fetch g) → IsLater (g.S.PageStore.backing c.loop-block.store) (g.S.PageStore.backing c.fetch.new.self)
later_on g c = g.met.S.PageStore.laws.follows_later _ _ (c.fetch.ensures.steps _ (g.met.S.PageStore.laws.follows_same _))

room_on : (g : Over) (c : After-fetch g) → KeepsRoom (g.S.PageStore.state c.args.store.now) (g.S.PageStore.backing c.args.store.now) (g.S.PageStore.backing c.fetch.new.self)
room_on g c =
    let old = c.loop-block.invariant in
    let few = g.met.S.PageStore.laws.durable_few c.loop-block.store in
    let acts = ap (λ (s : State). s.acts) old.state_is in
    kept_on (g.S.PageStore.state c.args.store.now) (g.S.PageStore.backing c.args.store.now) (g.S.PageStore.backing c.loop-block.store) (g.S.PageStore.backing c.fetch.new.self) old.kept
    (subst (λ (s : State). KeepsRoom s (g.S.PageStore.backing c.loop-block.store) (g.S.PageStore.backing c.fetch.new.self)) old.state_is c.fetch.ensures.room) (later g c) (omega (arith, few, acts))

-- the pages before this one, and this one
frames_on : (g : Over) (c : After-fetch g)
    → TakesFrames (g.S.PageStore.state c.args.store.now).frames (pinned_blocks (g.S.PageStore.state c.args.store.now).table) (blocks_below c.loop-block.block ++ c.loop-block.block ∷ [])
    (g.S.PageStore.memory c.args.store.now) (g.S.PageStore.memory c.fetch.new.self) (g.S.PageStore.backing c.args.store.now) (g.S.PageStore.backing c.fetch.new.self)
frames_on g c =
    let st = g.S.PageStore.state c.args.store.now in
    let mid = c.loop-block.store in
    takes_next st.frames (pinned_blocks st.table) (blocks_below c.loop-block.block) c.loop-block.block
    (g.S.PageStore.memory c.args.store.now) (g.S.PageStore.memory mid) (g.S.PageStore.memory c.fetch.new.self)
    (g.S.PageStore.backing c.args.store.now) (g.S.PageStore.backing mid) (g.S.PageStore.backing c.fetch.new.self)
    c.loop-block.invariant.frames
    (subst (λ (s : State).
    TakesFrame s.frames (pinned_blocks s.table) c.loop-block.block (g.S.PageStore.memory mid) (g.S.PageStore.memory c.fetch.new.self)
    (g.S.PageStore.backing mid) (g.S.PageStore.backing c.fetch.new.self))
    c.loop-block.invariant.state_is c.fetch.ensures.frame)

pub returns-in-Err-clause-frames : goal.returns-in-Err-clause-frames
returns-in-Err-clause-frames g c =
    let here = (goal.at.returns-in-Err-clause-frames g c).After-fetch in
    let st = g.S.PageStore.state c.args.store.now in
    let others = below_next (length st.pages) c.loop-block.block (omega (arith, c.loop-block-test.true, c.used-used.ensures)) in
    subst (λ (bs : List ℕ).
    TakesFrames st.frames (pinned_blocks st.table) bs (g.S.PageStore.memory c.args.store.now) (g.S.PageStore.memory c.fetch.new.self)
    (g.S.PageStore.backing c.args.store.now) (g.S.PageStore.backing c.fetch.new.self)) (sym others.1)
    (takes_rest st.frames (pinned_blocks st.table) (blocks_below c.loop-block.block ++ c.loop-block.block ∷ []) others.0
    (g.S.PageStore.memory c.args.store.now) (g.S.PageStore.memory c.fetch.new.self) (g.S.PageStore.backing c.args.store.now) (g.S.PageStore.backing c.fetch.new.self) (frames_on g here))

pub returns-clause-frames : goal.returns-clause-frames
returns-clause-frames g c =
    let st = g.S.PageStore.state c.args.store.now in
    let all : c.loop-block.block ≡ length st.pages = omega (arith, c.loop-block-test.false, c.loop-block.auto.block-end, c.used-used.ensures) in
    subst (λ (n : ℕ). TakesFrames st.frames (pinned_blocks st.table) (blocks_below n) (g.S.PageStore.memory c.args.store.now)
    (g.S.PageStore.memory c.loop-block.store) (g.S.PageStore.backing c.args.store.now) (g.S.PageStore.backing c.loop-block.store))
    all c.loop-block.invariant.frames

pub returns-in-Err-clause-room : goal.returns-in-Err-clause-room
returns-in-Err-clause-room g c = room_on g (goal.at.returns-in-Err-clause-room g c).After-fetch

pub returns-in-Err-clause-memory : goal.returns-in-Err-clause-memory
returns-in-Err-clause-memory g c =
    never_memory (g.S.PageStore.state c.loop-block.store) (g.S.PageStore.backing c.loop-block.store) (g.S.PageStore.backing c.fetch.new.self) c.loop-block.block c.in-Err.fault c.in-Err.ensures.cause

pub returns-in-Err-clause-cause : goal.returns-in-Err-clause-cause
returns-in-Err-clause-cause g c =
    let before = (goal.at.returns-in-Err-clause-cause g c).After-fetch in
    let l = later g before in
    let old = c.loop-block.invariant in
    let used : c.loop-block.block < length (g.S.PageStore.state c.args.store.now).pages = omega (arith, c.loop-block-test.true, c.used-used.ensures) in
    cause_on (g.S.PageStore.state c.args.store.now) (g.S.PageStore.backing c.args.store.now) (g.S.PageStore.backing c.loop-block.store)
    (g.S.PageStore.backing c.fetch.new.self) c.loop-block.block c.in-Err.fault
    l.failures old.alive (lt-leb (length (g.S.PageStore.state c.args.store.now).pages) c.loop-block.block used)
    (subst (λ (s : State).
    HasCause (causes_of_read s (g.S.PageStore.backing c.loop-block.store) (g.S.PageStore.backing c.fetch.new.self) c.loop-block.block) c.in-Err.fault) old.state_is c.in-Err.ensures.cause)

-- the page that is read stands at its block
stored_here : (g : Over) (c : After-view g) → IsStored (g.S.PageStore.state c.args.store.now).format (0 + length c.loop-block.room.list.value) c.view.result.now
stored_here g c =
    subst (λ (n : ℕ). IsStored (g.S.PageStore.state c.args.store.now).format n c.view.result.now)
    (let e : c.loop-block.block ≡ 0 + length c.loop-block.room.list.value = omega (arith, c.loop-block.invariant.count) in e)
    (subst (λ (s : State). IsStored s.format c.loop-block.block c.view.result.now) (c.fetch.ensures.state ∙ c.loop-block.invariant.state_is) c.view.ensures.stored)

pub add-requires-clause-page : goal.add-requires-clause-page
add-requires-clause-page g c = (stored_here g (goal.at.add-requires-clause-page g c).After-view).storable.admitted

pub loop-block-preserved : goal.loop-block-preserved
loop-block-preserved g c =
    let before = (goal.at.loop-block-preserved g c).After-fetch in
    let old = c.loop-block.invariant in
    let pages = (g.S.PageStore.state c.args.store.now).pages in
    let on = later_on g before in
    let same_state = c.fetch.ensures.state ∙ old.state_is in
    let page = c.view.result.now in
    let items : c.add.new.self.list.value ≡ c.loop-block.room.list.value ++ page ∷ [] = c.add.ensures.list in
    record {
      steps = λ first f. c.fetch.ensures.steps first (old.steps first f);
      state_is = same_state;
      count = (let size = ap length items in omega (arith, size, length-append c.loop-block.room.list.value (page ∷ []), old.count));
      stored = subst (AreStored (g.S.PageStore.state c.args.store.now).format 0) (sym items)
          (stored-add (g.S.PageStore.state c.args.store.now).format 0 c.loop-block.room.list.value page old.stored (stored_here g (goal.at.loop-block-preserved g c).After-view));
      same = λ honest. items ∙ ap (λ (ps : List Page). ps ++ page ∷ []) (old.same (on.honest honest))
          ∙ take_get pages c.loop-block.block page (ap (λ (s : State). slice_get s.pages c.loop-block.block) (sym same_state) ∙ c.view.ensures.page honest);
      room_is = subst (HasPageRoom c.add.new.self) c.used-used.ensures c.add.ensures.room;
      kept = room_on g before;
      frames = subst (λ (n : ℕ). TakesFrames (g.S.PageStore.state c.args.store.now).frames (pinned_blocks (g.S.PageStore.state c.args.store.now).table) (blocks_below n)
          (g.S.PageStore.memory c.args.store.now) (g.S.PageStore.memory c.fetch.new.self) (g.S.PageStore.backing c.args.store.now)
          (g.S.PageStore.backing c.fetch.new.self)) (sym (add-one c.loop-block.block)) (frames_on g before);
      alive = λ stopped. old.alive (c.in-Ok.ensures.alive stopped);
    }
