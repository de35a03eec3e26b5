use Rattle.std.proofs.Common.{◌≡◌, ◌<◌, ℕ, List, [], ◌∷◌, Bool, true, false, nat_lt, Some, length, slice_get, refl, sym, ap, subst, ◌∙◌, arith}
use Rattle.index_model.specs.declared.limits.Limits.{Limits}
use Rattle.vacuum.proofs.Imports.{HasCause, HasRoom, is_held_by_another, Cleanup, Page, State, IsLater, IsStored, AreActable, block_if, has_dead, causes_of_taking, last_read, moves_of, next_block}
use Rattle.vacuum.proofs.Imports.{TurnsTo, TurnsNoMore, written}
use Rattle.vacuum.proofs.Causes.{reading_cause, taking_later}
use Rattle.vacuum.proofs.Reading.{refuses, passes, takes, next_in_use, has_room, never_too_far, writes_dead}
use Rattle.vacuum.proofs.Removing.{swept_may}
use Rattle.vacuum.proofs.steps.BulkDeleteOp.read.Given.{Over}
use Rattle.vacuum.proofs.steps.BulkDeleteOp.read.Goals.{After-view-page}
use Rattle.vacuum.proofs.steps.BulkDeleteOp.read.Goals as goal

-- the page that was read is stored
stored : (g : Over) (c : After-view-page g) → IsStored (g.S.PageStore.state c.args.store.now).format c.args.block c.view-page.result.now
stored g c = subst (λ (st : State). IsStored st.format c.args.block c.view-page.result.now) c.read_shared.ensures.state c.view-page.ensures.stored

-- ... and the one in use, if the device kept its model
found : (g : Over) (c : After-view-page g) → (g.S.PageStore.backing c.read_shared.new.store).honest ≡ true → slice_get (g.S.PageStore.state c.args.store.now).pages c.args.block ≡ Some c.view-page.result.now
found g c honest = subst (λ (st : State). slice_get st.pages c.args.block ≡ Some c.view-page.result.now) c.read_shared.ensures.state (c.view-page.ensures.page honest)

pub returns-in-Err-clause-all : goal.returns-in-Err-clause-all
returns-in-Err-clause-all g c =
    let old = g.S.PageStore.state c.args.store.now in
    let before = c.args.self.now in
    refuses g.S.PageStore (g.T.DeadRows.is_in c.args.dead.now) before c.args.store.now c.read_shared.new.store c.in-Err.fault c.read_shared.ensures.steps c.read_shared.ensures.state
    (λ h. absurd (let k : false ≡ true = sym c.requires.alive ∙ h in cc))
    (λ honest order fits.
    reading_cause (g.T.DeadRows.is_in c.args.dead.now) old (g.S.PageStore.backing c.args.store.now) (g.S.PageStore.backing c.read_shared.new.store) before c.in-Err.fault
    (c.in-Err.ensures.works honest (has_room old before fits)
    (subst (λ (b : ℕ). b < length old.pages) c.requires.at (next_in_use old before order.tree fits c.requires.inside)) [] 1 false false (omega arith)))

pub returns-then-not-is_live_leaf-clause-all : goal.returns-then-not-is_live_leaf-clause-all
returns-then-not-is_live_leaf-clause-all g c =
    passes g.S.PageStore (g.T.DeadRows.is_in c.args.dead.now) c.args.self.now c.go_on.new.self c.args.store.now c.read_shared.new.store c.args.block c.view-page.result.now
    c.read_shared.ensures.steps c.read_shared.ensures.state c.requires.alive c.requires.at c.requires.inside (found g (goal.at.returns-then-not-is_live_leaf-clause-all g c).After-view-page)
    (λ live leaf. let k : false ≡ true = c.if-not-is_live_leaf.ensures.1 (live, leaf) in cc) c.go_on.ensures

pub returns-in-Err-turn-clause-all : goal.returns-in-Err-turn-clause-all
returns-in-Err-turn-clause-all g c =
    let old = g.S.PageStore.state c.args.store.now in
    let before = c.args.self.now in
    let there = stored g (goal.at.returns-in-Err-turn-clause-all g c).After-view-page in
    let leaf = c.if-not-is_live_leaf.ensures.0 refl in
    let most : c.limits.result.pages ≡ old.format.pages = ap (λ (l : Limits). l.pages) c.limits.ensures.value ∙ ap (λ (s : State). s.format.pages) c.read_shared.ensures.state in
    refuses g.S.PageStore (g.T.DeadRows.is_in c.args.dead.now) before c.args.store.now c.read_shared.new.store c.in-Err-turn.fault c.read_shared.ensures.steps c.read_shared.ensures.state
    (λ h. absurd (let k : false ≡ true = sym c.requires.alive ∙ h in cc))
    (λ honest order fits.
    absurd (never_too_far old before c.view-page.result.now c.args.block c.cycle.result (last_read before.cursor before.backtrack) order fits c.requires.at
    (record { found = found g (goal.at.returns-in-Err-turn-clause-all g c).After-view-page honest; alive = leaf.0; leaf = leaf.1 }) there.block_is c.in-Ok.ensures.inside
    (subst (λ (n : ℕ). TurnsNoMore c.cycle.result n (last_read before.cursor before.backtrack) (moves_of before.backtrack) c.view-page.result.now) most c.in-Err-turn.ensures.refused)))

pub take-requires : goal.take-requires
take-requires g c =
    let old = g.S.PageStore.state c.args.store.now in
    let leaf = c.if-not-is_live_leaf.ensures.0 refl in
    record {
      may = subst (λ (st : State). AreActable st.format (length st.pages) (c.prune-pruned.result.after ∷ [])) (sym c.read_shared.ensures.state)
          (subst (λ (p : Page). AreActable old.format (length old.pages) (p ∷ [])) (sym c.prune-pruned.ensures.pruned.after_is)
          (swept_may (g.T.DeadRows.is_in c.args.dead.now) old.format (length old.pages) c.args.block c.view-page.result.now leaf.0 leaf.1 (stored g (goal.at.take-requires g c).After-view-page)
          c.in-Ok.ensures.used c.in-Ok.ensures.inside));
    }

pub returns-in-Err-take-clause-all : goal.returns-in-Err-take-clause-all
returns-in-Err-take-clause-all g c =
    let old = g.S.PageStore.state c.args.store.now in
    let before = c.args.self.now in
    let later : IsLater (g.S.PageStore.backing c.args.store.now) (g.S.PageStore.backing c.read_shared.new.store) =
    g.met.S.PageStore.laws.follows_later _ _ (c.read_shared.ensures.steps _ (g.met.S.PageStore.laws.follows_same _)) in
    let since : IsLater (g.S.PageStore.backing c.read_shared.new.store) (g.S.PageStore.backing c.take.new.store) =
    g.met.S.PageStore.laws.follows_later _ _ (c.take.ensures.steps _ (g.met.S.PageStore.laws.follows_same _)) in
    let leaf = c.if-not-is_live_leaf.ensures.0 refl in
    refuses g.S.PageStore (g.T.DeadRows.is_in c.args.dead.now) before c.args.store.now c.take.new.store c.in-Err-take.fault
    (λ first h. c.take.ensures.steps first (c.read_shared.ensures.steps first h)) (c.in-Err-take.ensures.refused ∙ c.read_shared.ensures.state)
    (λ h. absurd (let k : false ≡ true = sym c.requires.alive ∙ h in cc))
    (λ honest order fits.
    let dead = g.T.DeadRows.is_in c.args.dead.now in
    let images : List ℕ = block_if (nat_lt 0 c.prune-pruned.result.gone) c.prune-pruned.result.after.block in
    let first = g.S.PageStore.backing c.args.store.now in
    let second = g.S.PageStore.backing c.read_shared.new.store in
    let third = g.S.PageStore.backing c.take.new.store in
    let at_view = (goal.at.returns-in-Err-take-clause-all g c).After-view-page in
    let block : c.prune-pruned.result.after.block ≡ next_block before.cursor before.backtrack =
    ap (λ (p : Page). p.block) c.prune-pruned.ensures.pruned.after_is ∙ (stored g at_view).block_is ∙ sym c.requires.at in
    subst (λ (b : ℕ). HasCause (causes_of_taking (block_if (has_dead dead old before) b) old first third before) c.in-Err-take.fault) block
    (subst (λ (writes : Bool). HasCause (causes_of_taking (block_if writes c.prune-pruned.result.after.block) old first third before) c.in-Err-take.fault)
    (writes_dead dead old before c.args.block c.view-page.result.now c.prune-pruned.result c.requires.at (found g at_view (since.honest honest)) leaf.0 leaf.1 c.prune-pruned.ensures.pruned)
    (taking_later images old first second third before c.in-Err-take.fault later.failures c.in-Ok.ensures.alive c.read_shared.ensures.room.promised
    (subst (λ (st : State). HasCause (causes_of_taking images st second third before) c.in-Err-take.fault) c.read_shared.ensures.state
    (c.in-Err-take.ensures.cause (subst (λ (st : State). HasRoom st.table before.session) (sym c.read_shared.ensures.state) (has_room old before fits)))))))

pub returns-clause-all : goal.returns-clause-all
returns-clause-all g c =
    let old = g.S.PageStore.state c.args.store.now in
    let before = c.args.self.now in
    let leaf = c.if-not-is_live_leaf.ensures.0 refl in
    let at_view = (goal.at.returns-clause-all g c).After-view-page in
    let later : IsLater (g.S.PageStore.backing c.read_shared.new.store) (g.S.PageStore.backing c.take.new.store) =
    g.met.S.PageStore.laws.follows_later _ _ (c.take.ensures.steps _ (g.met.S.PageStore.laws.follows_same _)) in
    let most : c.limits.result.pages ≡ old.format.pages = ap (λ (l : Limits). l.pages) c.limits.ensures.value ∙ ap (λ (s : State). s.format.pages) c.read_shared.ensures.state in
    let cycle : c.cycle.result ≡ old.cycle = c.cycle.ensures ∙ ap (λ (s : State). s.cycle) c.read_shared.ensures.state in
    takes g.S.PageStore (g.T.DeadRows.is_in c.args.dead.now) before c.args.store.now c.take.new.store c.args.block c.view-page.result.now c.prune-pruned.result c.in-Ok-turn.backtrack
    c.requires.at c.requires.inside (λ honest. found g at_view (later.honest honest)) leaf.0 leaf.1 (stored g at_view) c.in-Ok.ensures.used c.in-Ok.ensures.inside
    (subst (λ (n : ℕ). TurnsTo n old.format.pages (last_read before.cursor before.backtrack) (moves_of before.backtrack) c.view-page.result.now c.in-Ok-turn.backtrack) cycle
    (subst (λ (n : ℕ). TurnsTo c.cycle.result n (last_read before.cursor before.backtrack) (moves_of before.backtrack) c.view-page.result.now c.in-Ok-turn.backtrack) most c.in-Ok-turn.ensures.turns))
    c.prune-pruned.ensures.pruned
    (subst (λ (st : State). is_held_by_another st.table before.session c.prune-pruned.result.after.block Cleanup ≡ false) c.read_shared.ensures.state c.in-Ok-take.ensures.free)
    c.go_on-2.new.self (λ first h. c.take.ensures.steps first (c.read_shared.ensures.steps first h)) c.requires.alive
    (c.in-Ok-take.ensures.done ∙ ap (written _ c.prune-pruned.result.after) c.read_shared.ensures.state) c.go_on-2.ensures
