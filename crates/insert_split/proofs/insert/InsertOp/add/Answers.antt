use Rattle.std.proofs.Common.{arith, ◌≡◌, ◌≤◌, ◌<◌, ℕ, Bool, true, false, Some, length, slice_get, ap, sym, subst, ◌∙◌}
use Rattle.tree_shape.specs.KeyPages.{IsKeyFree}
use Rattle.insert_split.proofs.Imports.{Format, Limits, is_among, entries_of, Page, State, IsLater, IsStored, PlaceRefused}
use Rattle.insert_split.proofs.Adding.{puts, reads_leaf, no_place}
use Rattle.insert_split.proofs.Splitting.{splits}
use Rattle.insert_split.proofs.Steps.{refuses}
use Rattle.insert_split.proofs.insert.InsertOp.add.Given.{Over}
use Rattle.insert_split.proofs.insert.InsertOp.add.Goals.{After-view-found, After-copy_to}
use Rattle.insert_split.proofs.insert.InsertOp.add.Goals as goal

-- the leaf that was read is stored
stored : (g : Over) (c : After-view-found g) → IsStored (g.S.PageStore.state c.args.store.now).format c.args.block c.view-found.result.now
stored g c = subst (λ (st : State). IsStored st.format c.args.block c.view-found.result.now) c.fetch.ensures.state c.view-found.ensures.stored

-- ... and the one in use, if the device kept its model
found : (g : Over) (c : After-view-found g) → (g.S.PageStore.backing c.fetch.new.self).honest ≡ true
    → slice_get (g.S.PageStore.state c.args.store.now).pages c.args.block ≡ Some c.view-found.result.now
found g c honest = subst (λ (st : State). slice_get st.pages c.args.block ≡ Some c.view-found.result.now) c.fetch.ensures.state (c.view-found.ensures.page honest)

-- its copy is stored as well
copied : (g : Over) (c : After-copy_to g) → IsStored (g.S.PageStore.state c.args.store.now).format c.args.block c.copy_to.new.target
copied g c = subst (λ (p : Page). IsStored (g.S.PageStore.state c.args.store.now).format c.args.block p) (sym c.copy_to.ensures) (stored g (goal.at.After-copy_to g c).After-view-found)

pub returns-in-Err-clause-all : goal.returns-in-Err-clause-all
returns-in-Err-clause-all g c =
    refuses g.S.PageStore c.args.self.now c.args.store.now c.fetch.new.self c.in-Err.fault c.fetch.ensures.steps c.fetch.ensures.state c.requires.alive
    (λ honest order fits.
    reads_leaf (g.S.PageStore.state c.args.store.now) (g.S.PageStore.backing c.args.store.now) (g.S.PageStore.backing c.fetch.new.self)
    c.args.self.now c.args.block c.in-Err.fault honest order c.requires.at fits c.in-Err.ensures.cause)

pub returns-in-Err-place_in-clause-all : goal.returns-in-Err-place_in-clause-all
returns-in-Err-place_in-clause-all g c =
    let there = stored g (goal.at.returns-in-Err-place_in-clause-all g c).After-view-found in
    refuses g.S.PageStore c.args.self.now c.args.store.now c.fetch.new.self c.in-Err-place_in.fault c.fetch.ensures.steps c.fetch.ensures.state c.requires.alive
    (λ honest order fits.
    no_place (g.S.PageStore.state c.args.store.now) (g.S.PageStore.backing c.args.store.now) (g.S.PageStore.backing c.fetch.new.self) c.args.self.now
    c.args.block c.view-found.result.now c.in-Err-place_in.fault order c.requires.at fits
    (found g (goal.at.returns-in-Err-place_in-clause-all g c).After-view-found honest) there.block_is there.storable.admitted
    (subst (λ (u : Bool). PlaceRefused c.view-found.result.now c.args.self.now.entry u c.in-Err-place_in.fault)
    (ap (λ (f : Format). f.unique) c.format-unique.ensures.value ∙ ap (λ (s : State). s.format.unique) c.fetch.ensures.state) c.in-Err-place_in.ensures.cause))

pub returns-then-entries_on-limits-clause-all : goal.returns-then-entries_on-limits-clause-all
returns-then-entries_on-limits-clause-all g c =
    let there = stored g (goal.at.returns-then-entries_on-limits-clause-all g c).After-view-found in
    let is_copy : c.view-found.result.now ≡ c.copy_to.new.target = sym c.copy_to.ensures in
    let later : IsLater (g.S.PageStore.backing c.args.store.now) (g.S.PageStore.backing c.fetch.new.self) =
    g.met.S.PageStore.laws.follows_later _ _ (c.fetch.ensures.steps _ (g.met.S.PageStore.laws.follows_same _)) in
    let after : IsLater (g.S.PageStore.backing c.fetch.new.self) (g.S.PageStore.backing c.put.new.store) =
    g.met.S.PageStore.laws.follows_later _ _ (c.put.ensures.steps _ (g.met.S.PageStore.laws.follows_same _)) in
    puts g.S.PageStore c.args.self.now c.args.store.now c.fetch.new.self c.put.new.store c.args.block c.copy_to.new.target c.put.result
    (λ first h. c.put.ensures.steps first (c.fetch.ensures.steps first h)) c.fetch.ensures.state c.requires.alive c.requires.at
    (copied g (goal.at.returns-then-entries_on-limits-clause-all g c).After-copy_to).block_is
    (λ honest. found g (goal.at.returns-then-entries_on-limits-clause-all g c).After-view-found (after.honest honest) ∙ ap Some is_copy)
    later.failures c.in-Ok.ensures.alive c.fetch.ensures.room.promised
    (subst (λ (p : Page). is_among (entries_of p.items) c.args.self.now.entry ≡ false) is_copy (c.in-Ok-place_in.ensures.absent there.storable.admitted))
    (λ asked. subst (λ (p : Page). IsKeyFree c.args.self.now.entry.key (entries_of p.items)) is_copy
    (c.in-Ok-place_in.ensures.alone (ap (λ (f : Format). f.unique) c.format-unique.ensures.value ∙ ap (λ (s : State). s.format.unique) c.fetch.ensures.state ∙ asked) there.storable.admitted))
    (let t : length c.entries_on.result.now < c.limits.result.items = c.if-entries_on-limits.true in let n = ap length c.entries_on.ensures in
    let m : c.limits.result.items ≡ (g.S.PageStore.state c.args.store.now).format.items = ap (λ (l : Limits). l.items) c.limits.ensures.value
    ∙ ap (λ (s : State). s.format.items) c.fetch.ensures.state in omega (arith, t, n, m)) c.put.ensures.puts c.put.ensures.refused c.put.ensures.cause

pub returns-else-entries_on-limits-clause-all : goal.returns-else-entries_on-limits-clause-all
returns-else-entries_on-limits-clause-all g c =
    let there = stored g (goal.at.returns-else-entries_on-limits-clause-all g c).After-view-found in
    let same = copied g (goal.at.returns-else-entries_on-limits-clause-all g c).After-copy_to in
    let is_copy : c.view-found.result.now ≡ c.copy_to.new.target = sym c.copy_to.ensures in
    let later : IsLater (g.S.PageStore.backing c.args.store.now) (g.S.PageStore.backing c.fetch.new.self) =
    g.met.S.PageStore.laws.follows_later _ _ (c.fetch.ensures.steps _ (g.met.S.PageStore.laws.follows_same _)) in
    let after : IsLater (g.S.PageStore.backing c.fetch.new.self) (g.S.PageStore.backing c.split.new.store) =
    g.met.S.PageStore.laws.follows_later _ _ (c.split.ensures.steps _ (g.met.S.PageStore.laws.follows_same _)) in
    splits g.S.PageStore c.args.self.now c.split.new.self c.args.store.now c.fetch.new.self c.split.new.store c.args.block c.copy_to.new.target c.split.result
    (λ first h. c.split.ensures.steps first (c.fetch.ensures.steps first h)) c.fetch.ensures.state c.requires.alive c.requires.at same.block_is
    (λ honest. found g (goal.at.returns-else-entries_on-limits-clause-all g c).After-view-found (after.honest honest) ∙ ap Some is_copy)
    (subst (λ (b : ℕ). IsStored (g.S.PageStore.state c.args.store.now).format b c.copy_to.new.target) (sym same.block_is) same) c.in-Ok.ensures.inside
    later.failures c.in-Ok.ensures.alive c.fetch.ensures.room.promised
    (subst (λ (p : Page). is_among (entries_of p.items) c.args.self.now.entry ≡ false) is_copy (c.in-Ok-place_in.ensures.absent there.storable.admitted))
    (λ asked. subst (λ (p : Page). IsKeyFree c.args.self.now.entry.key (entries_of p.items)) is_copy
    (c.in-Ok-place_in.ensures.alone (ap (λ (f : Format). f.unique) c.format-unique.ensures.value ∙ ap (λ (s : State). s.format.unique) c.fetch.ensures.state ∙ asked) there.storable.admitted))
    (let t : c.limits.result.items ≤ length c.entries_on.result.now = c.if-entries_on-limits.false in let n = ap length c.entries_on.ensures in
    let m : c.limits.result.items ≡ (g.S.PageStore.state c.args.store.now).format.items = ap (λ (l : Limits). l.items) c.limits.ensures.value
    ∙ ap (λ (s : State). s.format.items) c.fetch.ensures.state in omega (arith, t, n, m)) c.split.ensures.going c.split.ensures.splits
    c.split.ensures.state c.split.ensures.op c.split.ensures.cause
