use Rattle.std.proofs.Common.{[], arith, ◌≡◌, ℕ, suc, ◌+◌, ◌≤◌, ◌<◌, Some, Ok, true, false, refl, sym, ap, subst, ◌∙◌, length, slice_get}
use Rattle.descent.specs.declared.position.NextPage.TheVariants.{Going, Here}
use Rattle.insert_split.proofs.Imports.{State, IsLater, with_table, IsStored, LeadsToNext, DescentIsShorter, way_left, entry_aim, bound_aim, is_within, Bound, Limits, HasRoom, latched, pinned}
use Rattle.insert_split.proofs.Imports.{Exclusive, Takes, IsShorter, LeadsStraight, MayHold, HasCover, IsStraight, straight_steps, Position, OnlyTargetsAreIncomplete, InsertOp, InsertGoing}
use Rattle.insert_split.proofs.Imports.{InsertSteps, insert_left, targets_at, InsertAt, Coming, At, Holds, way_shortens}
use Rattle.insert_split.proofs.Steps.{refuses, goes_on, on_ok, on_err, only_going}
use Rattle.insert_split.proofs.Walking.{led, on_way, to_come_there, reading_cause, room_free, place_in_use}
use Rattle.insert_split.proofs.Meeting.{meets}
use Rattle.insert_split.proofs.Taking.{takes, may_be_held}
use Rattle.insert_split.proofs.insert.InsertOp.walk.Given.{Over}
use Rattle.insert_split.proofs.insert.InsertOp.walk.Goals.{After-view-page}
use Rattle.insert_split.proofs.insert.InsertOp.walk.Goals as goal

-- the page that was read is stored
stored : (g : Over) (c : After-view-page g) → IsStored (g.S.PageStore.state c.args.store.now).format c.args.position.block c.view-page.result.now
stored g c = subst (λ (st : State). IsStored st.format c.args.position.block c.view-page.result.now) c.read_shared.ensures.state c.view-page.ensures.stored

-- ... and the one in use, if the device kept its model
found : (g : Over) (c : After-view-page g) → (g.S.PageStore.backing c.read_shared.new.store).honest ≡ true
    → slice_get (g.S.PageStore.state c.args.store.now).pages c.args.position.block ≡ Some c.view-page.result.now
found g c honest = subst (λ (st : State). slice_get st.pages c.args.position.block ≡ Some c.view-page.result.now) c.read_shared.ensures.state (c.view-page.ensures.page honest)

pub returns-in-Err-clause-all : goal.returns-in-Err-clause-all
returns-in-Err-clause-all g c =
    refuses g.S.PageStore c.args.self.now c.args.store.now c.read_shared.new.store c.in-Err.fault c.read_shared.ensures.steps c.read_shared.ensures.state c.requires.alive
    (λ honest order fits.
    let st : State = g.S.PageStore.state c.args.store.now in
    let stands = on_way st c.args.self.now c.args.position c.requires.at fits in
    let used = place_in_use st order.tree fits.start c.args.position.level (entry_aim c.args.self.now.entry) true c.args.position.block stands.1.place in
    reading_cause st (g.S.PageStore.backing c.args.store.now) (g.S.PageStore.backing c.read_shared.new.store) c.args.self.now c.args.position c.in-Err.fault c.requires.at
    (c.in-Err.ensures.works honest (room_free st c.args.self.now.session stands.0) used.1 [] 1 false false (omega arith)))

pub returns-then-has_incomplete_split-clause-all : goal.returns-then-has_incomplete_split-clause-all
returns-then-has_incomplete_split-clause-all g c =
    meets g.S.PageStore c.args.self.now c.meet.new.self c.args.store.now c.read_shared.new.store c.view-page.result.now c.args.position c.meet.result
    c.read_shared.ensures.steps c.read_shared.ensures.state c.requires.alive c.requires.at
    c.meet.ensures.meets (c.if-has_incomplete_split.ensures.live refl) (c.if-has_incomplete_split.ensures.incomplete refl)
    (stored g (goal.at.returns-then-has_incomplete_split-clause-all g c).After-view-page).storable.admitted
    (stored g (goal.at.returns-then-has_incomplete_split-clause-all g c).After-view-page).block_is (found g (goal.at.returns-then-has_incomplete_split-clause-all g c).After-view-page)

pub returns-in-Some-Going-clause-all : goal.returns-in-Some-Going-clause-all
returns-in-Some-Going-clause-all g c =
    let st : State = g.S.PageStore.state c.args.store.now in
    let on : Position = c.in-Some-Going.on in
    let result : c.lead.result ≡ Some (Going on) = c.in-Some-Going.is ∙ ap Some c.in-Some-Going.field-0-is in
    let op : InsertOp = c.args.self.now in
    let most : c.limits.result.pages ≡ st.format.pages = ap (λ (l : Limits). l.pages) c.limits.ensures.value ∙ ap (λ (s : State). s.format.pages) c.read_shared.ensures.state in
    let shorter : IsShorter 0 c.limits.result.pages c.args.position on = subst (DescentIsShorter 0 c.limits.result.pages c.args.position) result c.lead.ensures.less in
    let less : way_left st.format.pages on < way_left st.format.pages c.args.position = way_shortens 0 st.format.pages c.args.position on (subst (λ (n : ℕ). IsShorter 0 n c.args.position on) most shorter) in
    rw c.come_to.ensures
    (subst (λ (w : Position).
    InsertSteps g.S.PageStore op (record { session = op.session; entry = op.entry; at = Coming (At w); added = op.added }) c.args.store.now
    c.read_shared.new.store (Ok InsertGoing)) (sym c.in-Some-Going.on-is)
    (goes_on g.S.PageStore op (record { session = op.session; entry = op.entry; at = Coming (At on); added = op.added }) c.args.store.now
    c.read_shared.new.store c.read_shared.ensures.steps c.read_shared.ensures.state refl refl c.requires.alive
    (λ honest. subst (λ (a : InsertAt). insert_left st.format.pages st.pages (Coming (At on)) < insert_left st.format.pages st.pages a) (sym c.requires.at) (omega (arith, less)))
    (λ honest order fits.
    let led_on = led st op c.args.position c.view-page.result.now c.bound.result c.limits.result.pages c.lead.result c.requires.at order fits
    (found g (goal.at.returns-in-Some-Going-clause-all g c).After-view-page honest) (stored g (goal.at.returns-in-Some-Going-clause-all g c).After-view-page).storable.admitted
    (c.if-has_incomplete_split.ensures.whole refl) c.bound.ensures (subst (λ (n : ℕ). length st.pages ≤ n) (sym most) c.in-Ok.ensures.inside) c.lead.ensures.goes in
    let stands = on_way st op c.args.position c.requires.at fits in
    record {
      fits = record {
        session = fits.session;
        start = fits.start;
        running = fits.running;
        stands = (stands.0, subst (LeadsToNext st fits.start (entry_aim op.entry) true 0 c.args.position) result led_on);
        to_come = to_come_there op c.args.position c.requires.at fits.to_come;
      };
      added = refl;
      flags = λ only. subst (λ (a : InsertAt). OnlyTargetsAreIncomplete st (targets_at a)) c.requires.at only;
    })
    (λ honest order whole on_way_there.
    let covers : HasCover st c.args.position.level (bound_aim c.bound.result) c.args.position.block =
    subst (λ (b : Bound). HasCover st c.args.position.level (bound_aim b) c.args.position.block) (sym c.bound.ensures) (subst (IsStraight st op.entry) c.requires.at on_way_there) in
    let led_straight : LeadsStraight st (bound_aim c.bound.result) 0 c.args.position (Some (Going on)) =
    subst (LeadsStraight st (bound_aim c.bound.result) 0 c.args.position) result
    (c.lead.ensures.straight st order.tree whole (found g (goal.at.returns-in-Some-Going-clause-all g c).After-view-page honest) covers) in (
      subst (λ (b : Bound). HasCover st on.level (bound_aim b) on.block) c.bound.ensures led_straight.1,
      subst (λ (a : InsertAt). suc (on.level + 2) ≡ straight_steps st.pages a) (sym c.requires.at) (let z = led_straight.0 in omega (arith, z)),
    ))))

pub returns-else-not-may_hold-clause-all : goal.returns-else-not-may_hold-clause-all
returns-else-not-may_hold-clause-all g c =
    let st : State = g.S.PageStore.state c.args.store.now in
    let op : InsertOp = c.args.self.now in
    let result : c.lead.result ≡ Some Here = c.in-Some-Here.is ∙ ap Some c.in-Some-Here.field-0-is in
    let arrived = c.lead.ensures.here result in
    let most : c.limits.result.pages ≡ st.format.pages = ap (λ (l : Limits). l.pages) c.limits.ensures.value ∙ ap (λ (s : State). s.format.pages) c.read_shared.ensures.state in
    let later : IsLater (g.S.PageStore.backing c.read_shared.new.store) (g.S.PageStore.backing c.take.new.store) =
    g.met.S.PageStore.laws.follows_later _ _ (c.take.ensures.steps _ (g.met.S.PageStore.laws.follows_same _)) in
    let block_is : c.view-page.result.now.block ≡ c.args.position.block = (stored g (goal.at.returns-else-not-may_hold-clause-all g c).After-view-page).block_is in
    takes g.S.PageStore op c.take.new.self c.args.store.now c.read_shared.new.store c.take.new.store c.view-page.result.now c.args.position c.take.result
    (λ first h. c.take.ensures.steps first (c.read_shared.ensures.steps first h)) c.read_shared.ensures.state c.take.ensures.backing c.requires.alive c.requires.at
    (λ fits. subst (λ (b : ℕ). Takes b op c.take.new.self (g.S.PageStore.state c.read_shared.new.store) (g.S.PageStore.state c.take.new.store) c.take.result) (sym block_is)
    (c.take.ensures.takes (subst (λ (s : State). HasRoom s.table op.session) (sym c.read_shared.ensures.state) (room_free st op.session (on_way st op c.args.position c.requires.at fits).0))))
    (λ going. subst (λ (b : ℕ).
    (g.S.PageStore.state c.take.new.store ≡ with_table (g.S.PageStore.state c.read_shared.new.store) (pinned (latched (g.S.PageStore.state c.read_shared.new.store).table op.session b Exclusive) op.session b))
    × (c.take.new.self ≡ record { session = op.session; entry = op.entry; at = Coming (Holds b); added = op.added })) (sym block_is) (on_ok c.take.result InsertGoing _ c.take.ensures.taken going))
    (λ fault failed. (on_err c.take.result fault _ c.take.ensures.state failed, on_err c.take.result fault _ c.take.ensures.op failed))
    (λ action unfinished added. only_going c.take.result action unfinished c.take.ensures.going added)
    (stored g (goal.at.returns-else-not-may_hold-clause-all g c).After-view-page).block_is
    (stored g (goal.at.returns-else-not-may_hold-clause-all g c).After-view-page).storable.admitted arrived.alive (c.if-has_incomplete_split.ensures.whole refl arrived.alive)
    (subst (λ (b : Bound). is_within (bound_aim b) c.view-page.result.now.high ≡ true) c.bound.ensures arrived.within)
    (λ honest. found g (goal.at.returns-else-not-may_hold-clause-all g c).After-view-page (later.honest honest))
    (λ honest order fits.
    let led_on = led st op c.args.position c.view-page.result.now c.bound.result c.limits.result.pages c.lead.result c.requires.at order fits
    (found g (goal.at.returns-else-not-may_hold-clause-all g c).After-view-page (later.honest honest))
    (stored g (goal.at.returns-else-not-may_hold-clause-all g c).After-view-page).storable.admitted
    (c.if-has_incomplete_split.ensures.whole refl) c.bound.ensures (subst (λ (n : ℕ). length st.pages ≤ n) (sym most) c.in-Ok.ensures.inside) c.lead.ensures.goes in
    (subst (LeadsToNext st fits.start (entry_aim op.entry) true 0 c.args.position) result led_on).0)

pub returns-then-not-may_hold-clause-all : goal.returns-then-not-may_hold-clause-all
returns-then-not-may_hold-clause-all g c =
    let st : State = g.S.PageStore.state c.args.store.now in
    let op : InsertOp = c.args.self.now in
    let result : c.lead.result ≡ Some Here = c.in-Some-Here.is ∙ ap Some c.in-Some-Here.field-0-is in
    let arrived = c.lead.ensures.here result in
    let most : c.limits.result.pages ≡ st.format.pages = ap (λ (l : Limits). l.pages) c.limits.ensures.value ∙ ap (λ (s : State). s.format.pages) c.read_shared.ensures.state in
    refuses g.S.PageStore op c.args.store.now c.read_shared.new.store _ c.read_shared.ensures.steps c.read_shared.ensures.state c.requires.alive
    (λ honest order fits.
    let there = found g (goal.at.returns-then-not-may_hold-clause-all g c).After-view-page honest in
    let admitted = (stored g (goal.at.returns-then-not-may_hold-clause-all g c).After-view-page).storable.admitted in
    let led_on = led st op c.args.position c.view-page.result.now c.bound.result c.limits.result.pages c.lead.result c.requires.at order fits there admitted
    (c.if-has_incomplete_split.ensures.whole refl) c.bound.ensures (subst (λ (n : ℕ). length st.pages ≤ n) (sym most) c.in-Ok.ensures.inside) c.lead.ensures.goes in
    let may : MayHold c.view-page.result.now op.entry =
    may_be_held st op c.view-page.result.now c.args.position c.requires.at order fits
    (stored g (goal.at.returns-then-not-may_hold-clause-all g c).After-view-page).block_is admitted arrived.alive (c.if-has_incomplete_split.ensures.whole refl arrived.alive)
    (subst (λ (b : Bound). is_within (bound_aim b) c.view-page.result.now.high ≡ true) c.bound.ensures arrived.within) there
    (subst (LeadsToNext st fits.start (entry_aim op.entry) true 0 c.args.position) result led_on).0 in
    let k : false ≡ true = c.if-not-may_hold.ensures.1 may in absurd cc)

pub returns-in-None-clause-all : goal.returns-in-None-clause-all
returns-in-None-clause-all g c =
    let st : State = g.S.PageStore.state c.args.store.now in
    let op : InsertOp = c.args.self.now in
    let most : c.limits.result.pages ≡ st.format.pages = ap (λ (l : Limits). l.pages) c.limits.ensures.value ∙ ap (λ (s : State). s.format.pages) c.read_shared.ensures.state in
    refuses g.S.PageStore op c.args.store.now c.read_shared.new.store _ c.read_shared.ensures.steps c.read_shared.ensures.state c.requires.alive
    (λ honest order fits.
    let led_on = led st op c.args.position c.view-page.result.now c.bound.result c.limits.result.pages c.lead.result c.requires.at order fits
    (found g (goal.at.returns-in-None-clause-all g c).After-view-page honest) (stored g (goal.at.returns-in-None-clause-all g c).After-view-page).storable.admitted
    (c.if-has_incomplete_split.ensures.whole refl) c.bound.ensures (subst (λ (n : ℕ). length st.pages ≤ n) (sym most) c.in-Ok.ensures.inside) c.lead.ensures.goes in
    absurd (subst (LeadsToNext st fits.start (entry_aim op.entry) true 0 c.args.position) c.in-None.is led_on))
