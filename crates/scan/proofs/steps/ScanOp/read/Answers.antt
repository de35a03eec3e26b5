use Rattle.std.proofs.Common.{rules, ◌≡◌, suc, Ok, ℕ, ◌<◌, ◌≤◌, false, true, Some, List, length, slice_get, inr, refl, sym, ap, subst, ◌∙◌, arith}
use Rattle.std.specs.Prelude.{IfErr}
use Rattle.page_action.specs.Stored.{IsStored}
use Rattle.descent.proofs.Looking.{if_err}
use Rattle.descent.specs.declared.position.NextPage.TheVariants.{Going, Here}
use Rattle.scan.proofs.Imports.{and_parts, HasCause, is_among, IsAscending, Entry, sizes_of, Limits, pinned, entries_of, Page, State, IsLater, with_table, IsCopiedFrom, frontier_aim, IsLeafAt}
use Rattle.scan.proofs.Imports.{LeadsTo, HasCover, place_inside, IsOnDescent, LeadsToNext, LeadsStraight, DescentIsShorter, IsShorter, IsArrived, Position, ScanAt, waiting, after_reading, without_leaf}
use Rattle.scan.proofs.Imports.{causes_of_scanning, ScanStands, ScanInvariant, ScanWaits, IsUnderway, LeafIsRead, scan_straight_steps, ScanIsStraight, ScanCountsDown, scan_left, AtEachMoment}
use Rattle.scan.proofs.Imports.{Ready, ScanOp}
use Rattle.scan.proofs.Arriving.{leaf_has_entries, other_items, live_leaf, scan_has_room}
use Rattle.scan.proofs.Causes.{scanning_cause}
use Rattle.scan.proofs.Leaf.{reads_leaf}
use Rattle.scan.proofs.Moving.{going_does, going_fits, going_less, reading_does, reading_fits, reading_less}
use Rattle.scan.proofs.Refusing.{refuses, scan_led}
use Rattle.scan.proofs.Resting.{quiet_by, rests}
use Rattle.scan.proofs.steps.ScanOp.read.Given.{Over}
use Rattle.scan.proofs.steps.ScanOp.read.Goals.{After-view-page}
use Rattle.scan.proofs.steps.ScanOp.read.Goals as goal

-- the page that was read is stored
stored_there : (g : Over) (c : After-view-page g) → IsStored (g.S.PageStore.state c.args.store.now).format c.args.position.block c.view-page.result.now
stored_there g c = subst (λ (st : State). IsStored st.format c.args.position.block c.view-page.result.now) c.read_shared.ensures.state c.view-page.ensures.stored

-- ... and the one in use, if the device kept its model
found_there : (g : Over) (c : After-view-page g) → (g.S.PageStore.backing c.read_shared.new.store).honest ≡ true
    → slice_get (g.S.PageStore.state c.args.store.now).pages c.args.position.block ≡ Some c.view-page.result.now
found_there g c honest = subst (λ (st : State). slice_get st.pages c.args.position.block ≡ Some c.view-page.result.now) c.read_shared.ensures.state (c.view-page.ensures.page honest)

pub returns-in_err-read_shared-clause-all : goal.returns-in_err-read_shared-clause-all
returns-in_err-read_shared-clause-all g c = record {
  steps = search rules;
  session = refl;
  range = refl;
  quiet = search rules;
  kept = search rules;
  refused = search rules;
  stopped = search rules;
  ready = search rules;
  waits = λ alive some. absurd (some c.requires.none);
  less = search rules;
  no_more = search rules;
  stepped = λ honest order fits.
      let old : State = g.S.PageStore.state c.args.store.now in
      let before : ScanOp = c.args.self.now in
      let position : Position = c.args.position in
      let on_way : IsOnDescent old fits.start (frontier_aim before.frontier) false 0 position = subst (ScanStands old fits.start before.leaf before.frontier) c.requires.at fits.stands in
      let used = place_inside old fits.start position.level (frontier_aim before.frontier) false position.block order.tree on_way.place in
      let cause : IfErr c.read_shared.result (HasCause (causes_of_scanning old (g.S.PageStore.backing c.args.store.now) (g.S.PageStore.backing c.read_shared.new.store) before.session)) =
      if_err c.read_shared.result _ _ (λ f h. scanning_cause old (g.S.PageStore.backing c.args.store.now) (g.S.PageStore.backing c.read_shared.new.store) before.session position.block f honest used h)
      (c.read_shared.ensures.cause (scan_has_room old before fits)) in
      search rules;
  straight = λ honest order whole none starts. search rules;
}

pub returns-in_default-clause-all : goal.returns-in_default-clause-all
returns-in_default-clause-all g c =
    let old : State = g.S.PageStore.state c.args.store.now in
    let before : ScanOp = c.args.self.now in
    let position : Position = c.args.position in
    let page : Page = c.view-page.result.now in
    refuses g.S.PageStore before c.args.store.now c.read_shared.new.store _ c.read_shared.ensures.steps c.read_shared.ensures.state c.requires.none
    (λ h. (let k = sym c.in_ok-read_shared.was ∙ c.read_shared.ensures.stopped h in cc))
    (λ honest order fits.
    let found = found_there g (goal.at.returns-in_default-clause-all g c).After-view-page honest in
    let led = scan_led old before position page c.limits-most.result c.lead.result c.requires.at order fits found
    (c.limits-most.ensures.value ∙ ap (λ (st : State). sizes_of st.format) c.read_shared.ensures.state) c.in_ok-read_shared.ensures.inside c.lead.ensures.goes in
    let here = subst (LeadsToNext old fits.start (frontier_aim before.frontier) false 0 position) (c.in-Some-Here.is ∙ ap Some c.in-Some-Here.field-0-is) led in
    let block_is : page.block ≡ position.block = (stored_there g (goal.at.returns-in_default-clause-all g c).After-view-page).block_is in
    absurd (other_items page.items c.in_default.not-Entries (leaf_has_entries old (frontier_aim before.frontier) page order.tree
    (subst (λ (b : ℕ). slice_get old.pages b ≡ Some page) (sym block_is) found) (stored_there g (goal.at.returns-in_default-clause-all g c).After-view-page).storable.admitted
    (subst (HasCover old 0 (frontier_aim before.frontier)) (sym block_is) here.1))))

pub returns-in-None-clause-all : goal.returns-in-None-clause-all
returns-in-None-clause-all g c =
    let old : State = g.S.PageStore.state c.args.store.now in
    refuses g.S.PageStore c.args.self.now c.args.store.now c.read_shared.new.store _ c.read_shared.ensures.steps c.read_shared.ensures.state c.requires.none
    (λ h. (let k = sym c.in_ok-read_shared.was ∙ c.read_shared.ensures.stopped h in cc))
    (λ honest order fits.
    absurd (subst (LeadsToNext old fits.start (frontier_aim c.args.self.now.frontier) false 0 c.args.position) c.in-None.is
    (scan_led old c.args.self.now c.args.position c.view-page.result.now c.limits-most.result c.lead.result c.requires.at order fits
    (found_there g (goal.at.returns-in-None-clause-all g c).After-view-page honest)
    (c.limits-most.ensures.value ∙ ap (λ (st : State). sizes_of st.format) c.read_shared.ensures.state) c.in_ok-read_shared.ensures.inside c.lead.ensures.goes)))

pub returns-in-Some-Going-clause-all : goal.returns-in-Some-Going-clause-all
returns-in-Some-Going-clause-all g c =
    let old : State = g.S.PageStore.state c.args.store.now in
    let new : State = g.S.PageStore.state c.go_on.new.store in
    let before : ScanOp = c.args.self.now in
    let after : ScanOp = c.go_on.new.self in
    let on : Position = c.in-Some-Going.on in
    let is : new ≡ with_table old (without_leaf old.table before.session before.leaf) =
    c.go_on.ensures.state ∙ ap (λ (st : State). with_table st (without_leaf st.table before.session before.leaf)) c.read_shared.ensures.state in
    let answer : c.lead.result ≡ Some (Going on) = c.in-Some-Going.is ∙ ap Some c.in-Some-Going.field-0-is in
    let most : c.limits-most.result.pages ≡ old.format.pages = ap (λ (l : Limits). l.pages) c.limits-most.ensures.value ∙ ap (λ (st : State). st.format.pages) c.read_shared.ensures.state in
    let shorter : IsShorter 0 old.format.pages c.args.position on =
    subst (λ (n : ℕ). IsShorter 0 n c.args.position on) most (subst (DescentIsShorter 0 c.limits-most.result.pages c.args.position) answer c.lead.ensures.less) in
    let less : scan_left old.format.pages old.pages after < scan_left old.format.pages old.pages before =
    subst (λ (op : ScanOp). scan_left old.format.pages old.pages op < scan_left old.format.pages old.pages before) (sym c.go_on.ensures.op)
    (going_less old.format.pages old.pages before c.args.position on c.requires.at shorter) in
    record {
      steps = search rules;
      session = ap (λ (op : ScanOp). op.session) c.go_on.ensures.op;
      range = ap (λ (op : ScanOp). op.range) c.go_on.ensures.op;
      quiet = quiet_by old new _ is;
      kept = rests old new _ is;
      refused = tt;
      stopped = search rules;
      ready = tt;
      waits = λ alive some. absurd {A = ScanWaits old new before after (Ok AtEachMoment)} (some c.requires.none);
      less = λ honest. less;
      no_more = λ honest. omega arith;
      stepped = λ honest order fits.
          let later : IsLater (g.S.PageStore.backing c.read_shared.new.store) (g.S.PageStore.backing c.go_on.new.store) =
          g.met.S.PageStore.laws.follows_later _ _ (c.go_on.ensures.steps _ (g.met.S.PageStore.laws.follows_same _)) in
          let position : Position = c.args.position in
          let led = scan_led old before position c.view-page.result.now c.limits-most.result c.lead.result c.requires.at order fits
          (found_there g (goal.at.returns-in-Some-Going-clause-all g c).After-view-page (later.honest honest))
          (c.limits-most.ensures.value ∙ ap (λ (st : State). sizes_of st.format) c.read_shared.ensures.state) c.in_ok-read_shared.ensures.inside c.lead.ensures.goes in
          record {
            does = going_does old new before order fits is;
            fits = subst (ScanInvariant new) (sym c.go_on.ensures.op)
                (going_fits old new before order fits is on (subst (LeadsToNext old fits.start (frontier_aim before.frontier) false 0 position) answer led));
            none = c.requires.none;
            from = subst IsUnderway (sym c.requires.at) tt;
            position = on;
            op = c.go_on.ensures.op;
          };
      straight = λ honest order whole none starts.
          let later : IsLater (g.S.PageStore.backing c.read_shared.new.store) (g.S.PageStore.backing c.go_on.new.store) =
          g.met.S.PageStore.laws.follows_later _ _ (c.go_on.ensures.steps _ (g.met.S.PageStore.laws.follows_same _)) in
          let found : slice_get old.pages c.args.position.block ≡ Some c.view-page.result.now = found_there g (goal.at.returns-in-Some-Going-clause-all g c).After-view-page (later.honest honest) in
          let cover : HasCover old c.args.position.level (frontier_aim before.frontier) c.args.position.block = subst (ScanIsStraight old before.frontier) c.requires.at starts in
          let led : LeadsStraight old (frontier_aim before.frontier) 0 c.args.position (Some (Going on)) =
          subst (LeadsStraight old (frontier_aim before.frontier) 0 c.args.position) answer (c.lead.ensures.straight old order.tree whole found cover) in
          subst (λ (op : ScanOp). ScanCountsDown old before op (Ok AtEachMoment)) (sym c.go_on.ensures.op)
          (led.1, subst (λ (a : ScanAt). suc (suc on.level) ≡ scan_straight_steps old.pages a) (sym c.requires.at) (ap suc led.0));
    }

pub returns-in-Entries-clause-all : goal.returns-in-Entries-clause-all
returns-in-Entries-clause-all g c =
    let old : State = g.S.PageStore.state c.args.store.now in
    let new : State = g.S.PageStore.state c.stand_on.new.store in
    let before : ScanOp = c.args.self.now in
    let after : ScanOp = c.stand_on.new.self in
    let position : Position = c.args.position in
    let page : Page = c.view-page.result.now in
    let es : List Entry = c.take.new.self.copied.items in
    let taken : c.take.new.self ≡ after_reading before page.high page.right es = c.take.ensures.op in
    let is : new ≡ with_table old (pinned (without_leaf old.table before.session before.leaf) before.session position.block) =
    subst (λ (op : ScanOp).
    new ≡ with_table (g.S.PageStore.state c.read_shared.new.store)
    (pinned (without_leaf (g.S.PageStore.state c.read_shared.new.store).table op.session op.leaf) op.session position.block)) taken c.stand_on.ensures.state
    ∙ ap (λ (st : State). with_table st (pinned (without_leaf st.table before.session before.leaf) before.session position.block)) c.read_shared.ensures.state in
    let op_is : after ≡ after_reading (record before { leaf = Some position.block }) page.high page.right es =
    c.stand_on.ensures.op ∙ ap (λ (op : ScanOp). record op { leaf = Some position.block }) taken in
    let arrived : IsArrived page (frontier_aim before.frontier) = c.lead.ensures.here (c.in-Some-Here.is ∙ ap Some c.in-Some-Here.field-0-is) in
    let many : length es ≤ 50 = c.take.ensures.many in
    let later : IsLater (g.S.PageStore.backing c.read_shared.new.store) (g.S.PageStore.backing c.stand_on.new.store) =
    g.met.S.PageStore.laws.follows_later _ _ (c.stand_on.ensures.steps _ (g.met.S.PageStore.laws.follows_same _)) in
    let less : (g.S.PageStore.backing c.stand_on.new.store).honest ≡ true → scan_left old.format.pages old.pages after < scan_left old.format.pages old.pages before =
    λ honest. subst (λ (op : ScanOp). scan_left old.format.pages old.pages op < scan_left old.format.pages old.pages before) (sym op_is)
    (reading_less old.format.pages old.pages before (Some position.block) position position.block page es c.requires.at
    (found_there g (goal.at.returns-in-Entries-clause-all g c).After-view-page (later.honest honest)) arrived many) in
    record {
      steps = search rules;
      session = ap (λ (op : ScanOp). op.session) op_is;
      range = ap (λ (op : ScanOp). op.range) op_is;
      quiet = quiet_by old new _ is;
      kept = rests old new _ is;
      refused = tt;
      stopped = search rules;
      ready = c.ready.ensures;
      waits = λ alive some. absurd {A = ScanWaits old new before after (Ok (Ready c.ready.result))} (some c.requires.none);
      less = λ honest none. less honest;
      no_more = λ honest. (let l = less honest in omega arith);
      stepped = λ honest order fits.
          let on_way : IsOnDescent old fits.start (frontier_aim before.frontier) false 0 position = subst (ScanStands old fits.start before.leaf before.frontier) c.requires.at fits.stands in
          let found : slice_get old.pages position.block ≡ Some page = found_there g (goal.at.returns-in-Entries-clause-all g c).After-view-page (later.honest honest) in
          let led = scan_led old before position page c.limits-most.result c.lead.result c.requires.at order fits found
          (c.limits-most.ensures.value ∙ ap (λ (st : State). sizes_of st.format) c.read_shared.ensures.state) c.in_ok-read_shared.ensures.inside c.lead.ensures.goes in
          let here : (position.level ≡ 0) × HasCover old 0 (frontier_aim before.frontier) position.block =
          subst (LeadsToNext old fits.start (frontier_aim before.frontier) false 0 position) (c.in-Some-Here.is ∙ ap Some c.in-Some-Here.field-0-is) led in
          let admitted = (stored_there g (goal.at.returns-in-Entries-clause-all g c).After-view-page).storable.admitted in
          let block_is : page.block ≡ position.block = (stored_there g (goal.at.returns-in-Entries-clause-all g c).After-view-page).block_is in
          let there : slice_get old.pages page.block ≡ Some page = subst (λ (b : ℕ). slice_get old.pages b ≡ Some page) (sym block_is) found in
          let cover : HasCover old 0 (frontier_aim before.frontier) page.block = subst (HasCover old 0 (frontier_aim before.frontier)) (sym block_is) here.1 in
          let has = leaf_has_entries old (frontier_aim before.frontier) page order.tree there admitted cover in
          let live = live_leaf page has arrived.alive admitted in
          let at : IsLeafAt old.pages position.block page = record { found = found; alive = arrived.alive; leaf = has } in
          let place : LeadsTo old fits.start 0 (frontier_aim before.frontier) false page.block =
          subst (λ (b : ℕ). LeadsTo old fits.start 0 (frontier_aim before.frontier) false b) (sym block_is)
          (subst (λ (k : ℕ). LeadsTo old fits.start k (frontier_aim before.frontier) false position.block) here.0 on_way.place) in
          let entries = c.as_slice.ensures.value ∙ ap entries_of (sym c.in-Entries.is) in
          let copied_by : IsCopiedFrom c.as_slice.result.now before.frontier before.range.below es = c.take.ensures.copied (subst IsAscending (sym entries) live.entries.ascends) in
          let copied : IsCopiedFrom (entries_of page.items) before.frontier before.range.below es =
          subst (λ (xs : List Entry). IsCopiedFrom xs before.frontier before.range.below es) entries copied_by in
          inr (record {
            does = reading_does old new before position.block order fits is;
            fits = subst (ScanInvariant new) (sym op_is) (reading_fits old new before position.block order fits is page es there place (record { page = page; was = at }) many);
            none = c.requires.none;
            position = position;
            from = c.requires.at;
            leaf = ap (λ (op : ScanOp). op.leaf) op_is;
            page = page;
            live = at;
            of_leaf = λ e ready. (and_parts _ _ (sym (copied.each e) ∙ subst (λ (op : ScanOp). is_among (waiting op) e ≡ true) op_is ready)).0;
            read = subst (LeafIsRead old before) (sym op_is)
                (reads_leaf old before (Some position.block) position page es order.tree c.requires.at fits.started there cover live copied);
            count_is = c.ready.ensures;
          });
      straight = λ honest order whole none starts.
          let found : slice_get old.pages position.block ≡ Some page = found_there g (goal.at.returns-in-Entries-clause-all g c).After-view-page (later.honest honest) in
          let cover : HasCover old position.level (frontier_aim before.frontier) position.block = subst (ScanIsStraight old before.frontier) c.requires.at starts in
          let led : LeadsStraight old (frontier_aim before.frontier) 0 position (Some Here) =
          subst (LeadsStraight old (frontier_aim before.frontier) 0 position) (c.in-Some-Here.is ∙ ap Some c.in-Some-Here.field-0-is) (c.lead.ensures.straight old order.tree whole found cover) in
          subst (λ (a : ScanAt). scan_straight_steps old.pages a ≡ 1) (sym c.requires.at) (ap suc led);
    }
