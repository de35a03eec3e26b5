use Rattle.std.proofs.Common.{rules, ◌≡◌, ◌<◌, false, Some, slice_get, sym, ap, subst, ◌∙◌, arith, Ok, suc}
use Rattle.scan.proofs.Imports.{Page, State, IsLater, with_table, frontier_aim, IsOnDescent, position_from, Position, ScanAt, without_leaf, ScanInvariant, ScanWaits, IsUnderway, scan_straight_steps}
use Rattle.scan.proofs.Imports.{ScanCountsDown, scan_left, Going, HasCover, ScanOp}
use Rattle.scan.proofs.Moving.{going_does, going_fits, first_less}
use Rattle.scan.proofs.Resting.{quiet_by, rests}
use Rattle.scan.proofs.Rooting.{root_way, straight_root}
use Rattle.scan.proofs.steps.ScanOp.find_root.Goals as goal

pub returns-clause-all : goal.returns-clause-all
returns-clause-all g c =
    let old : State = g.S.PageStore.state c.args.store.now in
    let new : State = g.S.PageStore.state c.go_on.new.store in
    let before : ScanOp = c.args.self.now in
    let after : ScanOp = c.go_on.new.self in
    let page : Page = c.view.result.now in
    let position : Position = c.in-Some.position in
    let is : new ≡ with_table old (without_leaf old.table before.session before.leaf) =
    c.go_on.ensures.state ∙ ap (λ (st : State). with_table st (without_leaf st.table before.session before.leaf)) c.read_shared.ensures.state in
    let low : position.level < 256 = search rules in
    let less : scan_left old.format.pages old.pages after < scan_left old.format.pages old.pages before =
    subst (λ (op : ScanOp). scan_left old.format.pages old.pages op < scan_left old.format.pages old.pages before) (sym c.go_on.ensures.op)
    (first_less old.format.pages old.pages before position c.requires.at low) in
    record {
      steps = search rules;
      session = ap (λ (op : ScanOp). op.session) c.go_on.ensures.op;
      range = ap (λ (op : ScanOp). op.range) c.go_on.ensures.op;
      quiet = quiet_by old new _ is;
      kept = rests old new _ is;
      refused = tt;
      stopped = search rules;
      ready = tt;
      waits = λ alive some. absurd {A = ScanWaits old new before after (Ok Going)} (some c.requires.none);
      less = λ honest. less;
      no_more = λ honest. omega arith;
      stepped = λ honest order fits.
          let later : IsLater (g.S.PageStore.backing c.read_shared.new.store) (g.S.PageStore.backing c.go_on.new.store) =
          g.met.S.PageStore.laws.follows_later _ _ (c.go_on.ensures.steps _ (g.met.S.PageStore.laws.follows_same _)) in
          let found : slice_get old.pages 0 ≡ Some page = subst (λ (st : State). slice_get st.pages 0 ≡ Some page) c.read_shared.ensures.state (c.view.ensures.page (later.honest honest)) in
          let root = root_way old fits.start (frontier_aim before.frontier) false page order.tree found in
          let named : Some position ≡ Some (position_from root.root page.level) = sym c.in-Some.is ∙ c.way_down.ensures.named root.root root.names in
          let same : position ≡ position_from root.root page.level = cc in
          record {
            does = going_does old new before order fits is;
            fits = subst (ScanInvariant new) (sym c.go_on.ensures.op)
                (going_fits old new before order fits is position (subst (IsOnDescent old fits.start (frontier_aim before.frontier) false 0) (sym same) root.on));
            none = c.requires.none;
            from = subst IsUnderway (sym c.requires.at) tt;
            position = position;
            op = c.go_on.ensures.op;
          };
      straight = λ honest order whole none starts.
          let later : IsLater (g.S.PageStore.backing c.read_shared.new.store) (g.S.PageStore.backing c.go_on.new.store) =
          g.met.S.PageStore.laws.follows_later _ _ (c.go_on.ensures.steps _ (g.met.S.PageStore.laws.follows_same _)) in
          let found : slice_get old.pages 0 ≡ Some page = subst (λ (st : State). slice_get st.pages 0 ≡ Some page) c.read_shared.ensures.state (c.view.ensures.page (later.honest honest)) in
          let root = straight_root old (frontier_aim before.frontier) page order.tree whole found in
          let named : Some position ≡ Some (position_from root.root page.level) = sym c.in-Some.is ∙ c.way_down.ensures.named root.root root.names in
          let same : position ≡ position_from root.root page.level = cc in
          subst (λ (op : ScanOp). ScanCountsDown old before op (Ok Going)) (sym c.go_on.ensures.op) (
            subst (λ (w : Position). HasCover old w.level (frontier_aim before.frontier) w.block) (sym same) root.covers,
            subst (λ (a : ScanAt). suc (suc position.level) ≡ scan_straight_steps old.pages a) (sym c.requires.at)
                (let l : position.level ≡ page.level = ap (λ (w : Position). w.level) same in let m = root.level_is in omega arith),
          );
    }
