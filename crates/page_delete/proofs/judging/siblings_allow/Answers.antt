use Rattle.std.proofs.Common.{◌≡◌, [], ◌∷◌, true, false, true≢false, sym, subst, ◌∙◌}
use Rattle.page_delete.proofs.Imports.{HasRoom, State, IsLater, IsLiveAt, LinksLeft}
use Rattle.page_delete.proofs.Trying.{read_on, cause_later}
use Rattle.page_delete.proofs.judging.siblings_allow.Given.{Over}
use Rattle.page_delete.proofs.judging.siblings_allow.Goals.{After-right_is_live}
use Rattle.page_delete.proofs.judging.siblings_allow.Goals as goal

-- the second reading is after the first
mid_honest : (g : Over) (c : After-right_is_live g) → (g.S.PageStore.backing c.right_is_live.new.store).honest ≡ true → (g.S.PageStore.backing c.left_is_whole.new.store).honest ≡ true
mid_honest g c h =
    let later : IsLater (g.S.PageStore.backing c.left_is_whole.new.store) (g.S.PageStore.backing c.right_is_live.new.store) =
    g.met.S.PageStore.laws.follows_later _ _ (c.right_is_live.ensures.steps _ (g.met.S.PageStore.laws.follows_same _)) in
    later.honest h

pub returns-then-is_live-clause-answer : goal.returns-then-is_live-clause-answer
returns-then-is_live-clause-answer g c honest =
    let at = (goal.at.returns-then-is_live-clause-answer g c).After-right_is_live in
    let live = subst (λ (st : State). IsLiveAt st.pages c.in-Some.right) c.left_is_whole.ensures.state ((c.in-Ok-right_is_live.ensures.live honest).0 c.if-is_live.true) in
    record {
      left_whole = (c.in-Ok.ensures.whole (mid_honest g at honest)).0 c.if-not-is_whole.false;
      right_is = c.in-Some.is;
      page = live.page;
      found = live.found;
      alive = live.alive;
    }

pub returns-then-not-is_whole-clause-answer : goal.returns-then-not-is_whole-clause-answer
returns-then-not-is_whole-clause-answer g c honest right allow =
    let at = (goal.at.returns-then-not-is_whole-clause-answer g c).After-right_is_live in
    true≢false (sym ((c.in-Ok.ensures.whole (mid_honest g at honest)).1 allow.left_whole) ∙ c.if-not-is_whole.true)

pub returns-in-Err-clause-cause : goal.returns-in-Err-clause-cause
returns-in-Err-clause-cause g c honest room links one other = c.in-Err.ensures.cause honest room links.left one other

pub returns-in-Err-right_is_live-clause-cause : goal.returns-in-Err-right_is_live-clause-cause
returns-in-Err-right_is_live-clause-cause g c honest room links one other =
    let old = g.S.PageStore.state c.args.store.now in
    let reading = read_on g.S.PageStore c.args.store.now c.left_is_whole.new.store c.left_is_whole.ensures.steps c.left_is_whole.ensures.state c.in-Ok.ensures.alive c.left_is_whole.ensures.promised
    (g.met.S.PageStore.laws.follows_later _ _ (c.left_is_whole.ensures.steps _ (g.met.S.PageStore.laws.follows_same _))) in
    cause_later g.S.PageStore c.args.session c.args.store.now c.left_is_whole.new.store c.right_is_live.new.store (one ∷ other ∷ []) c.in-Err-right_is_live.fault reading
    (c.in-Err-right_is_live.ensures.cause honest (subst (λ (st : State). HasRoom st.table c.args.session) (sym c.left_is_whole.ensures.state) room)
    (subst (λ (st : State). LinksLeft st.pages c.in-Some.right c.args.leaf.now.block) (sym c.left_is_whole.ensures.state) (links.right c.in-Some.right c.in-Some.is)) one other)
