use Rattle.std.proofs.Common.{rules, ◌≡◌, ◌<◌, Some, length, refl, sym, ap, subst, ◌∙◌}
use Rattle.split_finish.proofs.Imports.{slice_index_or, Page, State, links_of, IsLinkPlace, NoLinkPlace}
use Rattle.split_finish.proofs.InPlace.{first_is, second_is}
use Rattle.split_finish.proofs.Linking.{unfinished, parent_found, parent_covers}
use Rattle.split_finish.proofs.Placing.{there_is_a_place}
use Rattle.split_finish.proofs.Stepping.{acts_not}
use Rattle.split_finish.proofs.finish.FinishOp.put_link.Goals as goal

pub returns-in_default-place_behind-clause-all : goal.returns-in_default-place_behind-clause-all
returns-in_default-place_behind-clause-all g c =
    let op = c.args.self.now in
    let st : State = g.S.PageStore.state c.args.store.now in
    let are = c.requires.ready in
    let meets = are.meets in
    let first = first_is c.args.pages.now are.parent are.page are.rest c.index-pages-0.result are.pages_are in
    let second = second_is c.args.pages.now are.parent are.page are.rest c.index-pages-1.result are.pages_are in
    let right : are.page.right ≡ Some c.in-Some.new = sym (ap (λ (p : Page). p.right) second) ∙ c.in-Some.is in
    let none : NoLinkPlace are.parent are.page.block op.target.separator =
    subst (λ (p : Page). NoLinkPlace are.parent p.block op.target.separator) second
    (subst (λ (q : Page). NoLinkPlace q (slice_index_or c.args.pages.now 1 c.index-pages-1.result).block op.target.separator) first c.in_default-place_behind.ensures.none) in
    acts_not g.S.PageStore op c.args.store.now c.args.store.now _ (λ first h. h) refl
    (λ honest order fits. absurd (there_is_a_place st fits.start op.target.level op.target.separator are.page are.parent c.in-Some.new order.tree
    (unfinished st op (g.S.PageStore.backing c.args.store.now).honest meets.position are.page are.parent c.in-Some.new order fits honest meets.at meets.read meets.read_parent meets.ready right)
    (parent_found st op (g.S.PageStore.backing c.args.store.now).honest meets.position are.page are.parent c.in-Some.new order fits honest meets.at meets.read meets.read_parent meets.ready right)
    (parent_covers st op (g.S.PageStore.backing c.args.store.now).honest meets.position are.page are.parent c.in-Some.new order fits honest meets.at meets.read meets.read_parent meets.ready right)
    none))

pub add-requires-clause-room : goal.add-requires-clause-room
add-requires-clause-room g c =
    let op = c.args.self.now in
    let st : State = g.S.PageStore.state c.args.store.now in
    let are = c.requires.ready in
    let at = c.in-Some-place_behind.at in
    let first = first_is c.args.pages.now are.parent are.page are.rest c.index-pages-0.result are.pages_are in
    let second = second_is c.args.pages.now are.parent are.page are.rest c.index-pages-1.result are.pages_are in
    let room : length (links_of (slice_index_or c.args.pages.now 0 c.index-pages-0.result).items) < st.format.items = search rules in
    record {
      are = are;
      right = sym (ap (λ (p : Page). p.right) second) ∙ c.in-Some.is;
      place = subst (λ (p : Page). IsLinkPlace are.parent p.block op.target.separator at) second
          (subst (λ (q : Page). IsLinkPlace q (slice_index_or c.args.pages.now 1 c.index-pages-1.result).block op.target.separator at) first c.in-Some-place_behind.ensures.place);
      room = subst (λ (q : Page). length (links_of q.items) < st.format.items) first room;
    }
