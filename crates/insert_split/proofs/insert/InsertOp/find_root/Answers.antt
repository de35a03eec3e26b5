use Rattle.std.proofs.Common.{arith, ◌≡◌, ℕ, suc, ◌≤◌, ◌+◌, Some, true, slice_get, refl, sym, subst, ◌∙◌}
use Rattle.insert_split.proofs.Imports.{Page, State, IsStored, entry_aim, OnlyTargetsAreIncomplete, walk_is_long, InsertStands, IsToCome, targets_at, straight_steps, InsertAt}
use Rattle.insert_split.proofs.Steps.{goes_on}
use Rattle.insert_split.proofs.Ways.{on_way_from_root, level_low, root_covers_there}
use Rattle.insert_split.proofs.insert.InsertOp.find_root.Goals as goal

pub returns-clause-all : goal.returns-clause-all
returns-clause-all g c =
    let old : State = g.S.PageStore.state c.args.store.now in
    let meta : Page = c.view.result.now in
    let stored : IsStored old.format 0 meta = subst (λ (st : State). IsStored st.format 0 meta) c.read_shared.ensures.state c.view.ensures.stored in
    let found : (g.S.PageStore.backing c.read_shared.new.store).honest ≡ true → slice_get old.pages 0 ≡ Some meta =
    λ honest. subst (λ (st : State). slice_get st.pages 0 ≡ Some meta) c.read_shared.ensures.state (c.view.ensures.page honest) in
    let most : ℕ = old.format.pages in
    let low : c.in-Some.position.level ≤ 255 = (let l = level_low meta stored.storable.admitted in let e = c.in-Some.ensures.level in omega arith) in
    let shorter = walk_is_long most c.in-Some.position low in
    rw c.come_to.ensures (goes_on g.S.PageStore c.args.self.now _ c.args.store.now c.read_shared.new.store c.read_shared.ensures.steps c.read_shared.ensures.state refl refl c.requires.alive
    (λ honest. rw c.requires.at (omega (arith, shorter)))
    (λ honest order fits.
    let session = c.args.self.now.session in
    let free = subst (InsertStands old session fits.start c.args.self.now.entry) c.requires.at fits.stands in
    record {
      fits = record {
        session = fits.session;
        start = fits.start;
        running = fits.running;
        stands = (
          free,
          on_way_from_root old fits.start (entry_aim c.args.self.now.entry) true 0 meta c.in-Some.position order.tree (found honest) (omega arith)
              (λ root names. sym c.in-Some.is ∙ c.way_down.ensures.named root names),
        );
        to_come = subst (λ (a : InsertAt). IsToCome a c.args.self.now.added) c.requires.at fits.to_come;
      };
      added = refl;
      flags = λ only. subst (λ (a : InsertAt). OnlyTargetsAreIncomplete old (targets_at a)) c.requires.at only;
    })
    (λ honest order whole on.
    let there = root_covers_there old (entry_aim c.args.self.now.entry) meta c.in-Some.position order.tree whole (found honest) (λ root names. sym c.in-Some.is ∙ c.way_down.ensures.named root names) in (
      there.0,
      subst (λ (a : InsertAt). suc (c.in-Some.position.level + 2) ≡ straight_steps old.pages a) (sym c.requires.at) (let z = there.1 in omega (arith, z)),
    )))
