use Rattle.std.proofs.Common.{refl, ◌≡◌, ◌<◌, ℕ, inl, inr, true, Some, List, [], ◌∷◌, ◌++◌, map, take, slice_get, sym, ap, subst, ◌∙◌, arith}
use Rattle.buffer_pool.specs.Pools.{frame_of}
use Rattle.page_store.proofs.Costing.{blocks_next, blocks_split, gets_next, gets_rest}
use Rattle.page_store.proofs.Imports.{cases_lt, slice_get_within, IsSome, has_block, Format, Page, IsStored, slice_get_at, GetFrames, take_all}
use Rattle.page_store.proofs.Frames.{actable_at, all_at, all_of}
use Rattle.page_store.proofs.Quieting.{quiet_same, quiet_both}
use Rattle.page_store.proofs.logged_pages.LoggedPages.take_frames.Given.{Over}
use Rattle.page_store.proofs.logged_pages.LoggedPages.take_frames.Goals.{After-page-item, After-take_frame}
use Rattle.page_store.proofs.logged_pages.LoggedPages.take_frames.Goals as goal

-- the page stands at its place among the pages
at : (g : Over) (c : After-page-item g) → slice_get c.args.pages.now c.loop-page.page-index ≡ Some c.page-item.result
at g c = slice_get_at c.args.pages.now c.loop-page.page-index c.page-item.result c.loop-page-test.true c.page-item.is

-- it may be stored, at a block below the limit
may : (g : Over) (c : After-page-item g) → IsStored c.loop-page.self.format c.page-item.result.block c.page-item.result × (c.page-item.result.block < c.loop-page.self.format.pages)
may g c =
    subst (λ (l : Format). IsStored l c.page-item.result.block c.page-item.result × (c.page-item.result.block < l.pages)) (sym c.loop-page.invariant.quiet.pages.format)
    (actable_at c.args.self.now.format _ c.args.pages.now c.loop-page.page-index c.page-item.result c.requires.actable (at g c))

-- the frames for those before, and for the page
one_more : (g : Over) (c : After-take_frame g)
    → GetFrames g.D.Device c.args.pinned.now (map (λ p. p.block) (take c.loop-page.page-index c.args.pages.now) ++ c.page-item.result.block ∷ []) c.args.self.now c.take_frame.new.self
one_more g c =
    let i = c.loop-page.invariant in
    gets_next g.D.Device c.args.pinned.now (map (λ p. p.block) (take c.loop-page.page-index c.args.pages.now)) c.page-item.result.block c.args.self.now c.loop-page.self c.take_frame.new.self
    i.most i.frames c.take_frame.ensures.frame

pub returns-in_err-take_frame-clause-frames : goal.returns-in_err-take_frame-clause-frames
returns-in_err-take_frame-clause-frames g c =
    let here = goal.at.returns-in_err-take_frame-clause-frames g c in
    subst (λ (bs : List ℕ). GetFrames g.D.Device c.args.pinned.now bs c.args.self.now c.take_frame.new.self)
    (sym (blocks_split c.args.pages.now c.loop-page.page-index c.page-item.result (at g here.After-page-item)))
    (gets_rest g.D.Device c.args.pinned.now _ _ c.args.self.now c.take_frame.new.self (one_more g here.After-take_frame))

pub returns-clause-frames : goal.returns-clause-frames
returns-clause-frames g c =
    subst (λ (ps : List Page). GetFrames g.D.Device c.args.pinned.now (map (λ p. p.block) ps) c.args.self.now c.loop-page.self)
    (take_all c.loop-page.page-index c.args.pages.now c.loop-page-test.false) c.loop-page.invariant.frames

pub take_frame-requires-clause-stored : goal.take_frame-requires-clause-stored
take_frame-requires-clause-stored g c = (may g (goal.at.take_frame-requires-clause-stored g c).After-page-item).0

pub take_frame-requires-clause-below : goal.take_frame-requires-clause-below
take_frame-requires-clause-below g c = (may g (goal.at.take_frame-requires-clause-below g c).After-page-item).1

pub returns-in_err-take_frame-clause-quiet : goal.returns-in_err-take_frame-clause-quiet
returns-in_err-take_frame-clause-quiet g c =
    quiet_both g.D.Device c.args.self.now c.loop-page.self c.take_frame.new.self c.loop-page.invariant.quiet c.take_frame.ensures.quiet

pub loop-page-preserved : goal.loop-page-preserved
loop-page-preserved g c =
    let i = c.loop-page.invariant in
    let here = (goal.at.loop-page-preserved g c).After-page-item in
    record {
      quiet = quiet_both g.D.Device c.args.self.now c.loop-page.self c.take_frame.new.self i.quiet c.take_frame.ensures.quiet;
      frames = subst (λ (bs : List ℕ). GetFrames g.D.Device c.args.pinned.now bs c.args.self.now c.take_frame.new.self)
          (sym (blocks_next c.args.pages.now c.loop-page.page-index c.page-item.result (at g here)))
          (one_more g (goal.at.loop-page-preserved g c).After-take_frame);
      most = c.take_frame.ensures.kept.most ∙ i.most;
      has = λ k page below found. elim (cases_lt k c.loop-page.page-index) [
        | inl before ↦ c.take_frame.ensures.kept.kept page.block
            (all_at (λ (p : Page). has_block c.args.pinned.now p.block ≡ true) c.args.pages.now k page c.requires.pinned found) (i.has k page before found)
        | inr last ↦
            let same : k ≡ c.loop-page.page-index = omega arith in
            let both : Some page ≡ Some c.page-item.result = sym found ∙ (ap (slice_get c.args.pages.now) same ∙ at g here) in
            let e : page ≡ c.page-item.result = cc in
            subst (λ (p : Page). IsSome (frame_of c.take_frame.new.self.pool p.block)) (sym e) c.in_ok-take_frame.ensures.has
      ];
      alive = λ stopped. i.alive (c.in_ok-take_frame.ensures.alive stopped);
    }

pub returns-clause-has : goal.returns-clause-has
returns-clause-has g c =
    all_of (λ (p : Page). IsSome (frame_of c.loop-page.self.pool p.block)) c.args.pages.now
    (λ k page found. c.loop-page.invariant.has k page (omega (arith, c.loop-page-test.false, slice_get_within c.args.pages.now k page found)) found)

pub loop-page-init : goal.loop-page-init
loop-page-init g c = record {
  quiet = quiet_same g.D.Device c.args.self.now;
  frames = (refl, refl);
  most = refl;
  has = λ k page below found. absurd (omega (arith, below));
  alive = λ stopped. stopped;
}
