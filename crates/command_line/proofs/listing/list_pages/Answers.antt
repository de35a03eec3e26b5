use Rattle.std.proofs.Common.{◌≡◌, ◌<◌, length, slice_get, ap, subst, sym, ◌∙◌, arith}
use Rattle.std.proofs.lemmas.Bool.{lt-leb}
use Rattle.amcheck.proofs.ReadOn.{cause_on, never_memory}
use Rattle.index_model.specs.Faults.{HasCause}
use Rattle.page_action.specs.Causes.{causes_of_read}
use Rattle.page_action.specs.States.{State, IsLater}
use Rattle.command_line.proofs.Listed.{listed_cause, lists_on}
use Rattle.command_line.proofs.listing.list_pages.Given.{Over}
use Rattle.command_line.proofs.listing.list_pages.Goals.{After-fetch}
use Rattle.command_line.proofs.listing.list_pages.Goals as goal

-- what never goes back, over the page that is read
later_on : (g : Over) (c : After-fetch g) → IsLater (g.S.PageStore.backing c.loop-block.store) (g.S.PageStore.backing c.fetch.new.self)
later_on g c = g.met.S.PageStore.laws.follows_later _ _ (c.fetch.ensures.steps _ (g.met.S.PageStore.laws.follows_same _))

pub returns-in-Err-clause-refused : goal.returns-in-Err-clause-refused
returns-in-Err-clause-refused g c =
    let on = later_on g (goal.at.returns-in-Err-clause-refused g c).After-fetch in
    λ fault same. record {
      count = c.loop-block.block;
      few = omega (arith, c.loop-block-test.true, c.used-block-end.ensures);
      printed = λ honest. c.loop-block.invariant.lists (on.honest honest);
    }

pub returns-in-Err-clause-cause : goal.returns-in-Err-clause-cause
returns-in-Err-clause-cause g c =
    let before = (goal.at.returns-in-Err-clause-cause g c).After-fetch in
    let old = c.loop-block.invariant in
    let l = g.met.S.PageStore.laws.follows_later _ _ (old.steps _ (g.met.S.PageStore.laws.follows_same _)) in
    let st = g.S.PageStore.state c.args.store.now in
    let was = g.S.PageStore.backing c.loop-block.store in
    let now = g.S.PageStore.backing c.fetch.new.self in
    let used : c.loop-block.block < length st.pages = omega (arith, c.loop-block-test.true, c.used-block-end.ensures) in
    let read = subst (λ (s : State). HasCause (causes_of_read s was now c.loop-block.block) c.in-Err.fault) old.state_is c.in-Err.ensures.cause in
    λ fault same. listed_cause st (g.S.PageStore.backing c.args.store.now) now c.in-Err.fault fault (let e : c.in-Err.fault ≡ fault = cc in e)
    (never_memory st was now c.loop-block.block c.in-Err.fault read)
    (cause_on st (g.S.PageStore.backing c.args.store.now) was now c.loop-block.block c.in-Err.fault l.failures old.alive (lt-leb (length st.pages) c.loop-block.block used) read)

pub loop-block-preserved : goal.loop-block-preserved
loop-block-preserved g c =
    let on = later_on g (goal.at.loop-block-preserved g c).After-fetch in
    let old = c.loop-block.invariant in
    let same_state = c.fetch.ensures.state ∙ old.state_is in
    record {
      steps = λ first f. c.fetch.ensures.steps first (old.steps first f);
      state_is = same_state;
      alive = λ stopped. old.alive (c.in-Ok.ensures.alive stopped);
      lists = lists_on _ _ (g.S.PageStore.state c.args.store.now).pages c.loop-block.block c.view.result.now _ _ _ on.honest old.lists
          (λ honest. ap (λ (s : State). slice_get s.pages c.loop-block.block) (sym same_state) ∙ c.view.ensures.page honest)
          c.in_ok-print_page.ensures;
    }
