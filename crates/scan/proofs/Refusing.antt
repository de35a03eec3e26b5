-- Steps of a scan that are refused, and where a page leads one that isn't.
use Rattle.std.proofs.Common.{◌≡◌, ℕ, ◌≤◌, Bool, true, false, Option, Some, Err, [], length, slice_get, refl, sym, ap, subst, arith}
use Rattle.page_action.specs.declared.page_store.PageStore.{Ghosts}
use Rattle.descent.specs.declared.position.NextPage.{NextPage}
use Rattle.scan.proofs.Imports.{HasCause, Fault, Stopped, sizes_of, Limits, Page, State, Continues, frontier_aim, HasTree, IsOnDescent, LeadsToNext, IsInOrder, Position, one_nothing, waiting}
use Rattle.scan.proofs.Imports.{ScanStands, ScanInvariant, ScanSteps, causes_of_scanning, At, ScanOp}

-- a step that is refused before anything is changed
pub refuses : {S : Type 0} (g : Ghosts S) (op : ScanOp) (old new : S) (fault : Fault) → Continues g.follows old new → g.state new ≡ g.state old → waiting op ≡ []
    → ((g.backing old).stopped ≡ true → fault ≡ Stopped)
    → ((g.backing new).honest ≡ true → IsInOrder (g.state old) → ScanInvariant (g.state old) op → HasCause (causes_of_scanning (g.state old) (g.backing old) (g.backing new) op.session) fault)
    → ScanSteps g op op old new (Err fault)
refuses g op old new fault steps same none stops cause = record {
  steps = steps;
  session = refl;
  range = refl;
  quiet = subst (λ (st : State). st ≡ record (g.state old) { table = st.table }) (sym same) refl;
  kept = one_nothing (g.state old) (g.state new) same;
  refused = record { state = same; op = refl };
  stopped = λ h. ap Err (stops h);
  ready = tt;
  waits = λ alive some. absurd (some none);
  less = λ honest. tt;
  no_more = λ honest. omega arith;
  stepped = cause;
  straight = λ honest order whole none starts. tt;
}

-- where a page leads a scan on its way
pub scan_led : (st : State) (op : ScanOp) (position : Position) (page : Page) (most : Limits) (result : Option NextPage) → op.at ≡ At position → IsInOrder st → (fits : ScanInvariant st op)
    → slice_get st.pages position.block ≡ Some page → most ≡ sizes_of st.format → length st.pages ≤ st.format.pages
    → ((s : State) (start : ℕ) (clear : Bool) → HasTree s → slice_get s.pages position.block ≡ Some page → IsOnDescent s start (frontier_aim op.frontier) clear 0 position → (clear ≡ true → page.split ≡ false)
    → length s.pages ≤ most.pages → LeadsToNext s start (frontier_aim op.frontier) clear 0 position result)
    → LeadsToNext st fits.start (frontier_aim op.frontier) false 0 position result
scan_led st op position page most result at_is order fits found is few goes =
    goes st fits.start false order.tree found (subst (ScanStands st fits.start op.leaf op.frontier) at_is fits.stands) (λ e. cc)
    (subst (λ (l : Limits). length st.pages ≤ l.pages) (sym is) few)
