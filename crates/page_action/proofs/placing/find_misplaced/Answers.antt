use Rattle.std.proofs.Common.{◌≡◌, ◌+◌, ◌-◌, true, List, length, take, drop, sym, subst, arith}
use Rattle.std.proofs.lemmas.Grind.{common_steps}
use Rattle.page_action.proofs.Imports.{Page, IsActableBeside, IsApartFrom}
use Rattle.page_action.proofs.Misplaced.{first_here}
use Rattle.page_action.proofs.placing.find_misplaced.Goals.{then-not-is_writable-via-then-not-is_writable, then-not-is_writable-via-else-not-is_writable+then-not-is_placeable, then-not-is_writable-via-else-not-is_writable+else-not-is_placeable+then-not-is_apart}
use Rattle.page_action.proofs.placing.find_misplaced.Goals as goal

pub returns-then-not-is_writable-clause-first : goal.returns-then-not-is_writable-clause-first
returns-then-not-is_writable-clause-first c =
    let page = c.index-pages-at.result in
    let rest = drop (c.loop-at.at + 1) c.args.pages.now in
    let all : take (length c.args.pages.now - (c.loop-at.at + 1)) rest ≡ rest = grind (arith, common_steps) in
    let wrong : IsActableBeside c.args.format c.args.used page (drop (c.loop-at.at + 1) c.args.pages.now) → ⊥ = λ placed. elim c.then-not-is_writable.branch [
      | then-not-is_writable-via-then-not-is_writable w ↦ (let yes : c.is_writable.result ≡ true = c.is_writable.ensures.1 placed.writable in cc)
      | then-not-is_writable-via-else-not-is_writable+then-not-is_placeable w ↦ (let yes : w.is_placeable.result ≡ true = w.is_placeable.ensures.1 placed.placeable in cc)
      | then-not-is_writable-via-else-not-is_writable+else-not-is_placeable+then-not-is_apart w ↦
          (let yes : w.is_apart.result ≡ true = w.is_apart.ensures.1 (subst (λ (ps : List Page). IsApartFrom page.block ps) (sym all) placed.apart) in cc)
    ] in
    c.loop-at.invariant.first page.block (first_here c.args.format c.args.used c.args.pages.now c.loop-at.at page c.loop-at-test.true c.index-pages-at.is wrong)
