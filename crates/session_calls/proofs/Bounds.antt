-- What is left to do for a running call has a bound at each moment.
use Rattle.std.proofs.Common.{ℕ, suc, ◌+◌, ◌-◌, ◌<◌, ◌≤◌, Option, Some, None, length, arith}
use Rattle.std.proofs.lemmas.Nat.{mul-le}
use Rattle.tree_acts.proofs.Sizes.{pages_few}
use Rattle.vacuum.specs.Work.{moves_left, bulk_delete_left}
use Rattle.vacuum.specs.declared.steps.Backtrack.{Backtrack}
use Rattle.insert_split.proofs.Lasting.{bounded_at_each_moment as insert_bounded}
use Rattle.scan.proofs.Lasting.{bounded_at_each_moment as scan_bounded}
use Rattle.page_delete.specs.Work.{steps_for_page, cleanup_left}
use Rattle.page_delete.specs.declared.steps.CleanupAt.TheVariants.{Look}
use Rattle.session_calls.specs.Bounds.{CallsAreBounded}
use Rattle.session_calls.proofs.Imports.{cleanups_bounded, Insert, Scan, Bulk, Cleanup}

moves_few : (most : ℕ) (back : Option Backtrack) → moves_left most back ≤ suc (suc most)
moves_few most None = omega arith
moves_few most (Some back) = omega arith

-- a bulk delete has no more left than each page and each move back
pub bulk_few : (most used cursor : ℕ) (back : Option Backtrack) → most ≤ 65536 → used ≤ 65536 → bulk_delete_left most used cursor back < 4398046511104
bulk_few most used cursor back low few =
    let blocks = mul-le (used - cursor) (most + 3) 65536 65539 (omega arith) (omega arith) in
    let moves = moves_few most back in
    omega arith

-- a cleanup that begins has no more left than each page
pub cleanup_few : (most used cursor : ℕ) → most ≤ 65536 → used ≤ 65536 → cleanup_left most used cursor Look < 281474976710656
cleanup_few most used cursor low few =
    let blocks = mul-le (used - cursor) (steps_for_page most) 65536 2162758 (omega arith) (omega arith) in
    omega arith

pub calls_bounded : CallsAreBounded
calls_bounded st (Insert op) order few fits = insert_bounded st op order few fits
calls_bounded st (Scan op) order few fits = scan_bounded st op order few fits
calls_bounded st (Bulk set op) order few fits = (let used = pages_few st order.tree in bulk_few st.format.pages (length st.pages) op.cursor op.backtrack few (omega arith))
calls_bounded st (Cleanup op) order few fits = cleanups_bounded st op order fits few
