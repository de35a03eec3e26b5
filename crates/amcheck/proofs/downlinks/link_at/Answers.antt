use Rattle.std.proofs.Common.{◌≡◌, ℕ, slice_get, Some, sym, subst, ◌∙◌, arith}
use Rattle.amcheck.proofs.Imports.{from_low, slice_get_at}
use Rattle.amcheck.proofs.ItemsNoted.{low_first, low_after}
use Rattle.amcheck.proofs.downlinks.link_at.Goals as goal

pub returns-then-item-eq0 : goal.returns-then-item-eq0
returns-then-item-eq0 c =
    let found = slice_get_at c.args.links.now c.args.item c.index-links-item.result c.requires c.index-links-item.is in
    let first = low_first c.args.low.now c.args.links.now c.index-links-item.result (subst (λ (n : ℕ). slice_get c.args.links.now n ≡ Some c.index-links-item.result) c.if-item-eq0.true found) in
    subst (λ (n : ℕ). slice_get (from_low c.args.low.now c.args.links.now) n ≡ Some (record { bound = c.args.low.now; child = c.index-links-item.result.child })) (sym c.if-item-eq0.true) first

pub returns : goal.returns
returns c =
    let found = slice_get_at c.args.links.now c.args.item c.index-links-item.result c.requires c.index-links-item.is in
    let not_first = c.if-item-eq0.false in
    low_after c.args.low.now c.args.links.now c.args.item (omega arith) ∙ found
