use Rattle.std.proofs.Common.{◌<◌, ℕ, List, get_or, length, set, sym, subst, arith, length-set}
use Rattle.redo_log.proofs.BlockLists.{ArePlaced, is_among-at, with_block-old, placed-push, inside-push}
use Rattle.redo_log.proofs.waiting.Waiting.take.Goals as goal

pub returns-in-Some-clause-blocks : goal.returns-in-Some-clause-blocks
returns-in-Some-clause-blocks c = let f = c.in-Some.ensures.found in sym (with_block-old _ _ (is_among-at _ c.args.block c.in-Some.place f.0 f.1))

pub invariant_of-self-clause-inside : goal.invariant_of-self-clause-inside
invariant_of-self-clause-inside c =
    let s = c.args.self.now in
    subst (λ (l : List ℕ). (k : ℕ) → k < length l → get_or l k 0 < length (set s.places.items c.args.block c.len-place.result)) (sym c.push_reserved.ensures.items)
    (inside-push s.blocks.items c.args.block _ (λ k lt. omega (arith, s.inside k lt, length-set s.places.items c.args.block c.len-place.result))
    (omega (arith, length-set s.places.items c.args.block c.len-place.result)))

pub invariant_of-self-clause-placed : goal.invariant_of-self-clause-placed
invariant_of-self-clause-placed c =
    let s = c.args.self.now in
    subst (ArePlaced (set s.places.items c.args.block c.len-place.result)) (sym c.push_reserved.ensures.items)
    (placed-push s.places.items s.blocks.items c.args.block c.len-place.result s.placed c.in_default.ensures.none c.requires.inside (omega (arith, s.blocks.ok.0)))
