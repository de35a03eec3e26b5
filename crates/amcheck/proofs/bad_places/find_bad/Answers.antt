use Rattle.std.proofs.Common.{◌≡◌, ◌<◌, ◌-◌, ℕ, length, ◌↔◌, IsTrue, sym, ap, subst, ◌∙◌, arith}
use Rattle.std.proofs.Crossing.{crosses}
use denote.Param.Send.{sendable}
use Rattle.rayon.proofs.ToStd.{nat_range-All}
use Rattle.rayon.specs.Numbers.{nat_range}
use Rattle.amcheck.proofs.Imports.{AllZip, range_with_len, first_true, nodes_of, AreSearchable, IsBad, IsFirstPlace}
use Rattle.amcheck.proofs.Found.{bad_inside}
use Rattle.amcheck.proofs.Searched.{first_in, first_place}
use Rattle.amcheck.proofs.bad_places.find_bad.Goals as goal

pub position_first-requires-sync-typeof-rt : goal.position_first-requires-sync-typeof-rt
position_first-requires-sync-typeof-rt g c κs within = search (sendable, crosses) depth 40

pub position_first-requires-clause-items : goal.position_first-requires-clause-items
position_first-requires-clause-items g c κs within =
    let ends = c.into_par_iter.ensures in
    let inside = nat_range-All (λ i. (i < length c.args.stops.now) × AreSearchable c.args.pages.now c.args.stops.now) 0 (length c.args.stops.now)
    (λ i low high. (high, c.requires.searchable)) in
    rw (c.with_min_len.ensures.base, ends.0, ends.1) inside

pub returns : goal.returns
returns g c =
    let ends = c.into_par_iter.ensures in
    let n = length c.args.stops.now in
    let whole : n - 0 ≡ n = omega arith in
    let P = λ (k : ℕ). IsBad (nodes_of c.args.pages.now) c.args.keys c.args.root c.args.stops.now k in
    let found = rw (c.with_min_len.ensures.base) at c.position_first.ensures in
    let places = found.2 ∙ (λ i. nat_range (ends.0 i) (ends.1 i)) ∙ ap (range_with_len 0) whole in
    let first = first_in P 0 n found.1 (let few = c.requires.searchable.few in omega arith) (subst (λ l. AllZip (λ k b. IsTrue b ↔ P k) l found.1) places found.3) in
    record { first = subst (IsFirstPlace P) (sym found.4) (first_place P n (first_true found.1) (λ k bad. bad_inside _ _ _ _ k bad) first) }
