use Rattle.std.proofs.Common.{◌≡◌, ◌+◌, slice_get, get_or, Some, refl, arith, ◌∙◌}
use Rattle.amcheck.proofs.Imports.{length-set, slice_get-get_or}
use Rattle.amcheck.proofs.ChainPlaces.{no_places, all_places, places_more}
use Rattle.amcheck.proofs.Found.{no_stop}
use Rattle.amcheck.proofs.chain_places.note_places.Goals as goal

pub loop-place-init : goal.loop-place-init
loop-place-init c = record { size = refl; placed = no_places c.args.stops.now c.args.places.now c.requires.none }

pub loop-place-preserved : goal.loop-place-preserved
loop-place-preserved c =
    let n = c.loop-place.place in
    let s = get_or c.args.stops.now n no_stop in
    let found : slice_get c.args.stops.now n ≡ Some s = slice_get-get_or c.args.stops.now n no_stop c.loop-place-test.true in
    let in_use = (c.requires.in_use n s found).1 in
    record {
      size = length-set c.loop-place.places s.block (Some n) ∙ c.loop-place.invariant.size;
      placed = places_more c.args.stops.now c.loop-place.places n s found (omega (arith, in_use, c.loop-place.invariant.size)) c.loop-place.invariant.placed (n + 1) (omega arith);
    }

pub returns-clause-placed : goal.returns-clause-placed
returns-clause-placed c = all_places c.loop-place.place c.args.stops.now c.loop-place.places (omega (arith, c.loop-place-test.false)) c.loop-place.invariant.placed
