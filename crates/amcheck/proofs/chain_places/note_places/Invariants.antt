use Rattle.std.proofs.Common.{◌≡◌, length}
use Rattle.amcheck.proofs.ChainPlaces.{ArePlacesTo}
use Rattle.amcheck.proofs.chain_places.note_places.Given as goal

abbrev pub invariant-loop-place : goal.invariant-loop-place
invariant-loop-place l = record {
  size : length l.places ≡ length l.fn.places;
  placed : ArePlacesTo l.place l.stops l.places;
}
