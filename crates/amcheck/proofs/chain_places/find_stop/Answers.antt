use Rattle.std.proofs.Common.{◌≡◌, Some, slice_get, get_or, sym, ◌∙◌, ap}
use Rattle.amcheck.proofs.Imports.{slice_get-get_or, Stop, same_Some}
use Rattle.amcheck.proofs.Walked.{stop_inside}
use Rattle.amcheck.proofs.Found.{no_stop}
use Rattle.amcheck.proofs.chain_places.find_stop.Goals as goal

pub returns-in-None-clause-none : goal.returns-in-None-clause-none
returns-in-None-clause-none c k s there = c.requires.places.none c.args.block k s (sym c.place_of.ensures ∙ c.in-None.is) there

pub bounds-stops-place : goal.bounds-stops-place
bounds-stops-place c =
    let t = c.requires.places.there c.args.block c.in-Some.place (sym c.place_of.ensures ∙ c.in-Some.is) in
    stop_inside c.args.stops.now c.in-Some.place t.0 t.1

pub returns-in-Some-clause-some : goal.returns-in-Some-clause-some
returns-in-Some-clause-some c =
    let t = c.requires.places.there c.args.block c.in-Some.place (sym c.place_of.ensures ∙ c.in-Some.is) in
    let s = get_or c.args.stops.now c.in-Some.place no_stop in
    let found : slice_get c.args.stops.now c.in-Some.place ≡ Some s = slice_get-get_or c.args.stops.now c.in-Some.place no_stop (stop_inside c.args.stops.now c.in-Some.place t.0 t.1) in
    record { place = c.in-Some.place; there = found; is = ap (λ (u : Stop). u.block) (same_Some s t.0 (sym found ∙ t.1)) ∙ t.2 }
