use Rattle.std.proofs.Common.{◌≤◌, ◌<◌, ℕ, Some, List, length, get_or, arith}
use Rattle.amcheck.proofs.Imports.{slice_get-get_or, Page, nodes_of, index_of, StandAtTheirBlocks, AreSearchable, AreStops, IsBad, IsFirstPlace, Stop}
use Rattle.amcheck.proofs.Chained.{first_at}
use Rattle.amcheck.proofs.Found.{bad_inside, no_stop}
use Rattle.amcheck.proofs.bad_places.first_in_chain.Given.{Over}
use Rattle.amcheck.proofs.bad_places.first_in_chain.Goals.{In-Some}
use Rattle.amcheck.proofs.bad_places.first_in_chain.Goals as goal

-- the stops of a walk may be searched
searchable : (pages : List Page) (depth : ℕ) (stops : List Stop) → StandAtTheirBlocks pages → AreStops (index_of pages) depth stops → length stops ≤ 65536 → AreSearchable pages stops
searchable pages depth stops stand are few = record {
  stand = stand;
  in_use = λ k s e. (let on = are.on_level k s e in (on.after_meta, on.in_use));
  few = few;
}

-- what was found is the first bad one
first : (g : Over) (c : In-Some g) → IsFirstPlace (IsBad (nodes_of c.args.pages.now) c.args.keys c.args.root c.args.stops.now) (Some c.in-Some.place)
first g c = c.requires.finds _ _ _ _ _ (searchable c.args.pages.now c.args.depth c.args.stops.now c.requires.stand c.requires.stops c.requires.few) c.in-Some.ensures

inside : (g : Over) (c : In-Some g) → c.in-Some.place < length c.args.stops.now
inside g c = bad_inside _ _ _ _ _ (first g c).0

pub find-requires : goal.find-requires
find-requires g c = c.requires.may _ _ _ _ (searchable c.args.pages.now c.args.depth c.args.stops.now c.requires.stand c.requires.stops c.requires.few)

pub damage_at_end-requires-clause-right : goal.damage_at_end-requires-clause-right
damage_at_end-requires-clause-right g c =
    c.requires.finds _ _ _ _ _ (searchable c.args.pages.now c.args.depth c.args.stops.now c.requires.stand c.requires.stops c.requires.few) c.in-None.ensures

pub number_at-requires-clause-searchable : goal.number_at-requires-clause-searchable
number_at-requires-clause-searchable g c = searchable c.args.pages.now c.args.depth c.args.stops.now c.requires.stand c.requires.stops c.requires.few

pub number_at-requires-clause-inside : goal.number_at-requires-clause-inside
number_at-requires-clause-inside g c = inside g (goal.at.number_at-requires-clause-inside g c).In-Some

pub offset_bounds-stops-place : goal.offset_bounds-stops-place
offset_bounds-stops-place g c =
    let lt = inside g (goal.at.offset_bounds-stops-place g c).In-Some in
    let few = c.requires.few in
    omega arith

pub bounds-stops-place : goal.bounds-stops-place
bounds-stops-place g c = inside g (goal.at.bounds-stops-place g c).In-Some

pub returns-in-None-number_at-clause-none : goal.returns-in-None-number_at-clause-none
returns-in-None-number_at-clause-none g c =
    let bad = (first g (goal.at.returns-in-None-number_at-clause-none g c).In-Some).0 in
    absurd (c.in-None-number_at.ensures.least bad.number bad.wrong)

pub returns-in-Some-number_at-clause-some : goal.returns-in-Some-number_at-clause-some
returns-in-Some-number_at-clause-some g c =
    let found = (goal.at.returns-in-Some-number_at-clause-some g c).In-Some in
    first_at (index_of c.args.pages.now) c.args.keys c.args.depth c.args.root c.args.stops.now c.requires.deep c.requires.root c.requires.stops
    c.in-Some.place c.in-Some-number_at.number (get_or c.args.stops.now c.in-Some.place no_stop) (slice_get-get_or c.args.stops.now c.in-Some.place no_stop (inside g found))
    (first g found) c.in-Some-number_at.ensures.least
