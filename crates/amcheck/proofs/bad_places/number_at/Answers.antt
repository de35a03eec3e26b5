use Rattle.std.proofs.Common.{◌≡◌, ◌<◌, Option, Some, length, slice_get, get_or, sym, ap, subst}
use Rattle.amcheck.proofs.Beyond.{least_told}
use Rattle.amcheck.proofs.Found.{no_stop, least_where}
use Rattle.amcheck.proofs.Imports.{slice_get-get_or, Bound, Node, nodes_of, node_of, node_from, IsSketch, IsLeastNumber, IsWrong, context_at, IsWrongSketch, page_there, Stop}
use Rattle.amcheck.proofs.bad_places.number_at.Goals.{Start}
use Rattle.amcheck.proofs.bad_places.number_at.Goals as goal

abbrev stop : Start → Stop
stop c = get_or c.args.stops.now c.args.place no_stop

there : (c : Start) → slice_get c.args.stops.now c.args.place ≡ Some (stop c)
there c = slice_get-get_or c.args.stops.now c.args.place no_stop c.requires.inside

in_use : (c : Start) → (stop c).block < length c.args.pages.now
in_use c = (c.requires.searchable.in_use c.args.place (stop c) (there c)).1

pub sketch-requires : goal.sketch-requires
sketch-requires c = in_use (goal.at.sketch-requires c).Start

pub returns : goal.returns
returns c =
    let at = nodes_of c.args.pages.now in
    let s = stop (goal.at.returns c).Start in
    let page = page_there c.args.pages.now s.block (in_use (goal.at.returns c).Start) in
    let here : at s.block ≡ node_of page.0 = ap node_from page.1 in
    let told : IsLeastNumber (IsWrongSketch c.args.keys c.sketch.result.now c.args.root (context_at at s) s.block) c.find_number.result =
    subst (λ (l : Option Bound). IsLeastNumber (IsWrongSketch c.args.keys c.sketch.result.now c.args.root (record { low = l; left = s.left; left_is_split = s.left_is_split }) s.block) c.find_number.result)
    c.low-low.ensures c.find_number.ensures.least in
    let least : IsLeastNumber (IsWrong c.args.keys (at s.block) c.args.root (context_at at s) s.block) c.find_number.result =
    subst (λ (n : Node). IsLeastNumber (IsWrong c.args.keys n c.args.root (context_at at s) s.block) c.find_number.result) (sym here)
    (least_told c.args.keys page.0 c.sketch.result.now c.args.root (context_at at s) s.block (c.requires.searchable.stand s.block page.0 page.1).0
    (subst (λ (n : Node). IsSketch n c.sketch.result.now) here c.sketch.ensures.is) c.find_number.result told) in
    record { least = least_where at c.args.keys c.args.root c.args.stops.now c.args.place s c.find_number.result (there (goal.at.returns c).Start) least }
