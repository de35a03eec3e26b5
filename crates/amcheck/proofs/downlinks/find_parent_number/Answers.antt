use Rattle.std.proofs.Common.{◌≡◌, true, false, List, Some, get_or, slice_get, length, refl, sym, ap, subst}
use Rattle.amcheck.proofs.Imports.{Downlink, from_low, nodes_of, HasWrongBound, LacksLink, HasExtra, DownlinksAreNoted}
use Rattle.amcheck.proofs.ItemsNoted.{least_nine, least_none}
use Rattle.amcheck.proofs.downlinks.find_parent_number.Goals.{Else-lacks_link}
use Rattle.amcheck.proofs.downlinks.find_parent_number.Goals as goal

-- the downlinks of the page
items_are : (c : Else-lacks_link) → (nodes_of c.args.pages.now c.args.stop.now.block).links ≡ c.links-links.result.now
items_are c = sym c.links-links.ensures

links_are : (c : Else-lacks_link) → from_low c.args.low.now (nodes_of c.args.pages.now c.args.stop.now.block).links ≡ from_low c.args.low.now c.links-links.result.now
links_are c = ap (from_low c.args.low.now) (items_are c)

-- nothing of 7 and 8 is wrong
not_seven : (c : Else-lacks_link) → HasWrongBound (nodes_of c.args.pages.now) c.args.stops.now (from_low c.args.low.now (nodes_of c.args.pages.now c.args.stop.now.block).links) → ⊥
not_seven c w =
    let k : false ≡ true = c.if-has_wrong_bound.ensures.1 (subst (HasWrongBound (nodes_of c.args.pages.now) c.args.stops.now) (links_are c) w) in
    absurd cc

not_eight : (c : Else-lacks_link) → LacksLink c.args.top (nodes_of c.args.pages.now c.args.stop.now.block) c.args.stop.now.left_is_split (get_or c.args.linked.now c.args.stop.now.block false) → ⊥
not_eight c w =
    let k : false ≡ true = c.if-lacks_link.ensures.1 w in
    absurd cc

pub has_extra-requires-clause-in_use : goal.has_extra-requires-clause-in_use
has_extra-requires-clause-in_use c item link found =
    c.requires.in_use item link
    (subst (λ (l : List Downlink). slice_get l item ≡ Some link) (sym (links_are (goal.at.has_extra-requires-clause-in_use c).Else-lacks_link)) found)

pub returns-then-has_extra-clause-least : goal.returns-then-has_extra-clause-least
returns-then-has_extra-clause-least c =
    let at = goal.at.returns-then-has_extra-clause-least c in
    least_nine (nodes_of c.args.pages.now) c.args.stops.now c.args.linked.now
    (from_low c.args.low.now (nodes_of c.args.pages.now c.args.stop.now.block).links) c.args.top (nodes_of c.args.pages.now c.args.stop.now.block) c.args.stop.now
    (not_seven at.Else-lacks_link) (not_eight at.Else-lacks_link)
    (subst (HasExtra (nodes_of c.args.pages.now) c.args.stops.now c.args.linked.now) (sym (links_are at.Else-lacks_link)) (c.if-has_extra.ensures.extra.0 refl))

pub returns-clause-least : goal.returns-clause-least
returns-clause-least c =
    let at = goal.at.returns-clause-least c in
    least_none (nodes_of c.args.pages.now) c.args.stops.now c.args.linked.now
    (from_low c.args.low.now (nodes_of c.args.pages.now c.args.stop.now.block).links) c.args.top (nodes_of c.args.pages.now c.args.stop.now.block) c.args.stop.now
    (not_seven at.Else-lacks_link) (not_eight at.Else-lacks_link)
    (λ w. let k : false ≡ true = c.if-has_extra.ensures.extra.1 (subst (HasExtra (nodes_of c.args.pages.now) c.args.stops.now c.args.linked.now) (links_are at.Else-lacks_link) w) in absurd cc)

pub returns-clause-noted : goal.returns-clause-noted
returns-clause-noted c =
    let at = goal.at.returns-clause-noted c in
    subst (λ (l : List Downlink). DownlinksAreNoted (from_low c.args.low.now l) (length l) c.args.linked.now c.has_extra.new.linked)
    (sym (items_are at.Else-lacks_link)) (c.if-has_extra.ensures.noted refl)
