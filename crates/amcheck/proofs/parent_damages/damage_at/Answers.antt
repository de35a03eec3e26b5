use Rattle.std.proofs.Common.{◌≡◌, ◌<◌, ◌≤◌, ◌+◌, ◌-◌, ℕ, List, Option, Some, None, slice_get, get_or, length, refl, subst, arith}
use Rattle.amcheck.proofs.Imports.{slice_get-get_or, Bound, Downlink, from_low, nodes_of, index_of, IsOff, AreBelow, DownlinksAreNoted, IsWrongAmong, AreChildrenBelow, high_at, IsLeastNumber}
use Rattle.amcheck.proofs.Imports.{Stop}
use Rattle.amcheck.proofs.Found.{no_stop}
use Rattle.amcheck.proofs.ParentDamages.{blocks_once, stops_in_use, stop_low, children_below, child_off, page_first, page_clear, marked_more}
use Rattle.amcheck.proofs.parent_damages.damage_at.Goals.{Start}
use Rattle.amcheck.proofs.parent_damages.damage_at.Goals as goal

abbrev stop : List Stop → ℕ → Stop
stop stops place = get_or stops place no_stop

there : (c : Start) → slice_get c.args.stops.now c.args.place ≡ Some (stop c.args.stops.now c.args.place)
there c = slice_get-get_or c.args.stops.now c.args.place no_stop c.requires.inside

in_use : (c : Start) → (stop c.args.stops.now c.args.place).block < length c.args.pages.now
in_use c = (stops_in_use c.args.pages.now c.args.stops.now c.requires.stops c.requires.sound c.args.place (stop c.args.stops.now c.args.place) (there c)).1

low_level : (c : Start) → (nodes_of c.args.pages.now (stop c.args.stops.now c.args.place).block).level ≤ (index_of c.args.pages.now).top
low_level c = stop_low c.args.pages.now c.args.stops.now c.requires.stops c.requires.sound c.args.place (stop c.args.stops.now c.args.place) (there c)

pub sketch-requires : goal.sketch-requires
sketch-requires c = in_use (goal.at.sketch-requires c).Start

abbrev links : Start → List Downlink
links t = from_low (high_at (nodes_of t.args.pages.now) (stop t.args.stops.now t.args.place).low_at) (nodes_of t.args.pages.now (stop t.args.stops.now t.args.place).block).links

-- the downlinks as they were read
links_are : (t : Start) (low : Option Bound) (read : List Downlink)
    → low ≡ high_at (nodes_of t.args.pages.now) (stop t.args.stops.now t.args.place).low_at
    → read ≡ (nodes_of t.args.pages.now (stop t.args.stops.now t.args.place).block).links → from_low low read ≡ links t
links_are t low read low_is read_is = (λ i. from_low (low_is i) (read_is i))

pub overflow_sub-top : goal.overflow_sub-top
overflow_sub-top c =
    let t = (goal.at.overflow_sub-top c).Start in
    omega (arith, low_level t, c.sketch.ensures.is.level, c.requires.top)

pub find_off-requires : goal.find_off-requires
find_off-requires c =
    let t = (goal.at.find_off-requires c).Start in
    omega (arith, low_level t, c.sketch.ensures.is.level, c.requires.top)

sum : (t : Start) (level : ℕ) → level ≡ (nodes_of t.args.pages.now (stop t.args.stops.now t.args.place).block).level
    → (nodes_of t.args.pages.now (stop t.args.stops.now t.args.place).block).level + (t.args.top - level) ≡ (index_of t.args.pages.now).top
sum t level is = omega (arith, low_level t, is, t.requires.top)

pub returns-in-Some-clause-first : goal.returns-in-Some-clause-first
returns-in-Some-clause-first c =
    let t = (goal.at.returns-in-Some-clause-first c).Start in
    let level = c.sketch.result.now.level in
    child_off c.args.pages.now c.args.stops.now c.requires.stops c.requires.sound c.args.place (stop c.args.stops.now c.args.place) (there t)
    (c.args.top - level) (sum t level c.sketch.ensures.is.level) c.in-Some.child
    (subst (λ (l : List Downlink). IsOff (index_of c.args.pages.now) (c.args.top - level) l c.in-Some.child)
    (links_are t c.low-low.result c.links-links.result.now c.low-low.ensures c.links-links.ensures) c.in-Some.ensures.some)

pub find_parent_number-requires-clause-once : goal.find_parent_number-requires-clause-once
find_parent_number-requires-clause-once c = blocks_once c.args.pages.now c.args.stops.now c.requires.stops c.requires.sound

pub find_parent_number-requires-clause-stop : goal.find_parent_number-requires-clause-stop
find_parent_number-requires-clause-stop c = in_use (goal.at.find_parent_number-requires-clause-stop c).Start

pub find_parent_number-requires-clause-in_use : goal.find_parent_number-requires-clause-in_use
find_parent_number-requires-clause-in_use c item link found =
    let t = (goal.at.find_parent_number-requires-clause-in_use c).Start in
    let level = c.sketch.result.now.level in
    let all = subst (AreBelow (index_of c.args.pages.now) (c.args.top - level))
    (links_are t c.low-low.result c.links-links.result.now c.low-low.ensures c.links-links.ensures) c.in_default.ensures.none in
    (all item link (subst (λ (o : Option Bound). slice_get (from_low o (nodes_of c.args.pages.now (stop c.args.stops.now c.args.place).block).links) item ≡ Some link) c.low-low.ensures found)).in_use

-- what was found, in the words of the stop
least : (t : Start) (low : Option Bound) (top : ℕ) (o : Option ℕ) → low ≡ high_at (nodes_of t.args.pages.now) (stop t.args.stops.now t.args.place).low_at → top ≡ (index_of t.args.pages.now).top
    → IsLeastNumber (IsWrongAmong (nodes_of t.args.pages.now) t.args.stops.now t.args.linked.now (from_low low (nodes_of t.args.pages.now (stop t.args.stops.now t.args.place).block).links) top
    (nodes_of t.args.pages.now (stop t.args.stops.now t.args.place).block) (stop t.args.stops.now t.args.place)) o
    → IsLeastNumber (IsWrongAmong (nodes_of t.args.pages.now) t.args.stops.now t.args.linked.now (links t) (index_of t.args.pages.now).top
    (nodes_of t.args.pages.now (stop t.args.stops.now t.args.place).block) (stop t.args.stops.now t.args.place)) o
least t low top o low_is top_is found =
    subst (λ (l : Option Bound).
    IsLeastNumber (IsWrongAmong (nodes_of t.args.pages.now) t.args.stops.now t.args.linked.now
    (from_low l (nodes_of t.args.pages.now (stop t.args.stops.now t.args.place).block).links) (index_of t.args.pages.now).top
    (nodes_of t.args.pages.now (stop t.args.stops.now t.args.place).block) (stop t.args.stops.now t.args.place)) o) low_is
    (subst (λ (n : ℕ). IsLeastNumber
    (IsWrongAmong (nodes_of t.args.pages.now) t.args.stops.now t.args.linked.now (from_low low (nodes_of t.args.pages.now (stop t.args.stops.now t.args.place).block).links) n
    (nodes_of t.args.pages.now (stop t.args.stops.now t.args.place).block) (stop t.args.stops.now t.args.place)) o) top_is found)

children : (t : Start) (level : ℕ) (low : Option Bound) (read : List Downlink) → level ≡ (nodes_of t.args.pages.now (stop t.args.stops.now t.args.place).block).level
    → low ≡ high_at (nodes_of t.args.pages.now) (stop t.args.stops.now t.args.place).low_at → read ≡ (nodes_of t.args.pages.now (stop t.args.stops.now t.args.place).block).links
    → AreBelow (index_of t.args.pages.now) (t.args.top - level) (from_low low read) → AreChildrenBelow (index_of t.args.pages.now) t.args.stops.now t.args.place
children t level low read is low_is read_is all =
    children_below t.args.pages.now t.args.stops.now t.requires.stops t.requires.sound t.args.place (stop t.args.stops.now t.args.place) (there t) (t.args.top - level) (sum t level is)
    (subst (AreBelow (index_of t.args.pages.now) (t.args.top - level)) (links_are t low read low_is read_is) all)

pub returns-in-None-clause-clear : goal.returns-in-None-clause-clear
returns-in-None-clause-clear c =
    let t = (goal.at.returns-in-None-clause-clear c).Start in
    page_clear c.args.pages.now c.args.stops.now c.requires.stops c.requires.sound c.args.place (stop c.args.stops.now c.args.place) (there t) c.args.linked.now c.requires.marked c.requires.clear
    (children t c.sketch.result.now.level c.low-low.result c.links-links.result.now c.sketch.ensures.is.level c.low-low.ensures c.links-links.ensures c.in_default.ensures.none)
    (least t c.low-low.result c.args.top None c.low-low.ensures c.requires.top c.in-None.ensures.least)

pub returns-in-None-clause-marked : goal.returns-in-None-clause-marked
returns-in-None-clause-marked c =
    let t = (goal.at.returns-in-None-clause-marked c).Start in
    let s = stop c.args.stops.now c.args.place in
    marked_more c.args.pages.now c.args.stops.now c.requires.stops c.requires.sound c.args.place s (there t) c.args.linked.now c.requires.marked c.requires.clear
    c.find_parent_number.new.linked (length (nodes_of c.args.pages.now s.block).links) refl
    (subst (λ (o : Option Bound).
    DownlinksAreNoted (from_low o (nodes_of c.args.pages.now s.block).links) (length (nodes_of c.args.pages.now s.block).links) c.args.linked.now
    c.find_parent_number.new.linked) c.low-low.ensures c.in-None.ensures.noted)

pub returns-in-Some-find_parent_number-clause-first :
    goal.returns-in-Some-find_parent_number-clause-first
returns-in-Some-find_parent_number-clause-first c =
    let t = (goal.at.returns-in-Some-find_parent_number-clause-first c).Start in
    page_first c.args.pages.now c.args.stops.now c.requires.stops c.requires.sound c.args.place (stop c.args.stops.now c.args.place) (there t)
    c.args.linked.now c.requires.marked c.requires.clear c.in-Some-find_parent_number.number
    (children t c.sketch.result.now.level c.low-low.result c.links-links.result.now c.sketch.ensures.is.level c.low-low.ensures c.links-links.ensures c.in_default.ensures.none)
    (least t c.low-low.result c.args.top (Some c.in-Some-find_parent_number.number) c.low-low.ensures c.requires.top c.in-Some-find_parent_number.ensures.least)
