use Rattle.std.proofs.Common.{◌≡◌, ◌<◌, Option, Some, ℕ, List, length, slice_get, sym, ap, ◌∙◌, arith}
use Rattle.amcheck.proofs.Imports.{slice_get_at, Page, nodes_of, node_from, links_at}
use Rattle.amcheck.proofs.Kept.{place_inside, links_are}
use Rattle.amcheck.proofs.pages.Pages.links.Goals.{After-index}
use Rattle.amcheck.proofs.pages.Pages.links.Goals as goal

found : (c : After-index) → slice_get c.self.inside.sketches.items c.args.block ≡ Some c.index.result.now
found c = slice_get_at c.self.inside.sketches.items c.args.block c.index.result.now (omega (arith, c.if-block-len.false, c.len.ensures)) c.index.ensures

-- its downlinks stand at the place that the sketch names
kept_at : (c : After-index) → links_at c.self.inside.whole.items c.index.result.now.place ≡ (nodes_of c.args.self.now c.args.block).links
kept_at c =
    links_are c.self.inside.list.value c.self.inside.whole.items c.self.inside.sketches.items c.self.invariant c.args.block c.index.result.now (found c)
    ∙ ap (λ (ps : List Page). (nodes_of ps c.args.block).links) c.self.view_is

inside : (c : After-index) (place : ℕ) → c.index.result.now.place ≡ Some place → place < length c.self.inside.whole.items
inside c place is = place_inside c.self.inside.list.value c.self.inside.whole.items c.self.inside.sketches.items c.self.invariant c.args.block c.index.result.now (found c) place is

pub index-requires-in-Some : goal.index-requires-in-Some
index-requires-in-Some c = (let lt = inside (goal.at.index-requires-in-Some c).After-index c.in-Some.place c.in-Some.is in omega (arith, lt))

pub returns-in-None : goal.returns-in-None
returns-in-None c = ap (links_at c.self.inside.whole.items) (sym c.in-None.is) ∙ kept_at (goal.at.returns-in-None c).After-index

pub returns-in-Some : goal.returns-in-Some
returns-in-Some c =
    let at = (goal.at.returns-in-Some c).After-index in
    let there : slice_get c.self.inside.whole.items c.in-Some.place ≡ Some c.index-in-Some.result.now =
    slice_get_at c.self.inside.whole.items c.in-Some.place c.index-in-Some.result.now (inside at c.in-Some.place c.in-Some.is) c.index-in-Some.ensures in
    c.links_on.ensures ∙ sym (ap (λ (o : Option Page). (node_from o).links) there) ∙ ap (links_at c.self.inside.whole.items) (sym c.in-Some.is) ∙ kept_at at
