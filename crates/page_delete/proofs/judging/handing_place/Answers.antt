use Rattle.std.proofs.Common.{◌≡◌, ◌≢◌, ℕ, suc, ◌<◌, List, length, sym, subst, arith}
use Rattle.std.proofs.Common.{take, All}
use Rattle.page_delete.proofs.Imports.{Downlink, child_at, links_of, false≢true}
use Rattle.page_delete.proofs.Dying.{same_place}
use Rattle.page_delete.proofs.judging.handing_place.Goals as goal

pub returns-in_default-clause-none : goal.returns-in_default-clause-none
returns-in_default-clause-none c at h =
    let links = links_of c.args.parent.now.items in
    let on : c.links_on-links.result.now ≡ links = c.links_on-links.ensures in
    let same = same_place links c.args.leaf c.in-Some.at at (subst (λ (l : List Downlink). c.in-Some.at < length l) on c.in-Some.ensures.inside) (let lt = h.place.next_inside in omega arith)
    (subst (λ (l : List Downlink). child_at l c.in-Some.at ≡ c.args.leaf) on c.in-Some.ensures.leads) h.place.leads
    (subst (λ (l : List Downlink). All (λ (d : Downlink). d.child ≢ c.args.leaf) (take c.in-Some.at l)) on c.in-Some.ensures.first) h.place.first in
    false≢true (c.if-next_leads.ensures.1 (subst (λ (l : List Downlink). (suc c.in-Some.at < length l) × (child_at l (suc c.in-Some.at) ≡ c.args.right)) (sym on)
    (subst (λ (k : ℕ). (suc k < length links) × (child_at links (suc k) ≡ c.args.right)) (sym same) (h.place.next_inside, h.place.next))))
