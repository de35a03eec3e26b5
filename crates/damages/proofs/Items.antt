-- What the format says of the items of a page, and what is left to be judged of them.
use Rattle.std.proofs.Common.{◌≡◌, ◌↔◌, ℕ, zero, suc, ◌<◌, Bool, true, false, List, [], ◌∷◌, Option, Some, None, is_some, refl, sym, ap, subst, ◌∙◌, arith}
use Rattle.damages.proofs.Imports.{AllByRecursion, bound_of, IsUpTo, AscendsPast, Bound, Entry, entries_of, IsPage, IsOfKind, Ascends, StartsLow, FollowedBy, LinkBefore, Below, IsLeafIn, Downlink}
use Rattle.damages.proofs.Imports.{Items, Meta, Entries, Downlinks, Page, PageState, Live, HalfDead, Deleted, links_of, node_of, AscendWithin, BoundsWithin, LinksWithin, IsBoundWithin, HasItems}
use Rattle.damages.proofs.Imports.{IsFirstBeyond, IsSecondBeyond, IsBoundBeyond}

ascend_more : (b : Bound) (es : List Entry) (high : Option Bound) → AscendsPast (Some b) es → AllByRecursion (IsUpTo high) es → AscendWithin (Some b) es high
ascend_more b [] high up within = tt
ascend_more b (e ∷ es) (Some h) up within = (up.0, within.0, ascend_more (bound_of e) es (Some h) up.1 within.1)
ascend_more b (e ∷ es) None up within = (up.0, tt, ascend_more (bound_of e) es None up.1 within.1)

-- entries that the format admits ascend within the low and the high key, where the first lies beyond the low
pub entries_within : (low : Option Bound) (es : List Entry) (high : Option Bound) → AscendsPast None es → AllByRecursion (IsUpTo high) es
    → IsFirstBeyond low es → AscendWithin low es high
entries_within low [] high up within first = tt
entries_within low (e ∷ es) (Some h) up within first = (first, within.0, ascend_more (bound_of e) es (Some h) up.1 within.1)
entries_within low (e ∷ es) None up within first = (first, tt, ascend_more (bound_of e) es None up.1 within.1)

bound_within : (low bound before high : Option Bound) (child child' : ℕ) → IsBoundBeyond low bound → Below high (record { bound = bound; child = child })
    → IsBoundWithin low bound high
bound_within low None before high child child' beyond below = absurd beyond
bound_within low (Some s) before (Some h) child child' beyond below = (beyond, below)
bound_within low (Some s) before None child child' beyond below = (beyond, tt)

beyond_before : (s : Bound) (bound : Option Bound) (child child' : ℕ)
    → LinkBefore (record { bound = Some s; child = child }) (record { bound = bound; child = child' }) → IsBoundBeyond (Some s) bound
beyond_before s None child child' h = absurd cc
beyond_before s (Some t) child child' h = h

bounds_more : (d : Downlink) (s : Bound) (ds : List Downlink) (high : Option Bound) → d.bound ≡ Some s → FollowedBy LinkBefore d ds
    → AllByRecursion (Below high) ds → BoundsWithin (Some s) ds high
bounds_more d s [] high is up below = tt
bounds_more d s (j ∷ js) high is up below = go j.bound refl (λ t e. bounds_more j t js high e up.1 below.1)
  where
    beyond : IsBoundBeyond (Some s) j.bound
    beyond = beyond_before s j.bound d.child j.child (subst (λ (o : Option Bound). LinkBefore (record { bound = o; child = d.child }) j) is up.0)

    go : (o : Option Bound) → j.bound ≡ o → ((t : Bound) → j.bound ≡ Some t → BoundsWithin (Some t) js high) → BoundsWithin (Some s) (j ∷ js) high
    go None e more = absurd (subst (IsBoundBeyond (Some s)) e beyond)
    go (Some t) e more = (
      bound_within (Some s) j.bound None high j.child 0 beyond below.0,
      subst (λ (o : Option Bound). BoundsWithin o js high) (sym e) (more t e),
    )

-- downlinks that the format admits ascend within the low and the high key, if the second lies beyond the low
pub links_within : (low : Option Bound) (d : Downlink) (ds : List Downlink) (high : Option Bound) → d.bound ≡ None → FollowedBy LinkBefore d ds
    → AllByRecursion (Below high) ds → IsSecondBeyond low (d ∷ ds)
    → LinksWithin low (d ∷ ds) high
links_within low d [] high first up below second = (first, tt)
links_within low d (j ∷ js) high first up below second = (first, go j.bound refl)
  where
    go : (o : Option Bound) → j.bound ≡ o → BoundsWithin low (j ∷ js) high
    go None e = absurd (subst (IsBoundBeyond low) e second)
    go (Some t) e = (
      bound_within low j.bound None high j.child 0 second below.0,
      subst (λ (o : Option Bound). BoundsWithin o js high) (sym e) (bounds_more j t js high e up.1 below.1),
    )

-- what a live page of the format that isn't the metapage holds
pub items_are : (page : Page) (low : Option Bound) → IsPage page → 0 < page.block → page.state ≡ Live → IsFirstBeyond low (entries_of page.items)
    → IsSecondBeyond low (links_of page.items) → HasItems page.level low (node_of page)
items_are page low admitted after_meta alive first second = by page.items refl admitted.kind
  where
    by : (items : Items) → page.items ≡ items → IsOfKind page items → HasItems page.level low (node_of page)
    by Meta is k = absurd (let b = k.block in omega arith)
    by (Entries v) is k =
        let rest = subst (λ (s : PageState). IsLeafIn s page v.items) alive k.rest in
        subst (λ (n : ℕ). HasItems n low (node_of page)) (sym k.level)
        (subst (λ (i : Items). AscendWithin low (entries_of i) page.high) (sym is)
        (entries_within low v.items page.high rest.entries.ascends rest.entries.within (subst (λ (i : Items). IsFirstBeyond low (entries_of i)) is first)))
    by (Downlinks v) is k = tall page.level refl k.level.0
      where
        links : (ds : List Downlink) → v.items ≡ ds → LinksWithin low v.items page.high
        links [] e = absurd (go v.items e k.first)
          where
            go : (ds : List Downlink) → ds ≡ [] → StartsLow ds → ⊥
            go [] e h = h
            go (x ∷ xs) e h = cc
        links (d ∷ ds) e =
            let below = subst (AllByRecursion (Below page.high)) e k.links.within in
            let second' = subst (λ (i : Items). IsSecondBeyond low (links_of i)) is second in
            subst (λ (l : List Downlink). LinksWithin low l page.high) (sym e)
            (links_within low d ds page.high (subst StartsLow e k.first) (subst (Ascends LinkBefore) e k.links.ascends) below.1 (subst (IsSecondBeyond low) e second'))

        tall : (n : ℕ) → page.level ≡ n → 0 < n → HasItems page.level low (node_of page)
        tall zero e pos = absurd (omega arith)
        tall (suc n) e pos =
            subst (λ (n : ℕ). HasItems n low (node_of page)) (sym e)
            (subst (λ (i : Items). LinksWithin low (links_of i) page.high) (sym is) (links v.items refl))

bools_alike : (a b : Bool) → ((a ≡ true) ↔ (b ≡ true)) → a ≡ b
bools_alike true true h = refl
bools_alike true false h = sym (h.0 refl)
bools_alike false true h = h.1 refl
bools_alike false false h = refl

both_true : (a b : Bool) → a ≡ true → b ≡ true → a ≡ b
both_true a b p q = p ∙ sym q

-- a page of a level that isn't deleted has a high key exactly if it has a right link
pub high_as_right : (page : Page) → IsPage page → 0 < page.block → (page.state ≡ Deleted → ⊥) → is_some page.high ≡ is_some page.right
high_as_right page admitted after_meta stands = by page.items admitted.kind
  where
    by : (items : Items) → IsOfKind page items → is_some page.high ≡ is_some page.right
    by Meta k = absurd (let b = k.block in omega arith)
    by (Downlinks v) k = bools_alike (is_some page.high) (is_some page.right) k.high
    by (Entries v) k = state page.state refl
      where
        state : (s : PageState) → page.state ≡ s → is_some page.high ≡ is_some page.right
        state Live e = bools_alike (is_some page.high) (is_some page.right) (subst (λ (s : PageState). IsLeafIn s page v.items) e k.rest).high
        state HalfDead e = (let r = subst (λ (s : PageState). IsLeafIn s page v.items) e k.rest in both_true (is_some page.high) (is_some page.right) r.high r.right)
        state Deleted e = absurd (stands e)

-- what the format says of a half-dead page
pub record IsHalfDeadPage (page : Page) : Type 0 where
  pub level : page.level ≡ 0
  pub entries : entries_of page.items ≡ []
  pub split : page.split ≡ false
  pub high : is_some page.high ≡ true

pub half_dead_is : (page : Page) → IsPage page → 0 < page.block → page.state ≡ HalfDead → IsHalfDeadPage page
half_dead_is page admitted after_meta dead = by page.items refl admitted.kind
  where
    by : (items : Items) → page.items ≡ items → IsOfKind page items → IsHalfDeadPage page
    by Meta is k = absurd (let b = k.block in omega arith)
    by (Downlinks v) is k = absurd (differ (sym k.state ∙ dead))
      where
        differ : Live ≡ HalfDead → ⊥
        differ e = cc
    by (Entries v) is k =
        let r = subst (λ (s : PageState). IsLeafIn s page v.items) dead k.rest in
        record {
          level = k.level;
          entries = ap entries_of is ∙ r.entries;
          split = r.split;
          high = r.high;
        }

-- a leaf has no downlinks, and another page of a level no entries
pub leaf_links : (page : Page) → IsPage page → 0 < page.block → page.level ≡ 0 → links_of page.items ≡ []
leaf_links page admitted after_meta leaf = by page.items refl admitted.kind
  where
    by : (items : Items) → page.items ≡ items → IsOfKind page items → links_of page.items ≡ []
    by Meta is k = absurd (let b = k.block in omega arith)
    by (Downlinks v) is k = absurd (let l = k.level.0 in omega arith)
    by (Entries v) is k = ap links_of is

pub upper_entries : (page : Page) → IsPage page → 0 < page.block → 0 < page.level → entries_of page.items ≡ []
upper_entries page admitted after_meta upper = by page.items refl admitted.kind
  where
    by : (items : Items) → page.items ≡ items → IsOfKind page items → entries_of page.items ≡ []
    by Meta is k = absurd (let b = k.block in omega arith)
    by (Downlinks v) is k = ap entries_of is
    by (Entries v) is k = absurd (let l = k.level in omega arith)

-- a page of block 0 is the metapage
pub meta_is : (page : Page) → IsPage page → page.block ≡ 0 → page.items ≡ Meta
meta_is page admitted first = by page.items refl admitted.kind
  where
    by : (items : Items) → page.items ≡ items → IsOfKind page items → page.items ≡ Meta
    by Meta is k = is
    by (Downlinks v) is k = absurd (let b = k.block.0 in omega arith)
    by (Entries v) is k = absurd (let b = k.block.0 in omega arith)
