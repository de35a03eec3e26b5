-- Each fact about stored pages has one proof at most, so a store may keep it.
use Rattle.std.specs.Prelude.{◌≡◌, ℕ, suc, Option, Some, None, List, [], ◌∷◌}
use Rattle.std.proofs.Props.{props}
use Rattle.std.specs.List.{AllByRecursion-prop}
use Rattle.std.specs.Coded.{×_prop, Unit-prop, Coded-set, coded_list}
use mathlib.Core.Sum.{⊎_set}
use Rattle.index_model.specs.Order.{IsEntry, IsPast, IsUpTo, AscendsPast, bound_of, coded_entry}
use Rattle.index_model.specs.declared.bound.Bound.{Bound}
use Rattle.index_model.specs.declared.entry.Entry.{Entry}
use Rattle.std.specs.Prelude.{IfSome}
use Rattle.index_model.specs.Row.{Row}
use Rattle.index_model.specs.Limits.{Admits}
use Rattle.index_model.specs.declared.format.Format.{Format}
use Rattle.index_model.specs.declared.layout.Layout.{Layout}
use Rattle.index_model.specs.declared.layout.Layout.TheVariants.{One, Two}
use Rattle.page_codec.specs.Grammar.{IsRowIn, IsBoundIn, IsDownlink, AreEntries, AreLinks, Ascends, FollowedBy, LinkBefore, Below, StartsLow, IsMeta, IsLeafIn, IsLeaf, IsInternal, IsOfKind, IsPage}
use Rattle.page_codec.specs.declared.page.Downlink.{Downlink}
use Rattle.page_codec.specs.declared.page.Items.{Items}
use Rattle.page_codec.specs.declared.page.Items.TheVariants.{Meta, Entries, Downlinks}
use Rattle.page_codec.specs.declared.page.Page.{Page}
use Rattle.page_codec.specs.declared.page.PageState.{PageState}
use Rattle.page_codec.specs.declared.page.PageState.TheVariants.{Live, HalfDead, Deleted}
use Rattle.page_action.specs.Stored.{IsStored, AreStored}

IsPast-prop : (low : Option Bound) (e : Entry) → IsProp (IsPast low e)
IsPast-prop None e = Unit-prop
IsPast-prop (Some low) e = hlevel props

IsUpTo-prop : (high : Option Bound) (e : Entry) → IsProp (IsUpTo high e)
IsUpTo-prop None e = Unit-prop
IsUpTo-prop (Some high) e = hlevel props

AscendsPast-prop : (low : Option Bound) (es : List Entry) → IsProp (AscendsPast low es)
AscendsPast-prop low [] = Unit-prop
AscendsPast-prop low (e ∷ es) = ×_prop (IsPast-prop low e) (AscendsPast-prop (Some (bound_of e)) es)

IsEntry-prop : (e : Entry) → IsProp (IsEntry e)
IsEntry-prop e = hlevel props

AreEntries-prop : (high : Option Bound) (es : List Entry) → IsProp (AreEntries high es)
AreEntries-prop high es = hlevel (props, AscendsPast-prop None es, AllByRecursion-prop _ IsEntry-prop es, AllByRecursion-prop _ (IsUpTo-prop high) es)

FollowedBy-prop : {A : Type 0} (R : A → A → Type 0) → ((a b : A) → IsProp (R a b))
    → (a : A) (as' : List A) → IsProp (FollowedBy R a as')
FollowedBy-prop R h a [] = Unit-prop
FollowedBy-prop R h a (b ∷ bs) = ×_prop (h a b) (FollowedBy-prop R h b bs)

Ascends-prop : {A : Type 0} (R : A → A → Type 0) → ((a b : A) → IsProp (R a b)) → (as' : List A)
    → IsProp (Ascends R as')
Ascends-prop R h [] = Unit-prop
Ascends-prop R h (a ∷ rest) = FollowedBy-prop R h a rest

IsRowIn-prop : (layout : Layout) (key : List ℕ) (r : Option Row) → IsProp (IsRowIn layout key r)
IsRowIn-prop One key None = λ a b. absurd a
IsRowIn-prop Two key None = hlevel props
IsRowIn-prop One key (Some r) = hlevel props
IsRowIn-prop Two key (Some r) = hlevel props

IsBoundIn-prop : (layout : Layout) (b : Bound) → IsProp (IsBoundIn layout b)
IsBoundIn-prop layout b = hlevel (props, IsRowIn-prop layout b.key b.row)

IfBound-prop : (layout : Layout) (b : Option Bound) → IsProp (IfSome b (IsBoundIn layout))
IfBound-prop layout None = Unit-prop
IfBound-prop layout (Some b) = IsBoundIn-prop layout b

Admits-prop : (a b : Layout) → IsProp (Admits a b)
Admits-prop One b = Unit-prop
Admits-prop Two One = λ a b. absurd a
Admits-prop Two Two = Unit-prop

IsDownlink-prop : (layout : Layout) (d : Downlink) → IsProp (IsDownlink layout d)
IsDownlink-prop layout d = hlevel (props, IfBound-prop layout d.bound)

Below-prop : (high : Option Bound) (d : Downlink) → IsProp (Below high d)
Below-prop None d = Unit-prop
Below-prop (Some high) d = hlevel props

LinkBefore-prop : (a b : Downlink) → IsProp (LinkBefore a b)
LinkBefore-prop a b = hlevel props

StartsLow-prop : (ds : List Downlink) → IsProp (StartsLow ds)
StartsLow-prop [] = λ a b. absurd a
StartsLow-prop (d ∷ ds) = hlevel (props, ⊎_set)

AreLinks-prop : (layout : Layout) (high : Option Bound) (ds : List Downlink) → IsProp (AreLinks layout high ds)
AreLinks-prop layout high ds = hlevel (props, Ascends-prop LinkBefore LinkBefore-prop ds, AllByRecursion-prop _ (IsDownlink-prop layout) ds, AllByRecursion-prop _ (Below-prop high) ds)

state_set : (a b : PageState) → IsProp (a ≡ b)
state_set a b = hlevel (props, ⊎_set)

entries_set : (a b : List Entry) → IsProp (a ≡ b)
entries_set a b = Coded-set (coded_list coded_entry) a b

IsMeta-prop : (p : Page) → IsProp (IsMeta p)
IsMeta-prop p = hlevel (props, state_set p.state Live)

IsLeafIn-prop : (s : PageState) (p : Page) (es : List Entry) → IsProp (IsLeafIn s p es)
IsLeafIn-prop Live p es = hlevel (props, AreEntries-prop p.high es)
IsLeafIn-prop HalfDead p es = hlevel (props, entries_set es [])
IsLeafIn-prop Deleted p es = hlevel (props, entries_set es [])

IsLeaf-prop : (p : Page) (es : List Entry) → IsProp (IsLeaf p es)
IsLeaf-prop p es = hlevel (props, IsLeafIn-prop p.state p es)

IsInternal-prop : (p : Page) (ds : List Downlink) → IsProp (IsInternal p ds)
IsInternal-prop p ds =
    hlevel (props, state_set p.state Live, StartsLow-prop ds, AreLinks-prop p.layout p.high ds)

IsOfKind-prop : (p : Page) (items : Items) → IsProp (IsOfKind p items)
IsOfKind-prop p Meta = IsMeta-prop p
IsOfKind-prop p (Entries v) = IsLeaf-prop p v.items
IsOfKind-prop p (Downlinks v) = IsInternal-prop p v.items

IsPage-prop : (p : Page) → IsProp (IsPage p)
IsPage-prop p = hlevel (props, IfBound-prop p.layout p.high, IsOfKind-prop p p.items)

pub IsStored-prop : (format : Format) (block : ℕ) (p : Page) → IsProp (IsStored format block p)
IsStored-prop format block p = hlevel (props, IsPage-prop p, Admits-prop format.layout p.layout)

pub AreStored-prop : (format : Format) (block : ℕ) (pages : List Page)
    → IsProp (AreStored format block pages)
AreStored-prop format block [] = Unit-prop
AreStored-prop format block (page ∷ pages) =
    ×_prop (IsStored-prop format block page) (AreStored-prop format (suc block) pages)
