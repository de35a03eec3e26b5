-- Which pages the format admits: of each kind, every condition on its fields and its items.
use Rattle.std.specs.Prelude.{◌≡◌, ℕ, ◌<◌, ◌≤◌, ◌^◌, ◌↔◌, true, false, Option, Some, None, IfSome, IsSome, IsNone, List, [], ◌∷◌, length}
use Rattle.std.specs.List.{AllByRecursion}
use Rattle.std.specs.Option.{option_cmp}
use Rattle.std.specs.Ordering.{is_lt}
use Rattle.index_model.specs.Row.{Row, IsRow}
use Rattle.index_model.specs.Order.{bound_cmp, bound_of, is_past, IsUpTo, IsAscending, IsEntry}
use Rattle.index_model.specs.declared.entry.Entry.{Entry}
use Rattle.index_model.specs.declared.bound.Bound.{Bound}
use Rattle.index_model.specs.declared.layout.Layout.{Layout}
use Rattle.index_model.specs.declared.layout.Layout.TheVariants.{One, Two}
use Rattle.page_codec.specs.declared.page.PageState.{PageState}
use Rattle.page_codec.specs.declared.page.PageState.TheVariants.{Live, HalfDead, Deleted}
use Rattle.page_codec.specs.declared.page.Downlink.{Downlink}
use Rattle.page_codec.specs.declared.page.Items.{Items}
use Rattle.page_codec.specs.declared.page.Items.TheVariants.{Meta, Entries, Downlinks}
use Rattle.page_codec.specs.declared.page.Page.{Page}

-- the number of a page other than the metapage: links and children are such numbers
abbrev pub IsBlock : ℕ → Type 0
IsBlock n = (0 < n) × (n < 65536)

-- what may stand after the key of a bound in this layout: a valid row; in layout 2 also none, after a key
-- that isn't empty, for the place before all its rows
abbrev pub IsRowIn : Layout → List ℕ → Option Row → Type 0
IsRowIn One key None = ⊥
IsRowIn Two key None = 0 < length key
IsRowIn One key (Some r) = IsRow r
IsRowIn Two key (Some r) = IsRow r

-- a bound as this layout has them: a valid entry, or the place before all rows of a key of 1 to 64 bytes
pub record IsBoundIn (layout : Layout) (b : Bound) : Type 0 where
  pub key : length b.key ≤ 64
  pub row : IsRowIn layout b.key b.row

-- the first of these, if there is one, stands in R to the item before them, and each to the one
-- before it
abbrev pub FollowedBy : {A : Type 0} → (A → A → Type 0) → A → List A → Type 0
FollowedBy R a [] = Unit {0}
FollowedBy R a (b ∷ bs) = R a b × FollowedBy R b bs

-- each item but the first stands in R to the one before it
abbrev pub Ascends : {A : Type 0} → (A → A → Type 0) → List A → Type 0
Ascends R [] = Unit {0}
Ascends R (a ∷ rest) = FollowedBy R a rest

-- the first entry is less than the second
abbrev pub EntryBefore : Entry → Entry → Type 0
EntryBefore a b = is_past (bound_of a) b ≡ true

-- the first downlink's bound is less than the second's, minus infinity being less than every bound
abbrev pub LinkBefore : Downlink → Downlink → Type 0
LinkBefore a b = is_lt (option_cmp bound_cmp a.bound b.bound) ≡ true

-- the downlink's bound is less than the high key; an absent high key is above every bound
abbrev pub Below : Option Bound → Downlink → Type 0
Below None d = Unit {0}
Below (Some high) d = is_lt (option_cmp bound_cmp d.bound (Some high)) ≡ true

-- the bound is minus infinity or one of the layout, and the child the number of a page
pub record IsDownlink (layout : Layout) (d : Downlink) : Type 0 where
  pub bound : IfSome d.bound (IsBoundIn layout)
  pub child : IsBlock d.child

-- the entry is less than the first of those after it, or, if it is the last, at most the high key
abbrev pub EntryInPlace : Option Bound → Entry → List Entry → Type 0
EntryInPlace high e [] = IsUpTo high e
EntryInPlace high e (x ∷ xs) = EntryBefore e x

-- the downlink's bound is less than that of the first of those after it, or, if it is the last, than the
-- high key
abbrev pub LinkInPlace : Option Bound → Downlink → List Downlink → Type 0
LinkInPlace high d [] = Below high d
LinkInPlace high d (x ∷ xs) = LinkBefore d x

-- valid entries, strictly ascending, each at most the high key
pub record AreEntries (high : Option Bound) (es : List Entry) : Type 0 where
  pub valid : AllByRecursion IsEntry es
  pub ascends : IsAscending es
  pub within : AllByRecursion (IsUpTo high) es

-- valid downlinks, their bounds strictly ascending, each less than the high key
pub record AreLinks (layout : Layout) (high : Option Bound) (ds : List Downlink) : Type 0 where
  pub valid : AllByRecursion (IsDownlink layout) ds
  pub ascends : Ascends LinkBefore ds
  pub within : AllByRecursion (Below high) ds

-- there is a first downlink, and its bound is minus infinity
abbrev pub StartsLow : List Downlink → Type 0
StartsLow [] = ⊥
StartsLow (d ∷ ds) = d.bound ≡ None

-- the metapage: block 0, the root's level in `level` and the root in `right`, and nothing else
pub record IsMeta (p : Page) : Type 0 where
  pub block : p.block ≡ 0
  pub level : p.level ≤ 31
  pub state : p.state ≡ Live
  pub split : p.split ≡ false
  pub cycle : p.cycle ≡ 0
  pub deletion : p.deletion ≡ 0
  pub left : IsNone p.left
  pub right : IsSome p.right
  pub high : IsNone p.high

-- a live leaf: a high key exactly if there is a right link, the incomplete split only with a right
-- link
pub record IsLiveLeaf (p : Page) (es : List Entry) : Type 0 where
  pub deletion : p.deletion ≡ 0
  pub high : IsSome p.high ↔ IsSome p.right
  pub split : p.split ≡ true → IsSome p.right
  pub entries : AreEntries p.high es

-- a half-dead leaf: a right link and a high key, no incomplete split and no entries
pub record IsHalfDeadLeaf (p : Page) (es : List Entry) : Type 0 where
  pub deletion : p.deletion ≡ 0
  pub high : IsSome p.high
  pub right : IsSome p.right
  pub split : p.split ≡ false
  pub entries : es ≡ []

-- a deleted leaf: a right link and its deletion number, and nothing else
pub record IsDeletedLeaf (p : Page) (es : List Entry) : Type 0 where
  pub left : IsNone p.left
  pub right : IsSome p.right
  pub high : IsNone p.high
  pub split : p.split ≡ false
  pub cycle : p.cycle ≡ 0
  pub entries : es ≡ []

-- the leaf is one of its state
abbrev pub IsLeafIn : PageState → Page → List Entry → Type 0
IsLeafIn Live p es = IsLiveLeaf p es
IsLeafIn HalfDead p es = IsHalfDeadLeaf p es
IsLeafIn Deleted p es = IsDeletedLeaf p es

-- a leaf: level 0, at most 50 entries, and what its state demands
pub record IsLeaf (p : Page) (es : List Entry) : Type 0 where
  pub block : IsBlock p.block
  pub level : p.level ≡ 0
  pub count : length es ≤ 50
  pub rest : IsLeafIn p.state p es

-- an internal page: it is live and of level 1 to 31; it has a high key exactly if it has a right link, and an
-- incomplete split only with one; it has 1 to 50 downlinks, of which the first has minus infinity
pub record IsInternal (p : Page) (ds : List Downlink) : Type 0 where
  pub block : IsBlock p.block
  pub level : (0 < p.level) × (p.level ≤ 31)
  pub state : p.state ≡ Live
  pub high : IsSome p.high ↔ IsSome p.right
  pub split : p.split ≡ true → IsSome p.right
  pub cycle : p.cycle ≡ 0
  pub deletion : p.deletion ≡ 0
  pub count : length ds ≤ 50
  pub first : StartsLow ds
  pub links : AreLinks p.layout p.high ds

-- the page is one of the kind that its items say
abbrev pub IsOfKind : Page → Items → Type 0
IsOfKind p Meta = IsMeta p
IsOfKind p (Entries v) = IsLeaf p v.items
IsOfKind p (Downlinks v) = IsInternal p v.items

-- the format admits the page
pub record IsPage (p : Page) : Type 0 where
  pub cycle : p.cycle < 2 ^ 32
  pub deletion : p.deletion < 2 ^ 64
  pub left : IfSome p.left IsBlock
  pub right : IfSome p.right IsBlock
  pub high : IfSome p.high (IsBoundIn p.layout)
  pub kind : IsOfKind p p.items
