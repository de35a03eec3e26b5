-- What each edit leaves of a page of a unique index is such a page.
use Rattle.std.proofs.Common.{◌≡◌, ◌≢◌, ℕ, zero, suc, ◌-◌, Bool, true, inl, inr, Option, Some, None, List, [], ◌∷◌, ◌++◌, length, slice_get, refl, sym, ap, subst, arith}
use Rattle.std.specs.List.{AllByRecursion, filter}
use Rattle.tree_shape.proofs.Imports.{cases_Bool, exact_bytes, IfSome, option_cmp, is_lt, ordering_then, Ordering, Less, Equal, Greater, key_cmp, row_cmp, bound_of, last_or, IsBefore, Bound}
use Rattle.tree_shape.proofs.Imports.{Entry, AllByRecursion-append, AllByRecursion-front, AllByRecursion-back, Ascends, FollowedBy, Downlink, Page, IsBeyond, IsPutIn, IsBeforeFirst, LeafHalves}
use Rattle.tree_shape.proofs.Imports.{IsLinkAdded, LinkHalves, IsLinkHandedOn, with_leaf, with_links, new_root, IsKeyBound, KeyBefore, IsKeyFree, IsKeyLink, IsUniqueNode, IsUniquePage, AreUnique}
use Rattle.tree_shape.proofs.Imports.{Node, IsCutOf}
use Rattle.tree_shape.proofs.KeyPages.{key_chain, tail_ascends}

-- a page among those of a unique index
pub unique_page : (pages : List Page) (block : ℕ) (page : Page) → AreUnique pages → slice_get pages block ≡ Some page → IsUniquePage page
unique_page [] block page h found = absurd cc
unique_page (p ∷ pages) zero page h found = (let same : p ≡ page = cc in subst (λ (q : Page). IsUniquePage q) same h.0)
unique_page (p ∷ pages) (suc block) page h found = unique_page pages block page h.1 found

-- of two entries with other keys that ascend, the keys ascend
pub before_key : (a b : Entry) → IsBefore (bound_of a) (bound_of b) → a.key ≢ b.key → KeyBefore a b
before_key a b h differ = by (key_cmp a.key b.key) refl h
  where
    by : (o : Ordering) → key_cmp a.key b.key ≡ o → is_lt (ordering_then o (option_cmp row_cmp (Some a.row) (Some b.row))) ≡ true → is_lt (key_cmp a.key b.key) ≡ true
    by Less e h = ap is_lt e
    by Equal e h = absurd (differ (exact_bytes a.key b.key e))
    by Greater e h = absurd cc

-- an entry is put among others of which none has its key
before_above : (e : Entry) (above : List Entry) → IsBeforeFirst e above → Ascends KeyBefore above → IsKeyFree e.key above → FollowedBy KeyBefore e above
before_above e [] first h free = tt
before_above e (y ∷ ys) first h free = (before_key e y first (λ same. free.0 (sym same)), h)

followed_put : (a : Entry) (below above : List Entry) (e : Entry) → FollowedBy KeyBefore a (below ++ above) → IsBeyond (last_or (Some (bound_of a)) below) (bound_of e) → IsBeforeFirst e above
    → a.key ≢ e.key → IsKeyFree e.key (below ++ above) → FollowedBy KeyBefore a (below ++ e ∷ above)
followed_put a [] above e h past first other free = (before_key a e past other, before_above e above first (tail_ascends a above h) free)
followed_put a (x ∷ below) above e h past first other free = (h.0, followed_put x below above e h.1 past first free.0 free.1)

put_between : (e : Entry) (below above : List Entry) → Ascends KeyBefore (below ++ above) → IsBeyond (last_or None below) (bound_of e) → IsBeforeFirst e above → IsKeyFree e.key (below ++ above)
    → Ascends KeyBefore (below ++ e ∷ above)
put_between e [] above h past first free = before_above e above first h free
put_between e (a ∷ below) above h past first free = followed_put a below above e h past first free.0 free.1

pub keys_put : (e : Entry) (es after : List Entry) → IsPutIn e es after → Ascends KeyBefore es → IsKeyFree e.key es → Ascends KeyBefore after
keys_put e es after put h free =
    subst (λ (l : List Entry). Ascends KeyBefore l) (sym put.after_is)
    (put_between e put.below put.above (subst (λ (l : List Entry). Ascends KeyBefore l) put.before_is h) put.past_last put.before_first
    (subst (λ (l : List Entry). IsKeyFree e.key l) put.before_is free))

-- entries that pass a test, in their order
skip_one : (a x : Entry) (es : List Entry) → KeyBefore a x → FollowedBy KeyBefore x es → FollowedBy KeyBefore a es
skip_one a x [] p h = tt
skip_one a x (y ∷ ys) p h = (key_chain a x y p h.0, h.1)

followed_filter : (keeps : Entry → Bool) (a : Entry) (es : List Entry) → FollowedBy KeyBefore a es → FollowedBy KeyBefore a (filter keeps es)
followed_filter keeps a [] h = tt
followed_filter keeps a (x ∷ xs) h = elim (cases_Bool (keeps x)) [
  | inl is ↦ rw is (h.0, followed_filter keeps x xs h.1)
  | inr is ↦ rw is (followed_filter keeps a xs (skip_one a x xs h.0 h.1))
]

pub keys_filter : (keeps : Entry → Bool) (es : List Entry) → Ascends KeyBefore es → Ascends KeyBefore (filter keeps es)
keys_filter keeps [] h = tt
keys_filter keeps (x ∷ xs) h = elim (cases_Bool (keeps x)) [
  | inl is ↦ rw is (followed_filter keeps x xs h)
  | inr is ↦ rw is (keys_filter keeps xs (tail_ascends x xs h))
]

-- the two parts of entries
followed_front : (a : Entry) (xs ys : List Entry) → FollowedBy KeyBefore a (xs ++ ys) → FollowedBy KeyBefore a xs
followed_front a [] ys h = tt
followed_front a (x ∷ xs) ys h = (h.0, followed_front x xs ys h.1)

pub keys_front : (xs ys : List Entry) → Ascends KeyBefore (xs ++ ys) → Ascends KeyBefore xs
keys_front [] ys h = tt
keys_front (x ∷ xs) ys h = followed_front x xs ys h

pub keys_back : (xs ys : List Entry) → Ascends KeyBefore (xs ++ ys) → Ascends KeyBefore ys
keys_back [] ys h = h
keys_back (x ∷ xs) ys h = keys_back xs ys (tail_ascends x (xs ++ ys) h)

-- the keys at a cut differ
keys_part : (left right : List Entry) (last next : Entry) → Ascends KeyBefore (left ++ right) → slice_get left (length left - 1) ≡ Some last → slice_get right 0 ≡ Some next → KeyBefore last next
keys_part [] right last next h ends begins = absurd cc
keys_part (x ∷ []) [] last next h ends begins = absurd cc
keys_part (x ∷ []) (y ∷ ys) last next h ends begins =
    let left_is : x ≡ last = cc in
    let right_is : y ≡ next = cc in
    subst (λ (a : Entry). KeyBefore a next) left_is (subst (λ (b : Entry). KeyBefore x b) right_is h.0)
keys_part (x ∷ z ∷ xs) right last next h ends begins =
    let fewer : length (x ∷ z ∷ xs) - 1 ≡ suc (length (z ∷ xs) - 1) = omega arith in
    keys_part (z ∷ xs) right last next h.1 (subst (λ (n : ℕ). slice_get (x ∷ z ∷ xs) n ≡ Some last) fewer ends) begins

-- ... so that its separator has no row
pub cut_of_keys : (left right : List Entry) (s : Bound) → Ascends KeyBefore (left ++ right) → IsCutOf left right s → IsKeyBound s
cut_of_keys left right s h cut = (cut.is.shortened (keys_part left right cut.last cut.next h cut.ends cut.begins)).1

-- a leaf with an entry more, or with fewer
pub unique_put : (node : Node) (e : Entry) (after : List Entry) → IsUniqueNode node → IsPutIn e node.entries after → IsKeyFree e.key node.entries → IsUniqueNode (with_leaf node after)
unique_put node e after h put free = record { high = h.high; bounds = h.bounds; keys = keys_put e node.entries after put h.keys free }

-- both halves of a leaf with an entry more
pub unique_halves : (node left right : Node) (b new : ℕ) (e : Entry) → IsUniqueNode node → IsKeyFree e.key node.entries → LeafHalves node b new e left right
    → IfSome left.high (IsCutOf left.entries right.entries) → IsUniqueNode left × IsUniqueNode right
unique_halves node left right b new e h free halves cut = (
  subst (λ (n : Node). IsUniqueNode n) (sym halves.left_is) (record { high = key_bound; bounds = h.bounds; keys = keys_front front back both }),
  subst (λ (n : Node). IsUniqueNode n) (sym halves.right_is) (record { high = h.high; bounds = h.bounds; keys = keys_back front back both }),
)
  where
    front : List Entry
    front = halves.first ∷ halves.front

    back : List Entry
    back = halves.middle ∷ halves.back

    both : Ascends KeyBefore (front ++ back)
    both = keys_put e node.entries (front ++ back) halves.put h.keys free

    cut_is : IsCutOf front back halves.separator
    cut_is = subst (λ (n : Node). IsCutOf front n.entries halves.separator) halves.right_is
        (subst (λ (n : Node). IfSome n.high (IsCutOf n.entries right.entries)) halves.left_is cut)

    key_bound : IsKeyBound halves.separator
    key_bound = cut_of_keys front back halves.separator both cut_is

-- a downlink
abbrev link : Option Bound → ℕ → Downlink
link bound child = record { bound = bound; child = child }

-- an internal page with a downlink more
pub bounds_added : (p new : ℕ) (s : Bound) (links added : List Downlink) → IsLinkAdded p new s links added → IsKeyBound s → AllByRecursion IsKeyLink links → AllByRecursion IsKeyLink added
bounds_added p new s links added put key h =
    let parts : AllByRecursion IsKeyLink (put.before ++ link put.bound p ∷ put.after) = subst (λ (l : List Downlink). AllByRecursion IsKeyLink l) put.links_are h in
    let front : AllByRecursion IsKeyLink put.before = AllByRecursion-front IsKeyLink put.before (link put.bound p ∷ put.after) parts in
    let back : AllByRecursion IsKeyLink (link put.bound p ∷ put.after) = AllByRecursion-back IsKeyLink put.before (link put.bound p ∷ put.after) parts in
    subst (λ (l : List Downlink). AllByRecursion IsKeyLink l) (sym put.added_are)
    (AllByRecursion-append IsKeyLink put.before (link put.bound p ∷ link (Some s) new ∷ put.after) front (back.0, (key, back.1)))

pub unique_links : (node : Node) (links : List Downlink) → IsUniqueNode node → AllByRecursion IsKeyLink links → IsUniqueNode (with_links node links)
unique_links node links h bounds = record { high = h.high; bounds = bounds; keys = h.keys }

-- ... and with one handed on
pub bounds_handed : (n right : ℕ) (links after : List Downlink) → IsLinkHandedOn n right links after → AllByRecursion IsKeyLink links → AllByRecursion IsKeyLink after
bounds_handed n right links after handed h =
    let old : List Downlink = link handed.bound n ∷ link handed.own right ∷ handed.later in
    let parts : AllByRecursion IsKeyLink (handed.before ++ old) = subst (λ (l : List Downlink). AllByRecursion IsKeyLink l) handed.links_are h in
    let front : AllByRecursion IsKeyLink handed.before = AllByRecursion-front IsKeyLink handed.before old parts in
    let back : AllByRecursion IsKeyLink old = AllByRecursion-back IsKeyLink handed.before old parts in
    subst (λ (l : List Downlink). AllByRecursion IsKeyLink l) (sym handed.after_are)
    (AllByRecursion-append IsKeyLink handed.before (link handed.bound right ∷ handed.later) front (back.0, back.1.1))

-- both halves of an internal page
pub unique_parts : (node left right : Node) (q new : ℕ) (links : List Downlink) → IsUniqueNode node → AllByRecursion IsKeyLink links → LinkHalves node q new links left right
    → IsUniqueNode left × IsUniqueNode right
unique_parts node left right q new links h bounds halves = (
  subst (λ (n : Node). IsUniqueNode n) (sym halves.left_is) (record { high = back.0; bounds = front; keys = h.keys }),
  subst (λ (n : Node). IsUniqueNode n) (sym halves.right_is) (record { high = h.high; bounds = (tt, back.1); keys = h.keys }),
)
  where
    right_part : List Downlink
    right_part = link (Some halves.cut) halves.middle ∷ halves.back

    parts : AllByRecursion IsKeyLink ((halves.first ∷ halves.front) ++ right_part)
    parts = subst (λ (l : List Downlink). AllByRecursion IsKeyLink l) halves.links_are bounds

    front : AllByRecursion IsKeyLink (halves.first ∷ halves.front)
    front = AllByRecursion-front IsKeyLink (halves.first ∷ halves.front) right_part parts

    back : AllByRecursion IsKeyLink right_part
    back = AllByRecursion-back IsKeyLink (halves.first ∷ halves.front) right_part parts

-- a new root
pub unique_root : (level p new : ℕ) (s : Bound) → IsKeyBound s → IsUniqueNode (new_root level p s new)
unique_root level p new s key = record { high = tt; bounds = (tt, (key, tt)); keys = tt }
