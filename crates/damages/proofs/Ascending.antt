-- Lists of downlinks whose bounds ascend strictly: those that a level has, and those that it is to have.
use Rattle.std.proofs.Common.{◌≡◌, ◌⊎◌, ℕ, suc, inl, inr, Bool, true, false, Option, Some, None, is_some, List, [], ◌∷◌, ◌++◌, refl, sym, ap, ap₂, subst, ◌∙◌, arith}
use Rattle.tree_shape.proofs.Order.{before_trans, before_not, before_weak}
use Rattle.damages.proofs.Imports.{Bound, Downlink, PageState, Live, HalfDead, Deleted, Node, LeftContext, past, low_past, first_or, Rises, IsBoundWithin, BoundsWithin, LinksWithin, FitsState}
use Rattle.damages.proofs.Imports.{IsRunOf, due_link, due_links, from_low, downlinks, IsBoundBeyond}

pub beyond_not : (a b : Option Bound) → IsBoundBeyond a b → IsBoundBeyond b a → ⊥
beyond_not None b p q = q
beyond_not (Some a) None p q = p
beyond_not (Some a) (Some b) p q = before_not a b p (before_weak b a q)

pub beyond_trans : (a b c : Option Bound) → IsBoundBeyond a b → IsBoundBeyond b c → IsBoundBeyond a c
beyond_trans a b None p q = absurd q
beyond_trans a None (Some c) p q = absurd p
beyond_trans None (Some b) (Some c) p q = tt
beyond_trans (Some a) (Some b) (Some c) p q = before_trans a b c p q

-- the low itself, or beyond it
abbrev IsFrom : Option Bound → Option Bound → Type 0
IsFrom low b = (b ≡ low) ⊎ IsBoundBeyond low b

beyond_from : (a b c : Option Bound) → IsBoundBeyond a b → IsFrom b c → IsBoundBeyond a c
beyond_from a b c p (inl e) = subst (IsBoundBeyond a) (sym e) p
beyond_from a b c p (inr q) = beyond_trans a b c p q

-- the downlink is one of these
abbrev pub IsDownlinkAmong : Downlink → List Downlink → Type 0
IsDownlinkAmong d [] = ⊥
IsDownlinkAmong d (x ∷ xs) = (d ≡ x) ⊎ IsDownlinkAmong d xs

pub among_left : (d : Downlink) (xs ys : List Downlink) → IsDownlinkAmong d xs → IsDownlinkAmong d (xs ++ ys)
among_left d [] ys i = absurd i
among_left d (x ∷ xs) ys (inl e) = inl e
among_left d (x ∷ xs) ys (inr i) = inr (among_left d xs ys i)

pub among_right : (d : Downlink) (xs ys : List Downlink) → IsDownlinkAmong d ys → IsDownlinkAmong d (xs ++ ys)
among_right d [] ys i = i
among_right d (x ∷ xs) ys i = inr (among_right d xs ys i)

pub among_cases : (d : Downlink) (xs ys : List Downlink) → IsDownlinkAmong d (xs ++ ys) → IsDownlinkAmong d xs ⊎ IsDownlinkAmong d ys
among_cases d [] ys i = inr i
among_cases d (x ∷ xs) ys (inl e) = inl (inl e)
among_cases d (x ∷ xs) ys (inr i) = elim (among_cases d xs ys i) [ inl l ↦ inl (inr l) | inr r ↦ inr r ]

-- the bounds ascend strictly
abbrev pub Ascend : List Downlink → Type 0
Ascend [] = Unit {0}
Ascend (x ∷ xs) = ((d : Downlink) → IsDownlinkAmong d xs → IsBoundBeyond x.bound d.bound) × Ascend xs

-- two such lists with the same members are the same
pub same_list : (xs ys : List Downlink) → Ascend xs → Ascend ys → ((d : Downlink) → IsDownlinkAmong d xs → IsDownlinkAmong d ys)
    → ((d : Downlink) → IsDownlinkAmong d ys → IsDownlinkAmong d xs) → xs ≡ ys
same_list [] [] a b there back = refl
same_list [] (y ∷ ys) a b there back = absurd (back y (inl refl))
same_list (x ∷ xs) [] a b there back = absurd (there x (inl refl))
same_list (x ∷ xs) (y ∷ ys) a b there back =
    ap₂ (λ (d : Downlink) (ds : List Downlink). d ∷ ds) first (same_list xs ys a.1 b.1 there_more back_more)
  where
    first : x ≡ y
    first = elim (there x (inl refl)) [
      | inl e ↦ e
      | inr i ↦ elim (back y (inl refl)) [
        | inl e ↦ sym e
        | inr j ↦ absurd (beyond_not x.bound y.bound (a.0 y j) (b.0 x i))
      ]
    ]

    never : (d : Downlink) → IsBoundBeyond d.bound d.bound → ⊥
    never d h = beyond_not d.bound d.bound h h

    there_more : (d : Downlink) → IsDownlinkAmong d xs → IsDownlinkAmong d ys
    there_more d i = elim (there d (inr i)) [
      | inl e ↦ absurd (never d (subst (λ (z : Downlink). IsBoundBeyond z.bound d.bound) (first ∙ sym e) (a.0 d i)))
      | inr j ↦ j
    ]

    back_more : (d : Downlink) → IsDownlinkAmong d ys → IsDownlinkAmong d xs
    back_more d i = elim (back d (inr i)) [
      | inl e ↦ absurd (never d (subst (λ (z : Downlink). IsBoundBeyond z.bound d.bound) (sym first ∙ sym e) (b.0 d i)))
      | inr j ↦ j
    ]

ascend_append : (xs ys : List Downlink) → Ascend xs → Ascend ys → ((d e : Downlink) → IsDownlinkAmong d xs → IsDownlinkAmong e ys → IsBoundBeyond d.bound e.bound)
    → Ascend (xs ++ ys)
ascend_append [] ys a b h = b
ascend_append (x ∷ xs) ys a b h = (
  λ d i. elim (among_cases d xs ys i) [ inl l ↦ a.0 d l | inr r ↦ h x d (inl refl) r ],
  ascend_append xs ys a.1 b (λ d e i j. h d e (inr i) j),
)

-- of two such lists after each other, each of the first stands below each of the second
pub ascend_sides : (xs ys : List Downlink) → Ascend (xs ++ ys) → (d e : Downlink) → IsDownlinkAmong d xs → IsDownlinkAmong e ys → IsBoundBeyond d.bound e.bound
ascend_sides [] ys a d e i j = absurd i
ascend_sides (x ∷ xs) ys a d e (inl same) j = subst (λ (z : Downlink). IsBoundBeyond z.bound e.bound) (sym same) (a.0 e (among_right e xs ys j))
ascend_sides (x ∷ xs) ys a d e (inr i) j = ascend_sides xs ys a.1 d e i j

pub ascend_front : (xs ys : List Downlink) → Ascend (xs ++ ys) → Ascend xs
ascend_front [] ys a = tt
ascend_front (x ∷ xs) ys a = (λ d i. a.0 d (among_left d xs ys i), ascend_front xs ys a.1)

pub ascend_back : (xs ys : List Downlink) → Ascend (xs ++ ys) → Ascend ys
ascend_back [] ys a = a
ascend_back (x ∷ xs) ys a = ascend_back xs ys a.1

-- a page with others after it has a high key, beyond each bound that is below it
high_there : (low high : Option Bound) → is_some high ≡ true → Rises low high → IsBoundBeyond low high
high_there low None e r = absurd cc
high_there low (Some h) e r = r

-- the downlinks that a level is to have
due_more : (at : ℕ → Node) (s : LeftContext) (bs : List ℕ) (d : Downlink) → IsDownlinkAmong d (due_links at s bs) → is_some (first_or bs None) ≡ true
due_more at s [] d i = absurd i
due_more at s (b ∷ bs) d i = refl

due_one : (state : PageState) (left_is_split : Bool) (low : Option Bound) (b : ℕ) (d : Downlink) → IsDownlinkAmong d (due_link state left_is_split low b) → d.bound ≡ low
due_one Live false low b d (inl e) = ap (λ (x : Downlink). x.bound) e
due_one Live false low b d (inr i) = absurd i
due_one Live true low b d i = absurd i
due_one HalfDead left_is_split low b d i = absurd i
due_one Deleted left_is_split low b d i = absurd i

past_low : (state : PageState) (level : ℕ) (s : LeftContext) (node : Node) (c : Option Bound) → FitsState state level s node → is_some node.high ≡ true
    → IsFrom (low_past state s.low node.high) c → IsFrom s.low c
past_low Live level s node c f some from = inr (beyond_from s.low node.high c (high_there s.low node.high some f.0) from)
past_low HalfDead level s node c f some from = from
past_low Deleted level s node c f some from = absurd f

pub due_from : (at : ℕ → Node) (level : ℕ) (s : LeftContext) (xs : List ℕ) (d : Downlink) → IsRunOf at level s xs None → IsDownlinkAmong d (due_links at s xs)
    → IsFrom s.low d.bound
due_from at level s [] d run i = absurd i
due_from at level s (b ∷ bs) d run i = elim (among_cases d (due_link (at b).state s.left_is_split s.low b) (due_links at (past b (at b) s) bs) i) [
  | inl l ↦ inl (due_one (at b).state s.left_is_split s.low b d l)
  | inr r ↦ past_low (at b).state level s (at b) d.bound run.0.fits (run.0.high_is ∙ due_more at (past b (at b) s) bs d r) (due_from at level (past b (at b) s) bs d run.1 r)
]

pub due_ascend : (at : ℕ → Node) (level : ℕ) (s : LeftContext) (xs : List ℕ) → IsRunOf at level s xs None → Ascend (due_links at s xs)
due_ascend at level s [] run = tt
due_ascend at level s (b ∷ bs) run =
    go (at b).state s.left_is_split run.0.fits (λ d i. due_from at level (past b (at b) s) bs d run.1 i) (due_ascend at level (past b (at b) s) bs run.1)
  where
    go : (state : PageState) (left_is_split : Bool) → FitsState state level s (at b)
        → ((d : Downlink) → IsDownlinkAmong d (due_links at (past b (at b) s) bs) → IsFrom (low_past state s.low (at b).high) d.bound)
        → Ascend (due_links at (past b (at b) s) bs) → Ascend (due_link state left_is_split s.low b ++ due_links at (past b (at b) s) bs)
    go Live false f from more = (
      λ d i. beyond_from s.low (at b).high d.bound (high_there s.low (at b).high (run.0.high_is ∙ due_more at (past b (at b) s) bs d i) f.0) (from d i),
      more,
    )
    go Live true f from more = more
    go HalfDead left_is_split f from more = more
    go Deleted left_is_split f from more = absurd f

-- the downlinks that a level has
bound_in : (low bound high : Option Bound) → IsBoundWithin low bound high → IsBoundBeyond low bound × Rises bound high
bound_in low None high w = absurd w
bound_in low (Some b) high w = w

pub bounds_in : (low : Option Bound) (ds : List Downlink) (high : Option Bound) (d : Downlink) → BoundsWithin low ds high → IsDownlinkAmong d ds
    → IsBoundBeyond low d.bound × Rises d.bound high
bounds_in low [] high d w i = absurd i
bounds_in low (x ∷ xs) high d w (inl e) = subst (λ (z : Downlink). IsBoundBeyond low z.bound × Rises z.bound high) (sym e) (bound_in low x.bound high w.0)
bounds_in low (x ∷ xs) high d w (inr i) =
    let r = bounds_in x.bound xs high d w.1 i in
    (beyond_trans low x.bound d.bound (bound_in low x.bound high w.0).0 r.0, r.1)

bounds_ascend : (low : Option Bound) (ds : List Downlink) (high : Option Bound) → BoundsWithin low ds high → Ascend ds
bounds_ascend low [] high w = tt
bounds_ascend low (x ∷ xs) high w = (λ d i. (bounds_in x.bound xs high d w.1 i).0, bounds_ascend x.bound xs high w.1)

links_ascend : (low : Option Bound) (ds : List Downlink) (high : Option Bound) → LinksWithin low ds high → Ascend (from_low low ds)
links_ascend low [] high w = absurd w
links_ascend low (x ∷ xs) high w = (λ d i. (bounds_in low xs high d w.1 i).0, bounds_ascend low xs high w.1)

links_in : (low : Option Bound) (ds : List Downlink) (high : Option Bound) (d : Downlink) → Rises low high → LinksWithin low ds high
    → IsDownlinkAmong d (from_low low ds)
    → IsFrom low d.bound × Rises d.bound high
links_in low [] high d up w i = absurd w
links_in low (x ∷ xs) high d up w (inl e) = (inl (ap (λ (z : Downlink). z.bound) e), subst (λ (z : Downlink). Rises z.bound high) (sym e) up)
links_in low (x ∷ xs) high d up w (inr i) = (let r = bounds_in low xs high d w.1 i in (inr r.0, r.1))

-- a page above the leaves is live
pub upper_fits : (state : PageState) (level : ℕ) (s : LeftContext) (node : Node) → FitsState state (suc level) s node
    → (state ≡ Live) × Rises s.low node.high × LinksWithin s.low node.links node.high
upper_fits Live level s node f = (refl, f.0, f.1)
upper_fits HalfDead level s node f = absurd (omega (arith, f.0))
upper_fits Deleted level s node f = absurd f

down_more : (at : ℕ → Node) (s : LeftContext) (bs : List ℕ) (d : Downlink) → IsDownlinkAmong d (downlinks at s bs) → is_some (first_or bs None) ≡ true
down_more at s [] d i = absurd i
down_more at s (b ∷ bs) d i = refl

down_from : (at : ℕ → Node) (level : ℕ) (s : LeftContext) (xs : List ℕ) (d : Downlink) → IsRunOf at (suc level) s xs None → IsDownlinkAmong d (downlinks at s xs)
    → IsFrom s.low d.bound
down_from at level s [] d run i = absurd i
down_from at level s (b ∷ bs) d run i = elim (among_cases d (from_low s.low (at b).links) (downlinks at (past b (at b) s) bs) i) [
  | inl l ↦ (let f = upper_fits (at b).state level s (at b) run.0.fits in (links_in s.low (at b).links (at b).high d f.1 f.2 l).0)
  | inr r ↦ past_low (at b).state (suc level) s (at b) d.bound run.0.fits (run.0.high_is ∙ down_more at (past b (at b) s) bs d r) (down_from at level (past b (at b) s) bs d run.1 r)
]

pub down_ascend : (at : ℕ → Node) (level : ℕ) (s : LeftContext) (xs : List ℕ) → IsRunOf at (suc level) s xs None → Ascend (downlinks at s xs)
down_ascend at level s [] run = tt
down_ascend at level s (b ∷ bs) run =
    let f = upper_fits (at b).state level s (at b) run.0.fits in
    let low_is : low_past (at b).state s.low (at b).high ≡ (at b).high = ap (λ (state : PageState). low_past state s.low (at b).high) f.0 in
    ascend_append (from_low s.low (at b).links) (downlinks at (past b (at b) s) bs) (links_ascend s.low (at b).links (at b).high f.2) (down_ascend at level (past b (at b) s) bs run.1) (λ d e i j.
    beyond_from d.bound (at b).high e.bound
    (high_there d.bound (at b).high (run.0.high_is ∙ down_more at (past b (at b) s) bs e j) (links_in s.low (at b).links (at b).high d f.1 f.2 i).1)
    (subst (λ (low : Option Bound). IsFrom low e.bound) low_is (down_from at level (past b (at b) s) bs e run.1 j)))
