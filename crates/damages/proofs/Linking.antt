-- Downlinks of a level by the places of their pages, had and due.
use Rattle.std.proofs.Common.{◌≡◌, ◌≢◌, ◌⊎◌, ℕ, zero, suc, ◌<◌, inl, inr, Bool, true, false, Some, List, [], ◌∷◌, take, slice_get, refl, sym, ap, subst, ◌∙◌, arith}
use Rattle.damages.proofs.Ascending.{IsDownlinkAmong, among_left, among_right, among_cases, Ascend, ascend_front, ascend_back, ascend_sides}
use Rattle.damages.proofs.Imports.{cases_eq, Downlink, PageState, Live, HalfDead, Deleted, Node, LeftContext, past, context_after, due_link, due_links, from_low, downlinks, IsBoundBeyond, same_Some}
use Rattle.damages.proofs.Decided.{no_link}

pub among_at : (d : Downlink) (xs : List Downlink) (n : ℕ) → slice_get xs n ≡ Some d → IsDownlinkAmong d xs
among_at d [] n e = absurd (no_link e)
among_at d (x ∷ xs) zero e = inl (sym (same_Some x d e))
among_at d (x ∷ xs) (suc n) e = inr (among_at d xs n e)

pub at_among : (d : Downlink) (xs : List Downlink) → IsDownlinkAmong d xs → (n : ℕ) × (slice_get xs n ≡ Some d)
at_among d [] i = absurd i
at_among d (x ∷ xs) (inl e) = (0, ap Some (sym e))
at_among d (x ∷ xs) (inr i) = (let r = at_among d xs i in (suc r.0, r.1))

-- one of these leads to the child, or none does
pub leads_or : (child : ℕ) (xs : List Downlink) → ((d : Downlink) × IsDownlinkAmong d xs × (d.child ≡ child)) ⊎ ((d : Downlink) → IsDownlinkAmong d xs → d.child ≢ child)
leads_or child [] = inr (λ d i. absurd i)
leads_or child (x ∷ xs) = elim (cases_eq x.child child) [
  | inl same ↦ inl (x, inl refl, same)
  | inr differs ↦ elim (leads_or child xs) [
    | inl found ↦ inl (found.0, inr found.1, found.2)
    | inr none' ↦ inr (λ d i. elim i as (λ w. d.child ≢ child) [ inl e ↦ λ same. differs (sym (ap (λ (z : Downlink). z.child) e) ∙ same) | inr j ↦ none' d j ])
  ]
]

-- a downlink that a level has: the place of its page there, and its own
pub record IsHad (at : ℕ → Node) (s : LeftContext) (xs : List ℕ) (d : Downlink) : Type 0 where
  pub place : ℕ
  pub block : ℕ
  pub there : slice_get xs place ≡ Some block
  pub item : ℕ
  pub is : slice_get (from_low (context_after at s (take place xs)).low (at block).links) item ≡ Some d

pub had : (at : ℕ → Node) (s : LeftContext) (xs : List ℕ) (d : Downlink) → IsDownlinkAmong d (downlinks at s xs) → IsHad at s xs d
had at s [] d i = absurd i
had at s (b ∷ bs) d i = elim (among_cases d (from_low s.low (at b).links) (downlinks at (past b (at b) s) bs) i) [
  | inl l ↦ (let r = at_among d (from_low s.low (at b).links) l in record { place = 0; block = b; there = refl; item = r.0; is = r.1 })
  | inr r ↦ (let h = had at (past b (at b) s) bs d r in record { place = suc h.place; block = h.block; there = h.there; item = h.item; is = h.is })
]

pub has : (at : ℕ → Node) (s : LeftContext) (xs : List ℕ) (place block item : ℕ) (d : Downlink) → slice_get xs place ≡ Some block
    → slice_get (from_low (context_after at s (take place xs)).low (at block).links) item ≡ Some d → IsDownlinkAmong d (downlinks at s xs)
has at s [] place block item d there is = absurd (no_link there)
has at s (b ∷ bs) zero block item d there is =
    among_left d (from_low s.low (at b).links) _ (subst (λ (c : ℕ). IsDownlinkAmong d (from_low s.low (at c).links)) (sym (same_Some b block there)) (among_at d (from_low s.low (at block).links) item is))
has at s (b ∷ bs) (suc place) block item d there is = among_right d (from_low s.low (at b).links) _ (has at (past b (at b) s) bs place block item d there is)

-- a downlink that is due: the place of the page that is to have it
pub record HasDueDownlink (at : ℕ → Node) (s : LeftContext) (xs : List ℕ) (d : Downlink) : Type 0 where
  pub place : ℕ
  pub there : slice_get xs place ≡ Some d.child
  pub bound : d.bound ≡ (context_after at s (take place xs)).low
  pub alive : (at d.child).state ≡ Live
  pub clear : (context_after at s (take place xs)).left_is_split ≡ false

pub due : (at : ℕ → Node) (s : LeftContext) (xs : List ℕ) (d : Downlink) → IsDownlinkAmong d (due_links at s xs) → HasDueDownlink at s xs d
due at s [] d i = absurd i
due at s (b ∷ bs) d i = elim (among_cases d (due_link (at b).state s.left_is_split s.low b) (due_links at (past b (at b) s) bs) i) [
  | inl l ↦ here (at b).state s.left_is_split refl refl l
  | inr r ↦ (let h = due at (past b (at b) s) bs d r in record { place = suc h.place; there = h.there; bound = h.bound; alive = h.alive; clear = h.clear })
]
  where
    here : (state : PageState) (left_is_split : Bool) → (at b).state ≡ state → s.left_is_split ≡ left_is_split → IsDownlinkAmong d (due_link state left_is_split s.low b) → HasDueDownlink at s (b ∷ bs) d
    here Live false is clear (inl e) = record {
      place = 0;
      there = ap (λ (z : Downlink). Some z.child) (sym e);
      bound = ap (λ (z : Downlink). z.bound) e;
      alive = ap (λ (z : Downlink). (at z.child).state) e ∙ is;
      clear = clear;
    }
    here Live false is clear (inr i) = absurd i
    here Live true is clear i = absurd i
    here HalfDead left_is_split is clear i = absurd i
    here Deleted left_is_split is clear i = absurd i

pub is_due : (at : ℕ → Node) (s : LeftContext) (xs : List ℕ) (place : ℕ) (d : Downlink) → slice_get xs place ≡ Some d.child
    → d.bound ≡ (context_after at s (take place xs)).low
    → (at d.child).state ≡ Live → (context_after at s (take place xs)).left_is_split ≡ false → IsDownlinkAmong d (due_links at s xs)
is_due at s [] place d there bound alive clear = absurd (no_link there)
is_due at s (b ∷ bs) zero d there bound alive clear =
    among_left d (due_link (at b).state s.left_is_split s.low b) _
    (subst (λ (state : PageState). IsDownlinkAmong d (due_link state s.left_is_split s.low b)) (sym (ap (λ (c : ℕ). (at c).state) same ∙ alive))
    (subst (λ (left_is_split : Bool). IsDownlinkAmong d (due_link Live left_is_split s.low b)) (sym clear) (inl whole)))
  where
    same : b ≡ d.child
    same = same_Some b d.child there

    whole : d ≡ record { bound = s.low; child = b }
    whole = λ i. record { bound = bound i; child = sym same i }
is_due at s (b ∷ bs) (suc place) d there bound alive clear = among_right d (due_link (at b).state s.left_is_split s.low b) _ (is_due at (past b (at b) s) bs place d there bound alive clear)

-- downlinks of ascending bounds, one at an earlier place or before the other on one page
ascend_index : (xs : List Downlink) (i j : ℕ) (d e : Downlink) → Ascend xs → i < j → slice_get xs i ≡ Some d → slice_get xs j ≡ Some e
    → IsBoundBeyond d.bound e.bound
ascend_index [] i j d e a lt f g = absurd (no_link f)
ascend_index (x ∷ xs) zero zero d e a lt f g = absurd (omega arith)
ascend_index (x ∷ xs) zero (suc j) d e a lt f g = subst (λ (z : Downlink). IsBoundBeyond z.bound e.bound) (same_Some x d f) (a.0 e (among_at e xs j g))
ascend_index (x ∷ xs) (suc i) zero d e a lt f g = absurd (omega arith)
ascend_index (x ∷ xs) (suc i) (suc j) d e a lt f g = ascend_index xs i j d e a.1 (omega arith) f g

pub ascend_items : (at : ℕ → Node) (s : LeftContext) (xs : List ℕ) (n b : ℕ) (i j : ℕ) (d e : Downlink) → Ascend (downlinks at s xs) → slice_get xs n ≡ Some b → i < j
    → slice_get (from_low (context_after at s (take n xs)).low (at b).links) i ≡ Some d → slice_get (from_low (context_after at s (take n xs)).low (at b).links) j ≡ Some e → IsBoundBeyond d.bound e.bound
ascend_items at s [] n b i j d e a there lt f g = absurd (no_link there)
ascend_items at s (x ∷ xs) zero b i j d e a there lt f g =
    ascend_index (from_low s.low (at b).links) i j d e
    (subst (λ (c : ℕ). Ascend (from_low s.low (at c).links)) (same_Some x b there) (ascend_front (from_low s.low (at x).links) (downlinks at (past x (at x) s) xs) a)) lt f g
ascend_items at s (x ∷ xs) (suc n) b i j d e a there lt f g = ascend_items at (past x (at x) s) xs n b i j d e (ascend_back (from_low s.low (at x).links) _ a) there lt f g

pub ascend_places : (at : ℕ → Node) (s : LeftContext) (xs : List ℕ) (n b m c : ℕ) (i j : ℕ) (d e : Downlink) → Ascend (downlinks at s xs) → n < m
    → slice_get xs n ≡ Some b → slice_get xs m ≡ Some c
    → slice_get (from_low (context_after at s (take n xs)).low (at b).links) i ≡ Some d → slice_get (from_low (context_after at s (take m xs)).low (at c).links) j ≡ Some e → IsBoundBeyond d.bound e.bound
ascend_places at s [] n b m c i j d e a lt there then f g = absurd (no_link there)
ascend_places at s (x ∷ xs) n b zero c i j d e a lt there then f g = absurd (omega arith)
ascend_places at s (x ∷ xs) zero b (suc m) c i j d e a lt there then f g =
    ascend_sides (from_low s.low (at x).links) (downlinks at (past x (at x) s) xs) a d e
    (subst (λ (y : ℕ). IsDownlinkAmong d (from_low s.low (at y).links)) (sym (same_Some x b there)) (among_at d (from_low s.low (at b).links) i f))
    (has at (past x (at x) s) xs m c j e then g)
ascend_places at s (x ∷ xs) (suc n) b (suc m) c i j d e a lt there then f g =
    ascend_places at (past x (at x) s) xs n b m c i j d e (ascend_back (from_low s.low (at x).links) _ a) (omega arith) there then f g
