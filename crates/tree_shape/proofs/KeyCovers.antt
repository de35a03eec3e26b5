-- One leaf covers all entries of a key.
use Rattle.std.proofs.Common.{◌≡◌, ℕ, not, Option, Some, None, List, [], ◌∷◌, inl, inr, refl, sym, ap, ◌∙◌}
use Rattle.tree_shape.proofs.Imports.{IfSome, Bound, Entry, PageState, Live, HalfDead, Deleted, Node, LeftContext, past, low_past, first_context, entry_aim, is_beyond, is_within, IsCoverOn}
use Rattle.tree_shape.proofs.Imports.{IsKeyBound}
use Rattle.tree_shape.specs.KeyCovers.{HaveKeyBounds, KeyCovers}
use Rattle.tree_shape.proofs.KeyBounds.{key_bounds_part_keys}

-- what lies beyond a low without a row, and within such a high key, is told by the key
beyond_same : (low : Option Bound) (x y : Entry) → IfSome low IsKeyBound → x.key ≡ y.key → is_beyond (entry_aim x) low ≡ is_beyond (entry_aim y) low
beyond_same None x y h same = refl
beyond_same (Some b) x y h same = key_bounds_part_keys b x y h same

within_same : (high : Option Bound) (x y : Entry) → IfSome high IsKeyBound → x.key ≡ y.key → is_within (entry_aim x) high ≡ is_within (entry_aim y) high
within_same None x y h same = refl
within_same (Some b) x y h same = ap not (key_bounds_part_keys b x y h same)

-- a half-dead page leaves the low as it was
low_stays : (state : PageState) (low high : Option Bound) → IfSome low IsKeyBound → IfSome high IsKeyBound → IfSome (low_past state low high) IsKeyBound
low_stays Live low high l h = h
low_stays HalfDead low high l h = l
low_stays Deleted low high l h = l

covers_from : (at : ℕ → Node) (context : LeftContext) (chain : List ℕ) (x y : Entry) (c : ℕ) → IfSome context.low IsKeyBound → HaveKeyBounds at chain → x.key ≡ y.key
    → IsCoverOn at context chain (entry_aim x) c → IsCoverOn at context chain (entry_aim y) c
covers_from at context [] x y c low highs same h = h
covers_from at context (b ∷ bs) x y c low highs same (inl h) =
    inl (h.0, h.1, sym (beyond_same context.low x y low same) ∙ h.2, sym (within_same (at b).high x y (highs b (inl refl)) same) ∙ h.3)
covers_from at context (b ∷ bs) x y c low highs same (inr h) =
    inr (covers_from at (past b (at b) context) bs x y c (low_stays (at b).state context.low (at b).high low (highs b (inl refl))) (λ d i. highs d (inr i)) same h)

pub key_covers : KeyCovers
key_covers at chain x y c highs same h = covers_from at first_context chain x y c tt highs same h
