-- The frontier goes on.
use Rattle.std.proofs.Common.{◌≡◌, inl, inr, Bool, true, false, true≢false, not, if◌then◌else◌, Option, Some, None, List, ℕ, refl, sym, ap, ◌∙◌}
use Rattle.std.specs.Cmp.{IsTotalOrder}
use Rattle.std.specs.Ordering.{is_lt, ordering_then}
use Rattle.std.specs.Option.{option_cmp}
use Rattle.std.specs.declared.cmp.Ordering.{Ordering}
use Rattle.std.specs.declared.cmp.Ordering.TheVariants.{Less, Equal, Greater}
use Rattle.std.proofs.lemmas.Cmp.{nat_list_cmp_total}
use Rattle.tree_shape.proofs.Order.{upto_self, upto_trans, upto_before, before_weak, before_or}
use Rattle.scan.proofs.Imports.{bound_cmp, key_cmp, row_cmp, bound_of, is_past, below_admits, Bound, Entry, IsNoGreater, frontier_aim, is_within, frontier_past, false≢true}

-- the frontier isn't below what it was, nor below the high key
pub not_back : (f : Bound) (high : Option Bound) → IsNoGreater f (frontier_past f high)
not_back f None = upto_self f
not_back f (Some high) = go (is_lt (bound_cmp f high)) refl
  where
    go : (w : Bool) → is_lt (bound_cmp f high) ≡ w → IsNoGreater f (if w then high else f)
    go true e = before_weak f high e
    go false e = upto_self f

pub past_high : (f high : Bound) → IsNoGreater high (frontier_past f (Some high))
past_high f high = go (is_lt (bound_cmp f high)) refl
  where
    go : (w : Bool) → is_lt (bound_cmp f high) ≡ w → IsNoGreater high (if w then high else f)
    go true e = upto_self high
    go false e = e

-- what lies after a lesser frontier lies after a greater one too
module _ (f g : Bound) (le : IsNoGreater f g) where
  pub aim_widens : (b : Bound) → frontier_aim f b ≡ true → frontier_aim g b ≡ true
  aim_widens b p = ap not (upto_trans b f g (elim (before_or f b) [ inl lt ↦ absurd (false≢true (sym (ap not lt) ∙ p)) | inr le ↦ le ]) le)

  pub within_falls : (high : Option Bound) → is_within (frontier_aim g) high ≡ true → is_within (frontier_aim f) high ≡ true
  within_falls None h = refl
  within_falls (Some b) h = go (frontier_aim f b) refl
    where
      go : (w : Bool) → frontier_aim f b ≡ w → not (frontier_aim f b) ≡ true
      go true e = absurd (false≢true (sym (ap not (aim_widens b e)) ∙ h))
      go false e = ap not e

  pub past_falls : (e : Entry) → is_past g e ≡ true → is_past f e ≡ true
  past_falls e h = upto_before f g (bound_of e) le h

  pub passed_stays : (e : Entry) → is_past f e ≡ false → is_past g e ≡ false
  passed_stays e h = elim (before_or g (bound_of e)) [ inl lt ↦ absurd (true≢false (sym (past_falls e lt) ∙ h)) | inr w ↦ w ]

-- a page isn't ahead of a frontier that has passed its high key
pub high_is_passed : (f high : Bound) → is_within (frontier_aim (frontier_past f (Some high))) (Some high) ≡ false
high_is_passed f high = ap (λ (b : Bool). not (not b)) (past_high f high)

-- beyond a frontier that isn't above the high key, what the new one passes isn't beyond the high key
pub within_high : (f high : Bound) (e : Entry) → is_past f e ≡ true → is_past (frontier_past f (Some high)) e ≡ false → is_past high e ≡ false
within_high f high e beyond not_beyond = go (is_lt (bound_cmp f high)) refl not_beyond
  where
    go : (w : Bool) → is_lt (bound_cmp f high) ≡ w → is_past (if w then high else f) e ≡ false → is_past high e ≡ false
    go true lt w = w
    go false ge w = absurd (true≢false (sym beyond ∙ w))

-- a key below another stands before each bound whose key doesn't
key_below : (k : List ℕ) (high : Bound) (e : Entry) → is_lt (key_cmp e.key k) ≡ true → is_past high e ≡ true → is_lt (key_cmp high.key k) ≡ true
key_below k high e below beyond = by (key_cmp high.key e.key) refl
  where
    total : IsTotalOrder key_cmp
    total = nat_list_cmp_total

    lt : (o : Ordering) → is_lt o ≡ true → o ≡ Less
    lt Less h = refl
    lt Equal h = absurd cc
    lt Greater h = absurd cc

    by : (o : Ordering) → key_cmp high.key e.key ≡ o → is_lt (key_cmp high.key k) ≡ true
    by Less h = ap is_lt (total.trans high.key e.key k h (lt (key_cmp e.key k) below))
    by Equal h = ap is_lt (total.congr high.key e.key k h) ∙ below
    by Greater h = absurd (true≢false (sym beyond ∙ ap (λ (o : Ordering). is_lt (ordering_then o (option_cmp row_cmp high.row (Some e.row)))) h))

pub below_high : (below : Option (List ℕ)) (high : Bound) (e : Entry) → below_admits below high.key ≡ false → below_admits below e.key ≡ true → is_past high e ≡ false
below_high None high e out inside = absurd (true≢false out)
below_high (Some k) high e out inside = elim (before_or high (bound_of e)) [
  | inl beyond ↦ absurd (true≢false (sym (key_below k high e inside beyond) ∙ out))
  | inr w ↦ w
]
