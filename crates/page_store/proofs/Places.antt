-- Pages at their places, while another place is written.
use Rattle.std.proofs.Common.{◌≡◌, ◌≢◌, ◌⊎◌, inl, inr, ℕ, ◌+◌, ◌-◌, ◌<◌, ◌≤◌, List, length, take, drop, Result, Ok, Err, sym, ◌∙◌, ap, subst, arith}
use Rattle.page_store.proofs.Imports.{cases_lt, take_at, OnOk, slice_range, Trace, Writes, wrote, AtEachMoment, Has, ChangesOnly, writes_goes, wrote_only, wrote_has, has_drop, Format, place}

pub places_apart : (format : Format) (b k : ℕ) → b ≢ k → (place format b + 4096 ≤ place format k) ⊎ (place format k + 4096 ≤ place format b)
places_apart format b k ne = elim (cases_lt b k) [
  | inl below ↦ inl (omega arith)
  | inr above ↦ inr (omega arith)
]

-- a page of another block lies elsewhere
pub apart_long : (format : Format) (b k n : ℕ) → n ≡ 4096 → b ≢ k → (place format b + n ≤ place format k) ⊎ (place format k + 4096 ≤ place format b)
apart_long format b k n is ne = subst (λ (x : ℕ). (place format b + x ≤ place format k) ⊎ (place format k + 4096 ≤ place format b)) (sym is) (places_apart format b k ne)

-- a page is written to its place: nothing else changes
module _ (format : Format) (k : ℕ) (few : k < format.pages) {T E : Type 0} (bytes : List ℕ) (t u : Trace) (r : Result T E)
    (long : length bytes ≡ 4096) (inside : place format format.pages ≤ length t.now.seen)
    (w : Writes (place format k) bytes r t u) where
  pub block_goes : AtEachMoment (ChangesOnly (place format k) 4096 t.now) t u
  block_goes = writes_goes _ (place format k) bytes r t u w
      (λ b n. subst (λ (x : ℕ). ChangesOnly (place format k) x t.now (wrote (place format k) b t.now)) (n ∙ long) (wrote_only (place format k) b t.now (omega (arith, n ∙ long))))

pub block_has : {T E : Type 0} (format : Format) (k : ℕ) (bytes : List ℕ) (t u : Trace) (r : Result T E) → k < format.pages → length bytes ≡ 4096
    → place format format.pages ≤ length t.now.seen → Writes (place format k) bytes r t u
    → OnOk r (Has (place format k) bytes u.now.seen)
block_has format k bytes t u (Ok x) few long inside w = subst (λ (v : Trace). Has (place format k) bytes v.now.seen) (sym w) (wrote_has (place format k) bytes t.now (omega arith))
block_has format k bytes t u (Err e) few long inside w = tt

-- what a read of a place gives
pub range_has : (at : ℕ) (bytes file : List ℕ) → Has at bytes file → length bytes ≡ 4096 → slice_range file at (at + 4096) ≡ bytes
range_has at bytes file has long =
    let size : at + 4096 - at ≡ 4096 = omega arith in
    ap (λ (n : ℕ). take n (drop at file)) size ∙ (ap (take 4096) (has_drop at bytes file has) ∙ take_at bytes (drop (at + length bytes) file) 4096 long)
