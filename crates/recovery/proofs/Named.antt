-- Images are written to their places, one block after the other.
use Rattle.std.proofs.Common.{◌≡◌, inl, inr, ℕ, ◌+◌, ◌*◌, ◌<◌, Some, None, List, length, sym, ◌∙◌, ap, subst, arith}
use Rattle.page_store.proofs.Places.{apart_long}
use Rattle.recovery.proofs.Imports.{cases_eq, DiskMoment, Trace, synced, AtEachMoment, Has, ChangesOnly, goes_weaker, goes_now, has_kept, kept, same_only, only_more, only_wider, synced_only}
use Rattle.recovery.proofs.Imports.{synced_on, Format, place, kept_image, Replayed, ChangesNamed, HasImages, AreHomed}

pub same_named : (format : Format) (found : Replayed) (m : DiskMoment) → ChangesNamed format found m m
same_named format found m = record { only = same_only (place format 0) (4096 * format.pages) m; others = λ block bytes long unnamed on. on }

pub named_both : (format : Format) (found : Replayed) (a b c : DiskMoment) → ChangesNamed format found a b → ChangesNamed format found b c → ChangesNamed format found a c
named_both format found a b c f s = record {
  only = only_more (place format 0) (4096 * format.pages) a b c f.only s.only;
  others = λ block bytes long unnamed on. s.others block bytes long unnamed (f.others block bytes long unnamed on);
}

pub named_synced : (format : Format) (found : Replayed) (a b : DiskMoment) → ChangesNamed format found a b → ChangesNamed format found a (synced b)
named_synced format found a b f = record {
  only = only_more (place format 0) (4096 * format.pages) a b (synced b) f.only (synced_only (place format 0) (4096 * format.pages) b);
  others = λ block bytes long unnamed on. synced_on (place format block) bytes b (f.others block bytes long unnamed on).has;
}

-- the bytes of a block are one
same_bytes : (found : Replayed) (block : ℕ) (a b : List ℕ) → kept_image found block ≡ Some a → kept_image found block ≡ Some b → a ≡ b
same_bytes found block a b e f = (let h : Some a ≡ Some b = sym e ∙ f in cc)

-- the write of one image
only_named : (format : Format) (found : Replayed) (k : ℕ) (image : List ℕ) (m n : DiskMoment) → k < format.pages → kept_image found k ≡ Some image
    → ChangesOnly (place format k) 4096 m n → ChangesNamed format found m n
only_named format found k image m n few named only = record {
  only = only_wider (place format k) 4096 (place format 0) (4096 * format.pages) m n (omega arith) (omega arith) only;
  others = λ block bytes full unnamed on. kept (place format k) 4096 (place format block) bytes m n only
      (apart_long format block k (length bytes) full (λ (e : block ≡ k). let h : Some image ≡ None = sym named ∙ (ap (kept_image found) (sym e) ∙ unnamed) in absurd cc)) on;
}

-- the last image of each block below this one stands at its place
abbrev pub HomedBelow : Format → Replayed → ℕ → List ℕ → Type 0
HomedBelow format found k file = (block : ℕ) (bytes : List ℕ) → block < k → kept_image found block ≡ Some bytes → (length bytes ≡ 4096) × Has (place format block) bytes file

-- one image more was written there
module _ (format : Format) (found : Replayed) (k at : ℕ) (image : List ℕ) (t u : Trace) (named : Some image ≡ kept_image found k)
    (long : length image ≡ 4096) (there : at ≡ place format k) (moments : AtEachMoment (ChangesOnly at (length image) t.now) t u) where
  block_goes : AtEachMoment (ChangesOnly (place format k) 4096 t.now) t u
  block_goes = subst (λ (n : ℕ). AtEachMoment (ChangesOnly (place format k) n t.now) t u) long (subst (λ (a : ℕ). AtEachMoment (ChangesOnly a (length image) t.now) t u) there moments)

  pub named_goes : (start : DiskMoment) → k < format.pages → ChangesNamed format found start t.now → AtEachMoment (ChangesNamed format found start) t u
  named_goes start few now = goes_weaker _ _ t u (λ m only. named_both format found start t.now m now (only_named format found k image t.now m few (sym named) only)) block_goes

  -- so that of one block more the last image stands at home
  pub one_homed : Has at image u.now.seen → HomedBelow format found k t.now.seen → HomedBelow format found (k + 1) u.now.seen
  one_homed has before block bytes lt found_bytes = elim (cases_eq k block) [
    | inl same ↦
        let one : image ≡ bytes = same_bytes found k image bytes (sym named) (ap (kept_image found) same ∙ found_bytes) in
        let home = subst (λ (a : ℕ). Has a image u.now.seen) (there ∙ ap (place format) same) has in
        (ap length (sym one) ∙ long, subst (λ (l : List ℕ). Has (place format block) l u.now.seen) one home)
    | inr other ↦
        let old = before block bytes (omega (arith, lt, other)) found_bytes in
        let only = goes_now _ t u block_goes (same_only (place format k) 4096 t.now) in
        (old.0, has_kept (place format k) 4096 (place format block) bytes t.now u.now only (apart_long format block k (length bytes) old.0 (λ (e : block ≡ k). other (sym e))) old.1)
  ]

-- and if this block has none
pub none_homed : (format : Format) (found : Replayed) (k : ℕ) (file : List ℕ) → kept_image found k ≡ None → HomedBelow format found k file → HomedBelow format found (k + 1) file
none_homed format found k file none before block bytes lt found_bytes = elim (cases_eq k block) [
  | inl same ↦ let h : Some bytes ≡ None = sym found_bytes ∙ (ap (kept_image found) (sym same) ∙ none) in absurd cc
  | inr other ↦ before block bytes (omega (arith, lt, other)) found_bytes
]

pub homed : (format : Format) (found : Replayed) (m : DiskMoment) → HasImages format found m.seen → AreHomed format found (synced m)
homed format found m has block bytes few found_bytes = synced_on (place format block) bytes m (has block bytes few found_bytes)
