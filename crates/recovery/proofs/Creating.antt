-- What each write of a new index leaves of the others.
use Rattle.std.proofs.Common.{◌≡◌, ◌⊎◌, inl, inr, ⊎_elim, ℕ, ◌+◌, ◌*◌, ◌<◌, ◌≤◌, true, Result, Ok, Err, List, [], ◌∷◌, length, get_or, replicate, refl, sym, ◌∙◌, ap, subst, arith}
use Rattle.std.proofs.lemmas.Bool.Decides.{nat_tests}
use Rattle.page_codec.specs.Spelling.{page_bytes}
use Rattle.page_codec.specs.Places.{superblock, place}
use Rattle.recovery.proofs.Imports.{length-replicate, get_or-take, OnOk, ◌||◌, DiskMoment, Trace, Writes, Syncs, next, wrote, synced, is_in, AtEachMoment, Has, OnDisk, ChangesOnly}
use Rattle.recovery.proofs.Imports.{steps, goes_on, goes_weaker, goes_now, writes_goes, syncs_goes, only_wider, only_more, same_only, has_kept, kept, on_image, wrote_only, wrote_has, synced_only}
use Rattle.recovery.proofs.Imports.{synced_on, Format, Page, IsFirstMeta, IsFirstLeaf, AreZero, HasPages, HasBody, WritesFront, CrashesToNoMagic, IsMaking, IsEmptyIndex}

-- what follows from success
pub on_ok : {T E : Type 0} (P Q : Type 0) (r : Result T E) → (P → Q) → OnOk r P → OnOk r Q
on_ok P Q (Ok x) f p = f p
on_ok P Q (Err e) f p = p

apart_each : (format : Format) (from to block a k : ℕ) → from ≤ block → block < to → (place format to ≤ a) ⊎ (a + k ≤ place format from)
    → (place format block + length (replicate {A = ℕ} 4096 0) ≤ a) ⊎ (a + k ≤ place format block)
apart_each format from to block a k low high (inl e) = let long : length (replicate {A = ℕ} 4096 0) ≡ 4096 = length-replicate {A = ℕ} 4096 0 in inl (omega (arith, long))
apart_each format from to block a k low high (inr e) = inr (omega arith)

-- a block that lies outside of what was written stays
pub zeros_stay : (format : Format) (from to a k : ℕ) (old new : DiskMoment) → ChangesOnly a k old new → (place format to ≤ a)
    ⊎ (a + k ≤ place format from) → AreZero format from to old.seen → AreZero format from to new.seen
zeros_stay format from to a k old new only apart zero = λ block low high.
    has_kept a k (place format block) (replicate 4096 0) old new only
    (apart_each format from to block a k low high apart)
    (zero block low high)

-- the pages stand, once each was written
pub pages_made : (format : Format) (meta leaf : Page) (a b c : DiskMoment) → IsFirstMeta meta → IsFirstLeaf leaf → length (page_bytes meta) ≡ 4096 → AreZero format 2 format.pages a.seen
    → Has (place format meta.block) (page_bytes meta) b.seen → ChangesOnly (place format meta.block) 4096 a b
    → Has (place format leaf.block) (page_bytes leaf) c.seen → ChangesOnly (place format leaf.block) 4096 b c → HasPages format c.seen
pages_made format meta leaf a b c is_meta is_leaf long zero has_meta only_meta has_leaf only_leaf =
    let at0 : Has (place format 0) (page_bytes meta) b.seen = subst (λ (n : ℕ). Has (place format n) (page_bytes meta) b.seen) is_meta.block has_meta in
    let only0 : ChangesOnly (place format 0) 4096 a b = subst (λ (n : ℕ). ChangesOnly (place format n) 4096 a b) is_meta.block only_meta in
    let at1 : Has (place format 1) (page_bytes leaf) c.seen = subst (λ (n : ℕ). Has (place format n) (page_bytes leaf) c.seen) is_leaf.block has_leaf in
    let only1 : ChangesOnly (place format 1) 4096 b c = subst (λ (n : ℕ). ChangesOnly (place format n) 4096 b c) is_leaf.block only_leaf in
    let zero1 = zeros_stay format 2 format.pages (place format 0) 4096 a b only0 (inr (omega arith)) zero in
    record {
      meta = meta;
      is_meta = is_meta;
      leaf = leaf;
      is_leaf = is_leaf;
      has_meta = has_kept (place format 1) 4096 (place format 0) (page_bytes meta) b c only1 (inl (omega (arith, long))) at0;
      has_leaf = at1;
      unused = zeros_stay format 2 format.pages (place format 1) 4096 b c only1 (inr (omega arith)) zero1;
    }

-- what was written, a sync makes stand
pub body_made : {T E : Type 0} (format : Format) (r : Result T E) (a b : Trace) (gate : DiskMoment) → Has 4096 (0 ∷ []) gate.seen
    → ChangesOnly (place format 0) (4096 * format.pages) gate a.now → HasPages format a.now.seen → 1 ≤ format.log_bytes
    → Syncs r a b → OnOk r (HasBody format b.now)
body_made format (Ok x) a b gate has only pages log is =
    subst (λ (t : Trace). HasBody format t.now) (sym is)
    record {
      pages = pages;
      gate = synced_on 4096 (0 ∷ []) a.now (has_kept (place format 0) (4096 * format.pages) 4096 (0 ∷ []) gate a.now only (inl (omega arith)) has);
      firm = λ i low. refl;
    }
body_made format (Err e) a b gate has only pages log is = tt

-- the pages stay if only the superblock is written
pub body_stays : (format : Format) (a b : DiskMoment) → ChangesOnly 0 4096 a b → HasBody format a → HasBody format b
body_stays format a b only body = record {
  pages = record {
    meta = body.pages.meta;
    is_meta = body.pages.is_meta;
    leaf = body.pages.leaf;
    is_leaf = body.pages.is_leaf;
    has_meta = has_kept 0 4096 (place format 0) (page_bytes body.pages.meta) a b only (inr (omega arith)) body.pages.has_meta;
    has_leaf = has_kept 0 4096 (place format 1) (page_bytes body.pages.leaf) a b only (inr (omega arith)) body.pages.has_leaf;
    unused = zeros_stay format 2 format.pages 0 4096 a b only (inr (omega arith)) body.pages.unused;
  };
  gate = kept 0 4096 4096 (0 ∷ []) a b only (inr (omega arith)) body.gate;
  firm = λ i low. only.loose i (inr low) (body.firm i low);
}

-- at the end nothing else has changed
pub only_now : (at n : ℕ) (t u : Trace) → AtEachMoment (ChangesOnly at n t.now) t u → ChangesOnly at n t.now u.now
only_now at n t u moments = goes_now _ t u moments (same_only at n t.now)

pub wider_goes : (at n start size : ℕ) (t u : Trace) → start ≤ at → at + n ≤ start + size → AtEachMoment (ChangesOnly at n t.now) t u → AtEachMoment (ChangesOnly start size t.now) t u
wider_goes at n start size t u lo hi moments = goes_weaker _ _ t u (λ m only. only_wider at n start size t.now m lo hi only) moments

-- nor does it while more is written there
pub more_goes : (at n start size : ℕ) (t u v : Trace) → start ≤ at → at + n ≤ start + size → AtEachMoment (ChangesOnly start size t.now) t u
    → AtEachMoment (ChangesOnly at n u.now) u v → AtEachMoment (ChangesOnly start size t.now) t v
more_goes at n start size t u v lo hi first second = goes_on _ t u v first
    (goes_weaker _ _ u v (λ m only. only_more start size t.now u.now m (only_now start size t u first) (only_wider at n start size u.now m lo hi only)) second)

pub synced_goes : {T E : Type 0} (at n : ℕ) (r : Result T E) (t u v : Trace) → AtEachMoment (ChangesOnly at n t.now) t u → Syncs r u v → AtEachMoment (ChangesOnly at n t.now) t v
synced_goes at n r t u v first s = goes_on _ t u v first (syncs_goes _ r u v s (only_more at n t.now u.now (synced u.now) (only_now at n t u first) (synced_only at n u.now)))

-- the superblock's bytes are written and synced
module _ (bytes : List ℕ) (t : Trace) (long : length bytes ≡ 4096) (inside : 4096 ≤ length t.now.seen) where
  is_loose : (b : List ℕ) → length b ≡ 4096 → (i : ℕ) → i < 4096 → (t.now.loose i || is_in 0 (length b) i) ≡ true
  is_loose b n i lt = grind (arith, nat_tests)

  front_wrote : (b : List ℕ) → length b ≡ length bytes → WritesFront bytes t.now (wrote 0 b t.now)
  front_wrote b n = record {
    only = subst (λ (k : ℕ). ChangesOnly 0 k t.now (wrote 0 b t.now)) (n ∙ long) (wrote_only 0 b t.now (omega (arith, n, long)));
    either = inl (λ i lt. is_loose b (n ∙ long) i lt);
  }

  pub front_written : {T E : Type 0} (r : Result T E) (u : Trace) → Writes 0 bytes r t u → AtEachMoment (WritesFront bytes t.now) t u
  front_written r u w = writes_goes _ 0 bytes r t u w (λ b n. front_wrote b n)

  pub front_synced : {T E : Type 0} (r : Result T E) (u v : Trace) → u ≡ next (wrote 0 bytes t.now) t → Syncs r u v → AtEachMoment (WritesFront bytes t.now) t v
  front_synced r u v is s =
      let now : u.now ≡ wrote 0 bytes t.now = ap (λ (x : Trace). x.now) is in
      let only : ChangesOnly 0 4096 t.now u.now = subst (ChangesOnly 0 4096 t.now) (sym now) (front_wrote bytes refl).only in
      goes_on _ t u v (steps _ t u _ is (front_wrote bytes refl))
      (syncs_goes _ r u v s (record {
        only = only_more 0 4096 t.now u.now (synced u.now) only (synced_only 0 4096 u.now);
        either = inr (synced_on 0 bytes u.now (subst (λ (m : DiskMoment). Has 0 bytes m.seen) (sym now) (wrote_has 0 bytes t.now (omega (arith, long, inside)))));
      }))

-- zeros don't begin as an index does
pub no_magic : (m : DiskMoment) → OnDisk 0 (replicate 4096 0) m → CrashesToNoMagic m
no_magic m on image left is =
    let zero = (on_image 0 (replicate 4096 0) m image on left).each 0 (omega (arith, length-replicate {A = ℕ} 4096 0)) in
    let first : get_or image 0 0 ≡ 66 = sym (get_or-take 8 image 0 0 (omega arith)) ∙ ap (λ (l : List ℕ). get_or l 0 0) is in
    absurd (omega (arith, first, zero))

-- while an index is made
module _ (format : Format) (t u : Trace) (clearing : AtEachMoment (WritesFront (replicate 4096 0) t.now) t u) where
  pub clearing_goes : AtEachMoment (IsMaking format t.now) t u
  clearing_goes = goes_weaker _ _ t u (λ m w. ⊎_elim (λ loose. inl (record { front = loose; only = w.only })) (λ on. inr (inl (no_magic m on))) w.either) clearing

  module _ (v : Trace) (n : ℕ) (cleared : OnDisk 0 (replicate 4096 0) u.now) (placing : AtEachMoment (ChangesOnly 4096 n u.now) u v) where
    pub placing_goes : AtEachMoment (IsMaking format t.now) t v
    placing_goes = goes_on _ t u v clearing_goes
        (goes_weaker _ _ u v (λ m only. inr (inl (no_magic m (kept 4096 n 0 (replicate 4096 0) u.now m only (inl (omega (arith, length-replicate {A = ℕ} 4096 0))) cleared)))) placing)

    pub finishing_goes : (w : Trace) (bytes : List ℕ) → bytes ≡ superblock format → HasBody format v.now → AtEachMoment (WritesFront bytes v.now) v w → AtEachMoment (IsMaking format t.now) t w
    finishing_goes w bytes is body finishing = goes_on _ t v w placing_goes
        (goes_weaker _ _ v w (λ m f. inr (inr (record {
          body = body_stays format v.now m f.only body;
          either = ⊎_elim (λ loose. inl loose) (λ on. inr (subst (λ (l : List ℕ). OnDisk 0 l m) is on)) f.either;
        }))) finishing)

-- the index is made, once its superblock stands
pub fresh_made : {T E : Type 0} (format : Format) (r : Result T E) (bytes : List ℕ) (t u : Trace) → bytes ≡ superblock format → HasBody format t.now
    → AtEachMoment (WritesFront bytes t.now) t u → OnOk r (OnDisk 0 bytes u.now)
    → OnOk r (IsEmptyIndex format u.now)
fresh_made format (Ok x) bytes t u is body moments on = record {
  superblock = subst (λ (l : List ℕ). OnDisk 0 l u.now) is on;
  body = body_stays format t.now u.now (only_now 0 4096 t u (goes_weaker _ _ t u (λ m w. w.only) moments)) body;
}
fresh_made format (Err e) bytes t u is body moments on = tt
