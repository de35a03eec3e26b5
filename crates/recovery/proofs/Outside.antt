-- What calls of a device leave alone, one after the other.
use Rattle.std.proofs.Common.{◌≡◌, ◌⊎◌, inl, inr, ℕ, ◌+◌, ◌-◌, ◌*◌, ◌≤◌, List, [], ◌∷◌, Bool, IsTrue, Result, refl, ◌∙◌, ap, subst, length, arith}
use Rattle.recovery.proofs.Imports.{DiskMoment, Trace, synced, Syncs, AtEachMoment, ChangesOnly, IsUntouched, goes_on, goes_now, goes_weaker, syncs_goes, elsewhere_untouched, place, needed_length}
use Rattle.recovery.proofs.Imports.{AreLimits, Format, WritesFront, ChangesNamed, IsFront, ChangesItsBytes, SameLogBytes, ChangesAfterFront, ChangesOneIndex, Replayed}
use Rattle.recovery.proofs.Creating.{wider_goes, more_goes, synced_goes}

-- a range that nobody touches
same_untouched : (at n : ℕ) (m : DiskMoment) → IsUntouched at n m m
same_untouched at n m = record { same_length = refl; seen = λ i from to. refl; loose = λ i from to firm. firm }

more_untouched : (at n : ℕ) (a b c : DiskMoment) → IsUntouched at n a b → IsUntouched at n b c → IsUntouched at n a c
more_untouched at n a b c f g = record {
  same_length = g.same_length ∙ f.same_length;
  seen = λ i from to. g.seen i from to ∙ f.seen i from to;
  loose = λ i from to firm. g.loose i from to (f.loose i from to firm);
}

pub untouched_on : (at n : ℕ) (t u v : Trace) → AtEachMoment (IsUntouched at n t.now) t u → AtEachMoment (IsUntouched at n u.now) u v → AtEachMoment (IsUntouched at n t.now) t v
untouched_on at n t u v first second =
    let here = goes_now _ t u first (same_untouched at n t.now) in
    goes_on _ t u v first (goes_weaker _ _ u v (λ m f. more_untouched at n t.now u.now m here f) second)

pub elsewhere_goes : (at n start size : ℕ) (t u : Trace) → (start + size ≤ at) ⊎ (at + n ≤ start) → AtEachMoment (ChangesOnly at n t.now) t u → AtEachMoment (IsUntouched start size t.now) t u
elsewhere_goes at n start size t u out g = goes_weaker _ _ t u (λ m f. elsewhere_untouched at n start size t.now m f out) g

synced_untouched : (at n : ℕ) (m : DiskMoment) → IsUntouched at n m (synced m)
synced_untouched at n m = record { same_length = refl; seen = λ i from to. refl; loose = λ i from to firm. refl }

pub sync_untouched : {T E : Type 0} (at n : ℕ) (r : Result T E) (u v : Trace) → Syncs r u v → AtEachMoment (IsUntouched at n u.now) u v
sync_untouched at n r u v is = syncs_goes _ r u v is (synced_untouched at n u.now)

-- the superblock is written
front_only : (bytes : List ℕ) (t u : Trace) → AtEachMoment (WritesFront bytes t.now) t u → AtEachMoment (ChangesOnly 0 4096 t.now) t u
front_only bytes t u g = goes_weaker _ _ t u (λ m w. w.only) g

pub front_inside : (format : Format) (bytes : List ℕ) (t u : Trace) → AtEachMoment (WritesFront bytes t.now) t u → ChangesItsBytes format t u
front_inside format bytes t u g = wider_goes 0 4096 0 (needed_length format) t u (omega arith) (omega arith) (front_only bytes t u g)

pub front_keeps : (format : Format) (bytes : List ℕ) (t u : Trace) → AtEachMoment (WritesFront bytes t.now) t u → SameLogBytes format t u
front_keeps format bytes t u g = elsewhere_goes 0 4096 4097 (format.log_bytes - 1) t u (inr (omega arith)) (front_only bytes t u g)

-- the log and the pages are
pub body_inside : (format : Format) (t u : Trace) → ChangesAfterFront format t u → ChangesItsBytes format t u
body_inside format t u g = wider_goes 4096 (format.log_bytes + 4096 * format.pages) 0 (needed_length format) t u (omega arith) (omega arith) g

pub inside_on : (format : Format) (t u v : Trace) → ChangesItsBytes format t u → ChangesItsBytes format u v → ChangesItsBytes format t v
inside_on format t u v first second = more_goes 0 (needed_length format) 0 (needed_length format) t u v (omega arith) (omega arith) first second

pub after_on : (format : Format) (t u v : Trace) → ChangesAfterFront format t u → ChangesAfterFront format u v → ChangesAfterFront format t v
after_on format t u v first second =
    more_goes 4096 (format.log_bytes + 4096 * format.pages) 4096 (format.log_bytes + 4096 * format.pages) t u v (omega arith) (omega arith) first second

pub gate_keeps : (format : Format) (t u : Trace) → AtEachMoment (ChangesOnly 4096 1 t.now) t u → SameLogBytes format t u
gate_keeps format t u g = elsewhere_goes 4096 1 4097 (format.log_bytes - 1) t u (inr (omega arith)) g

pub pages_keep : (format : Format) (t u : Trace) → 1 ≤ format.log_bytes → AtEachMoment (ChangesOnly (place format 0) (4096 * format.pages) t.now) t u → SameLogBytes format t u
pages_keep format t u some g = elsewhere_goes (place format 0) (4096 * format.pages) 4097 (format.log_bytes - 1) t u (inl (omega arith)) g

-- images are brought home, and the log is closed
pub named_inside : (format : Format) (found : Replayed) (t u : Trace) → AtEachMoment (ChangesNamed format found t.now) t u → ChangesAfterFront format t u
named_inside format found t u g =
    wider_goes (place format 0) (4096 * format.pages) 4096 (format.log_bytes + 4096 * format.pages) t u (omega arith) (omega arith) (goes_weaker _ _ t u (λ m f. f.only) g)

pub log_inside : (format : Format) (t u : Trace) → AtEachMoment (ChangesOnly 4096 format.log_bytes t.now) t u → ChangesAfterFront format t u
log_inside format t u g = wider_goes 4096 format.log_bytes 4096 (format.log_bytes + 4096 * format.pages) t u (omega arith) (omega arith) g

pub same_inside : (format : Format) (t u : Trace) → u ≡ t → ChangesAfterFront format t u
same_inside format t u is = record { since = []; is = ap (λ (x : Trace). x.now ∷ x.past) is; each = tt }

pub sync_inside : {T E : Type 0} (format : Format) (r : Result T E) (t u : Trace) → Syncs r t u → ChangesAfterFront format t u
sync_inside format r t u is = synced_goes 4096 (format.log_bytes + 4096 * format.pages) r t t u (same_inside format t t refl) is

-- the index whose superblock was read
pub one_index : (format : Format) (honest : Bool) (t u v : Trace) → AreLimits format → needed_length format ≤ length t.now.seen
    → (IsTrue honest → IsFront format t.now.seen) → u ≡ t → ChangesAfterFront format u v
    → ChangesOneIndex honest t v
one_index format honest t u v allowed long front same only = record {
  format = format;
  allowed = allowed;
  long = long;
  front = front;
  only = subst (λ (x : Trace). ChangesAfterFront format x v) same only;
}
