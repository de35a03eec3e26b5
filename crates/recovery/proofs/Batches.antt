-- Several blocks are read or written at once.
use Rattle.std.proofs.Common.{◌≡◌, inl, ⊎_elim, ℕ, ◌+◌, ◌-◌, ◌*◌, ◌<◌, ◌≤◌, IsTrue, Bool, List, length, take, drop, get_or, replicate, slice_range, Result, Ok, Err, sym, ◌∙◌, ap, subst, arith}
use Rattle.std.proofs.lemmas.List.{drop-drop, drop-take, get_or-replicate, take-take}
use Rattle.std.specs.Prelude.{IfErr}
use Rattle.page_codec.specs.Grammar.{IsPage}
use Rattle.page_codec.specs.Spelling.{page_bytes}
use Rattle.recovery.proofs.Imports.{IsErrAnd, Fault, length-replicate, cases_lt, DiskMoment, Trace, AtEachMoment, Has, ChangesOnly, place, Format, Page, pages_of_room, AreZero, AreBlocks, HasReadPages, IsDamagedAt, block_bytes, Found}
use Rattle.recovery.proofs.Creating.{zeros_stay}

-- zeros that stand there are zeros of each block of theirs
zeros_among : (format : Format) (from end block : ℕ) (file : List ℕ) → Has (place format from) (replicate (4096 * (end - from)) 0) file → from ≤ block → block < end
    → Has (place format block) (replicate 4096 0) file
zeros_among format from end block file has low high =
    let n = 4096 * (end - from) in
    let k = 4096 * (block - from) in
    let long = length-replicate {A = ℕ} n 0 in
    let short = length-replicate {A = ℕ} 4096 0 in
    record {
      within = omega (arith, has.within, long, short, low, high);
      each = λ i lt.
          let there : place format block + i ≡ place format from + (k + i) = omega (arith, low) in
          ap (λ (j : ℕ). get_or file j 0) there ∙ (has.each (k + i) (omega (arith, long, short, low, high, lt)) ∙ (get_or-replicate n (k + i) 0 0 (omega (arith, short, low, high, lt)) ∙ sym (get_or-replicate 4096 i 0 0 (omega (arith, short, lt)))));
    }

-- some blocks of zeros more
pub zeros_more : (format : Format) (block end : ℕ) (old new : DiskMoment) → block ≤ end → AreZero format 2 block old.seen
    → Has (place format block) (replicate (4096 * (end - block)) 0) new.seen → ChangesOnly (place format block) (4096 * (end - block)) old new → AreZero format 2 end new.seen
zeros_more format block end old new order zero has only =
    let stay = zeros_stay format 2 block (place format block) (4096 * (end - block)) old new only (inl (omega arith)) zero in
    λ b low high. ⊎_elim (λ lt. stay b low lt) (λ ge. zeros_among format block end b new.seen has (omega arith) high) (cases_lt b block)

-- zeros were written over the blocks from there up to there
module _ (format : Format) (block end at : ℕ) (bytes : List ℕ) (at_is : at ≡ place format block) (is : bytes ≡ replicate (4096 * (end - block)) 0) where
  pub zeros_written : (t u : Trace) → AtEachMoment (ChangesOnly at (length bytes) t.now) t u → AtEachMoment (ChangesOnly (place format block) (4096 * (end - block)) t.now) t u
  zeros_written t u moments =
      subst (λ (n : ℕ). AtEachMoment (ChangesOnly n (4096 * (end - block)) t.now) t u) at_is
      (subst (λ (k : ℕ). AtEachMoment (ChangesOnly at k t.now) t u) (ap length is ∙ length-replicate {A = ℕ} (4096 * (end - block)) 0) moments)

  pub zeros_there : (file : List ℕ) → Has at bytes file → Has (place format block) (replicate (4096 * (end - block)) 0) file
  zeros_there file has = subst (λ (n : ℕ). Has n (replicate (4096 * (end - block)) 0) file) at_is (subst (λ (l : List ℕ). Has at l file) is has)

-- the bytes of one block among those of several
pub block_among : (format : Format) (from end block : ℕ) (bytes file : List ℕ) → AreBlocks format from end bytes file → from ≤ block → block < end
    → slice_range bytes (4096 * (block - from)) (4096 * (block - from) + 4096) ≡ block_bytes format block file
block_among format from end block bytes file are low high =
    let k = 4096 * (block - from) in
    let p = place format from in
    let n = place format end - p in
    let one : k + 4096 - k ≡ 4096 = omega arith in
    let all : n ≡ k + (n - k) = omega (arith, low, high) in
    let start : p + k ≡ place format block = omega (arith, low) in
    let size : 4096 ≡ place format block + 4096 - place format block = omega arith in
    ap (λ (l : List ℕ). take (k + 4096 - k) (drop k l)) are
    ∙ ap (λ (m : ℕ). take m (drop k (take n (drop p file)))) one
    ∙ ap (λ (m : ℕ). take 4096 (drop k (take m (drop p file)))) all
    ∙ ap (take 4096) (drop-take k (n - k) (drop p file))
    ∙ take-take 4096 (n - k) (drop k (drop p file)) (omega (arith, low, high))
    ∙ ap (take 4096) (drop-drop k p file)
    ∙ ap (λ (m : ℕ). take 4096 (drop m file)) start
    ∙ ap (λ (m : ℕ). take m (drop (place format block) file)) size

-- what was read is read too if less is known of the device
pub read_still : (format : Format) (before after : Bool) (file : List ℕ) (found : Found) → (IsTrue after → IsTrue before) → HasReadPages format before file found → HasReadPages format after file found
read_still format before after file found earlier read = record {
  format_is = read.format_is;
  stored = read.stored;
  counts = read.counts;
  last_cycle = read.last_cycle;
  stand = λ honest. read.stand (earlier honest);
}

-- the block whose bytes are those of no page, nor zeros, is damaged
pub damaged_bytes : (format : Format) (honest : Bool) (file bytes : List ℕ) (found : Found) (block : ℕ) → HasReadPages format honest file found → IsTrue honest
    → length (pages_of_room found.room) ≡ block → block < format.pages → bytes ≡ block_bytes format block file
    → ((page : Page) → IsPage page → bytes ≡ page_bytes page → ⊥) → (bytes ≡ replicate 4096 0 → ⊥) → IsDamagedAt format block file
damaged_bytes format honest file bytes found block read is count within here no_page in_use = record {
  before = pages_of_room found.room;
  stored = read.stored;
  stand = read.stand is;
  count = count;
  within = within;
  no_page = λ page stored same. no_page page stored.storable.admitted (here ∙ same);
  in_use = λ zeros. absurd (in_use (here ∙ zeros));
}

-- what a read of several blocks gives are their bytes
pub blocks_read : (format room : Format) (from end at n : ℕ) (seen file bytes : List ℕ) → room ≡ format → at ≡ place format from → n ≡ 4096 * (end - from) → from ≤ end
    → seen ≡ file → bytes ≡ slice_range seen at (at + n) → AreBlocks room from end bytes file
blocks_read format room from end at n seen file bytes same at_is long order seen_is is =
    let start : at ≡ place room from = at_is ∙ ap (λ (l : Format). place l from) (sym same) in
    let size : at + n - at ≡ place room end - place room from = omega (arith, long, order) in
    is
    ∙ ap (λ (l : List ℕ). take (at + n - at) (drop at l)) seen_is
    ∙ ap (λ (j : ℕ). take (at + n - at) (drop j file)) start
    ∙ ap (λ (k : ℕ). take k (drop (place room from) file)) size

-- what holds of a fault holds of the error of a result that is refused with it
pub refused_with : {T : Type 0} (r : Result T Fault) (e : Fault) (P : Fault → Type 0) → IsErrAnd r (λ x. x ≡ e) → P e → IfErr r P
refused_with (Ok x) e P is p = absurd is
refused_with (Err y) e P is p = subst P (sym is) p
