-- What a crash leaves restarts to the pages after a prefix of the acts.
use Rattle.std.proofs.Common.{◌≡◌, ◌⊎◌, ℕ, ◌+◌, ◌<◌, ◌≤◌, Option, Some, None, List, [], ◌∷◌, length, take, drop, replicate, slice_get, refl, sym, ap, subst, inl, inr, zero, suc, ◌∙◌, arith, length-drop}
use Rattle.page_codec.specs.Spelling.{page_bytes}
use Rattle.page_codec.specs.Places.{superblock, place}
use Rattle.page_store.proofs.Imports.{slice_get_past, DiskMoment, MayCrashTo, OnDisk, ChangesOnly, on_image, kept, Format, Page, AreStored, last_image, later_of, images_of, Holds, HoldsFirst}
use Rattle.page_store.proofs.Imports.{Restarts, after_acts, pages_after, AreActs, StandsAtHome, RestartsTo, RestartsToPart, CrashesToPart, AreHome, History}
use Rattle.page_store.proofs.Images.{get-after_acts, stored-after_acts, acts-take, acts-drop, after_both, none_among_fewer, later_is_none}

pub past_of_none : {A : Type 0} (xs : List A) (i : ℕ) → slice_get xs i ≡ None → length xs ≤ i
past_of_none [] i e = omega arith
past_of_none (x ∷ xs) zero e = absurd cc
past_of_none (x ∷ xs) (suc i) e = let h = past_of_none xs i e in omega arith

-- with an own superblock, and each page at home that has no image among the forced ones
module _ (format : Format) (base : List Page) (since : List (List Page)) (forced part : ℕ) (m : DiskMoment) (image : List ℕ) (left : MayCrashTo m image) (superblock_on : OnDisk 0 (superblock format) m)
    (home : AreHome format (images_of (take forced since)) base m) (le : forced ≤ part) (holds : Holds format image (take part since)) (acts : AreActs format base since) where
  get : (block : ℕ) → slice_get (after_acts base (take part since)) block ≡ later_of (slice_get base block) (last_image (images_of (take part since)) block)
  get block = get-after_acts format base (take part since) block (acts-take format base since part acts)

  used : (block : ℕ) (page : Page) (o : Option Page) → last_image (images_of (take part since)) block ≡ o → later_of (slice_get base block) (last_image (images_of (take part since)) block) ≡ Some page
      → (last_image (images_of holds.groups) block ≡ Some page) ⊎ StandsAtHome format (images_of holds.groups) block (page_bytes page) image
  used block page (Some late) is found = inl (holds.same.each block ∙ (is ∙ (sym (ap (λ (o : Option Page). later_of (slice_get base block) o) is) ∙ found)))
  used block page None is found =
      let here : slice_get base block ≡ Some page = sym (ap (λ (o : Option Page). later_of (slice_get base block) o) is) ∙ found in
      inr (record {
        unnamed = holds.same.each block ∙ is;
        has = on_image (place format block) (page_bytes page) m image (home.used block page here (none_among_fewer since forced part block le is)) left;
      })

  unused : (block : ℕ) → length (after_acts base (take part since)) ≤ block → block < format.pages → StandsAtHome format (images_of holds.groups) block (replicate 4096 0) image
  unused block past small =
      let none = later_is_none (slice_get base block) (last_image (images_of (take part since)) block) (sym (get block) ∙ slice_get_past (after_acts base (take part since)) block past) in
      record {
        unnamed = holds.same.each block ∙ none.1;
        has = on_image (place format block) (replicate 4096 0) m image (home.unused block (past_of_none base block none.0) small (none_among_fewer since forced part block le none.1)) left;
      }

  pub restarts_to : AreStored format 0 base → length base ≤ format.pages → place format format.pages ≤ length m.seen → RestartsTo format image (after_acts base (take part since))
  restarts_to stored few long =
      let now = stored-after_acts format base (take part since) (acts-take format base since part acts) stored few in
      record {
        superblock_is = on_image 0 (superblock format) m image superblock_on left;
        groups = holds.groups;
        spells = holds.spells;
        long = omega (arith, long, left.same_length);
        few = now.1;
        stored = now.0;
        used = λ block page found. used block page (last_image (images_of (take part since)) block) refl (sym (get block) ∙ found);
        unused = unused;
      }

-- places lie outside the log's range
pub home_kept : (format : Format) (images pages : List Page) (m n : DiskMoment) → ChangesOnly 4096 format.log_bytes m n → AreHome format images pages m → AreHome format images pages n
home_kept format images pages m n only home = record {
  used = λ block page found unnamed. kept 4096 format.log_bytes (place format block) (page_bytes page) m n only (inr (omega arith)) (home.used block page found unnamed);
  unused = λ block past small unnamed. kept 4096 format.log_bytes (place format block) (replicate 4096 0) m n only (inr (omega arith)) (home.unused block past small unnamed);
}

pub length-superblock : (format : Format) → length (superblock format) ≡ 4096
unfolding superblock
length-superblock format = refl

pub superblock_kept : (format : Format) (at n : ℕ) (old new : DiskMoment) → 4096 ≤ at → ChangesOnly at n old new → OnDisk 0 (superblock format) old → OnDisk 0 (superblock format) new
superblock_kept format at n old new later only on = kept at n 0 (superblock format) old new only (inl (omega (arith, length-superblock format))) on

module _ (format : Format) (h : History) (start_stored : AreStored format 0 h.start) (start_few : length h.start ≤ format.pages) (acts : AreActs format h.start h.acts) where
  pub pages_stored : (part : ℕ) → AreStored format 0 (pages_after h part) × (length (pages_after h part) ≤ format.pages)
  pages_stored part = stored-after_acts format h.start (take part h.acts) (acts-take format h.start h.acts part acts) start_stored start_few

  -- what the log holds of a prefix of the acts after the first `base`
  pub part_restarts : (base forced : ℕ) (m : DiskMoment) (image : List ℕ) → MayCrashTo m image → base ≤ length h.acts → OnDisk 0 (superblock format) m
      → AreHome format (images_of (take forced (drop base h.acts))) (pages_after h base) m → place format format.pages ≤ length m.seen
      → HoldsFirst format (drop base h.acts) forced image → RestartsToPart format h (base + forced) image
  part_restarts base forced m image left base_few superblock_on home long first =
      let at_base = pages_stored base in
      record {
        part = base + first.part;
        from = omega (arith, first.from);
        to = omega (arith, first.to, length-drop base h.acts);
        restarts = subst (RestartsTo format image) (sym (after_both h.start h.acts base first.part))
            (restarts_to format (pages_after h base) (drop base h.acts) forced first.part m image left superblock_on home first.from first.holds
            (acts-drop format h.start h.acts base acts) at_base.0 at_base.1 long);
      }

  -- what restarts in the log's terms does in those of pages
  pub leaves_part : (base forced : ℕ) (m : DiskMoment) → base ≤ length h.acts → OnDisk 0 (superblock format) m → AreHome format (images_of (take forced (drop base h.acts))) (pages_after h base) m
      → place format format.pages ≤ length m.seen → Restarts format (drop base h.acts) forced m → CrashesToPart format h (base + forced) m
  leaves_part base forced m base_few superblock_on home long restarts image left = part_restarts base forced m image left base_few superblock_on home long (restarts image left)

  whole : {A : Type 0} (xs : List A) → take (length xs) xs ≡ xs
  whole [] = refl
  whole (x ∷ xs) = ap (λ l. x ∷ l) (whole xs)

  -- all pages at home, and none in the log
  pub home_restarts : (pages : List Page) (m : DiskMoment) (image : List ℕ) → pages ≡ after_acts h.start h.acts → MayCrashTo m image → OnDisk 0 (superblock format) m → AreHome format [] pages m
      → place format format.pages ≤ length m.seen → Holds format image [] → RestartsToPart format h (length h.acts) image
  home_restarts pages m image are left superblock_on home long holds =
      let now = stored-after_acts format h.start h.acts acts start_stored start_few in
      record {
        part = length h.acts;
        from = omega arith;
        to = omega arith;
        restarts = subst (RestartsTo format image) (are ∙ ap (λ (as' : List (List Page)). after_acts h.start as') (sym (whole h.acts)))
            (restarts_to format pages [] 0 0 m image left superblock_on home (omega arith) holds tt (subst (AreStored format 0) (sym are) now.0)
            (subst (λ (ps : List Page). length ps ≤ format.pages) (sym are) now.1) long);
      }
