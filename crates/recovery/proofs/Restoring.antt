-- An index stays the same while its log is brought home and closed.
use Rattle.std.proofs.Common.{◌≡◌, ◌⊎◌, ⊎_elim, inl, inr, ℕ, suc, ◌+◌, ◌*◌, ◌<◌, ◌≤◌, Some, None, Result, List, [], length, take, replicate, slice_get, refl, sym, ◌∙◌, ap, subst, arith}
use Rattle.std.proofs.lemmas.Grind.{same_number_lists}
use Rattle.std.specs.Option.{option_map}
use Rattle.page_codec.specs.Spelling.{page_bytes}
use Rattle.page_codec.specs.Places.{superblock, place}
use Rattle.redo_log.specs.Groups.{SpellsGroups, log_range}
use Rattle.redo_log.specs.Images.{last_image, images_of, SameImages}
use Rattle.redo_log.proofs.Keeping.{forgets_all}
use Rattle.recovery.proofs.Imports.{take_all, length-replicate, slice_get_within, DiskMoment, Trace, MayCrashTo, Syncs, synced, AtEachMoment, Has, OnDisk, ChangesOnly, goes_weaker, goes_both}
use Rattle.recovery.proofs.Imports.{goes_now, syncs_goes, elsewhere_untouched, on_image, kept, same_only, Fault, NoMemory, Io, LogDamaged, Format, AreStored, stored_page, Page, length-page}
use Rattle.recovery.proofs.Imports.{AreHome, StandsOpened, RestartsTo, CrashesToPages, superblock_kept, LogHolds, Restarts, RestartsOrEmpty, RestartsOrEmptyThroughout, ChangesItsRange}
use Rattle.recovery.proofs.Imports.{ForgetsForced, KeepsWhileUntouched, WhatItKeepsRestarts, format_of, waiting_count, Replays, IsOpened, IsDamaged, HoldsLast, kept_image, Log, Replayed}
use Rattle.recovery.proofs.Imports.{ChangesNamed, AreHomed, IsSynced, IsNoMemoryOrIo}
use Rattle.recovery.proofs.Named.{same_named}

-- of each block the page is the last of these images, or stands at home; and no crash changes that
pub record StandsOnDisk (format : Format) (images pages : List Page) (m : DiskMoment) : Type 0 where
  pub superblock_on : OnDisk 0 (superblock format) m
  pub long : place format format.pages ≤ length m.seen
  pub few : length pages ≤ format.pages
  pub stored : AreStored format 0 pages
  pub used : (block : ℕ) (page : Page) → slice_get pages block ≡ Some page → (last_image images block ≡ Some page)
      ⊎ ((last_image images block ≡ None) × OnDisk (place format block) (page_bytes page) m)
  pub unused : (block : ℕ) → length pages ≤ block → block < format.pages → (last_image images block ≡ None) × OnDisk (place format block) (replicate 4096 0) m

firm_on : (at : ℕ) (bytes : List ℕ) (m : DiskMoment) → IsSynced m → Has at bytes m.seen → OnDisk at bytes m
firm_on at bytes m firm has = record { has = has; firm = λ i lt. firm (at + i) }

-- what a synced device restarts to stands there
pub stands_at : (format : Format) (pages : List Page) (m : DiskMoment) → IsSynced m → (r : RestartsTo format m.seen pages) → StandsOnDisk format (images_of r.groups) pages m
stands_at format pages m firm r = record {
  superblock_on = firm_on 0 (superblock format) m firm r.superblock_is;
  long = r.long;
  few = r.few;
  stored = r.stored;
  used = λ block page found. ⊎_elim (λ image. inl image) (λ home. inr (home.unnamed, firm_on (place format block) (page_bytes page) m firm home.has)) (r.used block page found);
  unused = λ block past small. (let home = r.unused block past small in (home.unnamed, firm_on (place format block) (replicate 4096 0) m firm home.has));
}

-- a crash leaves it, if the log's range that it leaves has these images
pub stands_leaves : (format : Format) (images pages : List Page) (m : DiskMoment) → StandsOnDisk format images pages m → (image : List ℕ) → MayCrashTo m image
    → (groups : List (List Page)) → SpellsGroups format (log_range format image) groups
    → ((block : ℕ) → last_image (images_of groups) block ≡ last_image images block) → RestartsTo format image pages
stands_leaves format images pages m s image left groups spells same = record {
  superblock_is = on_image 0 (superblock format) m image s.superblock_on left;
  groups = groups;
  spells = spells;
  long = omega (arith, s.long, left.same_length);
  few = s.few;
  stored = s.stored;
  used = λ block page found. ⊎_elim (λ late. inl (same block ∙ late))
      (λ home. inr (record { unnamed = same block ∙ home.0; has = on_image (place format block) (page_bytes page) m image home.1 left })) (s.used block page found);
  unused = λ block past small. (let home = s.unused block past small in record { unnamed = same block ∙ home.0; has = on_image (place format block) (replicate 4096 0) m image home.1 left });
}

-- what is kept of a block without an image
unkept : (found : Replayed) (images : List Page) (block : ℕ) → HoldsLast found images → last_image images block ≡ None → kept_image found block ≡ None
unkept found images block lasts none = lasts.each block ∙ ap (option_map page_bytes) none

-- it stays while places of blocks with an image are written
pub stands_named : (format : Format) (images pages : List Page) (found : Replayed) (a b : DiskMoment) → HoldsLast found images
    → ChangesNamed format found a b → StandsOnDisk format images pages a → StandsOnDisk format images pages b
stands_named format images pages found a b lasts change s = record {
  superblock_on = superblock_kept format (place format 0) (4096 * format.pages) a b (omega arith) change.only s.superblock_on;
  long = omega (arith, s.long, change.only.same_length);
  few = s.few;
  stored = s.stored;
  used = λ block page is. ⊎_elim (λ late. inl late)
      (λ home. inr (
        home.0,
        change.others block (page_bytes page) (length-page page (stored_page format block pages page s.stored is).storable.admitted)
            (unkept found images block lasts home.0) home.1,
      )) (s.used block page is);
  unused = λ block past small.
      (let home = s.unused block past small in (home.0, change.others block (replicate 4096 0) (length-replicate {A = ℕ} 4096 0) (unkept found images block lasts home.0) home.1));
}

-- and while the log's range changes
pub stands_logged : (format : Format) (images pages : List Page) (a b : DiskMoment) → ChangesOnly 4096 format.log_bytes a b → StandsOnDisk format images pages a → StandsOnDisk format images pages b
stands_logged format images pages a b only s = record {
  superblock_on = superblock_kept format 4096 format.log_bytes a b (omega arith) only s.superblock_on;
  long = omega (arith, s.long, only.same_length);
  few = s.few;
  stored = s.stored;
  used = λ block page found.
      ⊎_elim (λ late. inl late) (λ home. inr (home.0, kept 4096 format.log_bytes (place format block) (page_bytes page) a b only (inr (omega arith)) home.1)) (s.used block page found);
  unused = λ block past small. (let home = s.unused block past small in (home.0, kept 4096 format.log_bytes (place format block) (replicate 4096 0) a b only (inr (omega arith)) home.1));
}

-- once the images are written all pages stand at home
pub stands_home : (format : Format) (images pages : List Page) (found : Replayed) (m : DiskMoment) → HoldsLast found images → AreHomed format found m
    → StandsOnDisk format images pages m → StandsOnDisk format [] pages m
stands_home format images pages found m lasts homed s = record {
  superblock_on = s.superblock_on;
  long = s.long;
  few = s.few;
  stored = s.stored;
  used = λ block page is. ⊎_elim
      (λ late. inr (refl, homed block (page_bytes page) (omega (arith, slice_get_within pages block page is, s.few)) (lasts.each block ∙ ap (option_map page_bytes) late)))
      (λ home. inr (refl, home.1)) (s.used block page is);
  unused = λ block past small. (refl, (s.unused block past small).1);
}

pub home_of : (format : Format) (pages : List Page) (m : DiskMoment) → StandsOnDisk format [] pages m → AreHome format [] pages m
home_of format pages m s = record {
  used = λ block page found none. ⊎_elim (λ (late : None ≡ Some page). absurd cc) (λ home. home.1) (s.used block page found);
  unused = λ block past small none. (s.unused block past small).1;
}

-- a crash leaves a synced device as it is
pub left_synced : (m : DiskMoment) (image : List ℕ) → IsSynced m → MayCrashTo m image → image ≡ m.seen
left_synced m image firm left = same_number_lists image m.seen left.same_length (λ i lt. left.same i (firm i))

pub sync_leaves : {T E : Type 0} (format : Format) (pages : List Page) (r : Result T E) (t u : Trace) → RestartsTo format t.now.seen pages → Syncs r t u → AtEachMoment (CrashesToPages format pages) t u
sync_leaves format pages r t u restarts s =
    syncs_goes (CrashesToPages format pages) r t u s (λ image left. subst (λ (file : List ℕ). RestartsTo format file pages) (sym (left_synced (synced t.now) image (λ i. refl) left)) restarts)

-- the same from an equal start
pub named_from : (format : Format) (found : Replayed) (t t' u : Trace) → t' ≡ t → AtEachMoment (ChangesNamed format found t'.now) t' u → AtEachMoment (ChangesNamed format found t.now) t u
named_from format found t t' u e moments = subst (λ (x : Trace). AtEachMoment (ChangesNamed format found x.now) x u) e moments

-- a log that was just replayed over an index
pub record IsReplayed (format : Format) (images pages : List Page) (found : Replayed) (t : Trace) : Type 0 where
  pub firm : IsSynced t.now
  pub restarts : RestartsTo format t.now.seen pages
  pub opened : IsOpened format found.log
  pub lasts : HoldsLast found images
  pub replays : Replays format t.now found.log images
  pub law : KeepsWhileUntouched found.log
  pub leaves : WhatItKeepsRestarts found.log

module _ (format : Format) (images pages : List Page) (found : Replayed) (t : Trace) (r : IsReplayed format images pages found t) where
  abbrev log : Log
  log = found.log

  abbrev gs : List (List Page)
  gs = r.replays.groups

  pub started : StandsOnDisk format images pages t.now
  started =
      let one : r.restarts.groups ≡ gs = r.replays.only r.restarts.groups r.restarts.spells in
      subst (λ (l : List Page). StandsOnDisk format l pages t.now) (ap images_of one ∙ sym r.replays.images_are) (stands_at format pages t.now r.firm r.restarts)

  keeps : LogHolds log t.now gs (length gs)
  keeps = r.replays.keeps (record { firm = λ i lt. r.firm (4096 + i) })

  same_images : (part : ℕ) (groups : List (List Page)) → length gs ≤ part → SameImages (images_of groups) (images_of (take part gs)) → (block : ℕ)
      → last_image (images_of groups) block ≡ last_image images block
  same_images part groups all same block =
      same.each block ∙ ap (λ (l : List Page). last_image l block) (ap images_of (take_all part gs all) ∙ sym r.replays.images_are)

  keeps_written : (m : DiskMoment) → ChangesNamed format found t.now m → LogHolds log m gs (length gs)
  keeps_written m change =
      r.law t.now m gs (length gs)
      (elsewhere_untouched (place format 0) (4096 * format.pages) 4096 (format_of log).log_bytes t.now m change.only
      (inl (omega (arith, ap (λ (l : Format). l.log_bytes) r.opened.format_is)))) keeps

  -- while its images are written
  pub written_leaves : (m : DiskMoment) → ChangesNamed format found t.now m → CrashesToPages format pages m
  written_leaves m change image left =
      let h = subst (λ (l : Format). Restarts l gs (length gs) m) r.opened.format_is (r.leaves m gs (length gs) (keeps_written m change)) image left in
      stands_leaves format images pages m (stands_named format images pages found t.now m r.lasts change started) image left h.holds.groups
      h.holds.spells (same_images h.part h.holds.groups h.from h.holds.same)

  -- once they are written and synced, and while the log is closed
  module _ (u v : Trace) (moments : AtEachMoment (ChangesNamed format found t.now) t u) (homed : AreHomed format found u.now) where
    now_named : ChangesNamed format found t.now u.now
    now_named = goes_now _ t u moments (same_named format found t.now)

    both : StandsOnDisk format images pages u.now
    both = stands_named format images pages found t.now u.now r.lasts now_named started

    pub at_home : StandsOnDisk format [] pages u.now
    at_home = stands_home format images pages found u.now r.lasts homed both

    closing_leaves : (m : DiskMoment) → RestartsOrEmpty format (take (length gs) gs) m → ChangesOnly 4096 format.log_bytes u.now m → CrashesToPages format pages m
    closing_leaves m either only image left = ⊎_elim
        (λ holds. stands_leaves format images pages m (stands_logged format images pages u.now m only both) image left holds.groups holds.spells
        (same_images (length gs) holds.groups (omega arith) holds.same))
        (λ holds. stands_leaves format [] pages m (stands_logged format [] pages u.now m only at_home) image left holds.groups holds.spells (λ block. holds.same.each block))
        (either image left)

    module _ (closing : RestartsOrEmptyThroughout log u v) (outside : ChangesItsRange (format_of log) u v) where
      outside_here : AtEachMoment (ChangesOnly 4096 format.log_bytes u.now) u v
      outside_here = subst (λ (l : Format). ChangesItsRange l u v) r.opened.format_is outside

      pub closed_goes : AtEachMoment (CrashesToPages format pages) u v
      closed_goes =
          let holds = subst (λ (l : Format). AtEachMoment (RestartsOrEmpty l (take (length gs) gs)) u v) r.opened.format_is (closing gs (length gs) (keeps_written u.now now_named)) in
          goes_weaker _ _ u v (λ m two. closing_leaves m two.0 two.1) (goes_both _ _ u v holds outside_here)

      pub closed_stands : (after : Log) → format_of after ≡ format_of log → waiting_count after ≡ waiting_count log → ForgetsForced log u.now after v.now → StandsOpened after v.now pages
      closed_stands after same waits forgets =
          let l = same ∙ r.opened.format_is in
          let s = stands_logged format [] pages u.now v.now (goes_now _ u v outside_here (same_only 4096 format.log_bytes u.now)) at_home in
          record {
            log_keeps = forgets_all log u.now after v.now forgets waits r.opened.waiting gs (length gs) (keeps_written u.now now_named);
            home = subst (λ (x : Format). AreHome x [] pages v.now) (sym l) (home_of format pages v.now s);
            superblock_on = subst (λ (x : Format). OnDisk 0 (superblock x) v.now) (sym l) s.superblock_on;
          }

-- what an index is not refused with
pub replay_refuses : (format : Format) (m : DiskMoment) (pages : List Page) (e : Fault) (fails failed : ℕ) → ((e ≡ Io) × (fails ≡ suc failed))
    ⊎ (((e ≡ NoMemory) ⊎ (e ≡ LogDamaged)) × (fails ≡ failed)) → (e ≡ LogDamaged → IsDamaged format m)
    → RestartsTo format m.seen pages → IsNoMemoryOrIo e
replay_refuses format m pages e fails failed (inl io) damaged restarts = inr io.0
replay_refuses format m pages e fails failed (inr other) damaged restarts = ⊎_elim (λ memory. inl memory) (λ is. absurd (damaged is restarts.groups restarts.spells)) other.0
