-- An index is restored: its log first, then its pages.
use Rattle.std.proofs.Common.{◌≡◌, ◌≤◌, ◌⊎◌, ⊎_elim, inl, inr, ℕ, suc, ◌+◌, ◌<◌, Bool, IsTrue, Result, Ok, Err, List, [], length, take, drop, refl, sym, ◌∙◌, ap, subst}
use Rattle.page_codec.specs.Places.{superblock, place}
use Rattle.recovery.proofs.Imports.{MatchResult, IfOk, OnOk, take_at, has_drop, DiskMoment, Trace, next, synced, Fault, NoMemory, Io, LogDamaged, AreLimits, Format, Page, AreHome, StandsOpened}
use Rattle.recovery.proofs.Imports.{RestartsTo, length-superblock, format_of_room, pages_of_room, IsOpened, IsDamaged, Log, IsIoOr, FailsWithIoOr, HasIndex, AreFrames, HasGroups, IsFound, IsFront}
use Rattle.recovery.proofs.Imports.{IsRestored, IsRefusal, IsSynced, IsRestoreRefusal, IsNoMemoryOrIo, AreSamePages, AreInUse, IsDamagedBlock, IsAllRead, Parts, Found, sizes_in}
use Rattle.recovery.proofs.Spelling.{sizes_spelled}
use Rattle.recovery.proofs.Blocks.{home_in_use, one_reading, not_damaged}

-- after a sync
module _ (format : Format) (t u : Trace) (is : u ≡ next (synced t.now) t) where
  pub firm_then : IsSynced u.now
  firm_then = subst (λ (v : Trace). IsSynced v.now) (sym is) (λ i. refl)

  pub restarts_then : (pages : List Page) → RestartsTo format t.now.seen pages → RestartsTo format u.now.seen pages
  restarts_then pages restarts = subst (λ (v : Trace). RestartsTo format v.now.seen pages) (sym is) restarts

  -- why the log is not restored then
  pub log_refuses : (honest : Bool) (v : Trace) (e : Fault) (fails middle failed : ℕ) → middle ≡ failed → ((e ≡ Io) × (fails ≡ suc middle)) ⊎ (((e ≡ NoMemory) ⊎ (e ≡ LogDamaged)) × (fails ≡ middle))
      → (e ≡ LogDamaged → (v ≡ u) × (IsTrue honest → IsDamaged format u.now)) → IsIoOr (IsRestoreRefusal format honest t v) failed fails e
  log_refuses honest v e fails middle failed same (inl io) damaged = inl (io.0, io.1 ∙ ap suc same)
  log_refuses honest v e fails middle failed same (inr other) damaged = inr (
    ⊎_elim
        (λ memory. inl memory)
        (λ log. inr (inl (log, (damaged log).0 ∙ is, λ h. subst (λ (w : Trace). IsDamaged format w.now) is ((damaged log).1 h))))
        other.0,
    other.1 ∙ same,
  )

-- the pages of an opened log are those in use
pub opened_in_use : (format : Format) (pages : List Page) (log : Log) (m : DiskMoment) (file : List ℕ) → IsOpened format log
    → RestartsTo format file pages → StandsOpened log m pages → AreInUse format pages m.seen
opened_in_use format pages log m file opened restarts stands =
    home_in_use format pages m restarts.stored restarts.few (subst (λ (l : Format). AreHome l [] pages m) opened.format_is stands.home)

pub all_in_use : (format : Format) (honest : Bool) (file : List ℕ) (found : Found) → IsTrue honest → IsAllRead format honest file found → AreInUse format (pages_of_room found.room) file
all_in_use format honest file found is all = record { stored = all.read.stored; few = all.few; stand = all.read.stand is; end = all.end is }

-- why the pages of an index are not read
pub pages_refuse : (format : Format) (pages : List Page) (honest : Bool) (file : List ℕ) (e : Fault) (fails failed : ℕ) → IsTrue honest → AreInUse format pages file → 0 < length pages
    → IsIoOr (λ e. (e ≡ NoMemory) ⊎ IsDamagedBlock format honest file e) failed fails e → IsNoMemoryOrIo e
pages_refuse format pages honest file e fails failed is in_use some (inl io) = inr io.0
pages_refuse format pages honest file e fails failed is in_use some (inr other) =
    ⊎_elim (λ memory. inl memory) (λ damaged. absurd (not_damaged format pages file damaged.0 in_use some (damaged.2 is))) other.0

-- the pages that are read are those of the index
pub same_pages : (format : Format) (honest : Bool) (pages : List Page) (m n : DiskMoment) (file : List ℕ) (parts : Parts) → IsTrue honest → n ≡ m
    → IsOpened format parts.log → RestartsTo format file pages → StandsOpened parts.log m pages
    → IsAllRead format honest m.seen parts.found → AreSamePages pages n parts
same_pages format honest pages m n file parts is same opened restarts stands all = record {
  pages_are = one_reading format (pages_of_room parts.found.room) pages m.seen (all_in_use format honest m.seen parts.found is all)
      (opened_in_use format pages parts.log m file opened restarts stands);
  stands = subst (λ (x : DiskMoment). StandsOpened parts.log x pages) (sym same) stands;
}

-- an index has one front
pub front_of : (format : Format) (pages : List Page) (file : List ℕ) → HasIndex format pages file → IsFront format file
front_of format pages file index = record {
  allowed = index.allowed;
  superblock_is = ap (take 4096) (has_drop 0 (superblock format) file index.restarts.superblock_is)
      ∙ take_at (superblock format) (drop (0 + length (superblock format)) file) 4096 (length-superblock format);
  long = index.restarts.long;
}

pub one_front : (format others : Format) (file : List ℕ) → IsFront format file → IsFront others file → format ≡ others
one_front format others file a b = sym (sizes_spelled format a.allowed) ∙ (ap sizes_in (sym a.superblock_is ∙ b.superblock_is) ∙ sizes_spelled others b.allowed)

-- a restored index is the one that was found
pub found_same : (r : Result Parts Fault) (found format : Format) (pages : List Page) (honest : Bool) (file : List ℕ) (m : DiskMoment)
    → found ≡ format → IfOk r (IsRestored found honest file) → MatchResult r (AreSamePages pages m) IsNoMemoryOrIo
    → MatchResult r (λ parts. (format_of_room parts.found.room ≡ format) × AreSamePages pages m parts) IsNoMemoryOrIo
found_same (Ok parts) found format pages honest file m is restored same = (restored.read.read.format_is ∙ is, same)
found_same (Err e) found format pages honest file m is restored same = same

-- a call that came after one that didn't fail
pub fails_after : {T : Type 0} (r : Result T Fault) (P Q : Fault → Type 0) (fails middle failed : ℕ) → middle ≡ failed
    → ((e : Fault) → IsIoOr P middle fails e → IsIoOr Q failed fails e) → FailsWithIoOr P r middle fails → FailsWithIoOr Q r failed fails
fails_after (Ok x) P Q fails middle failed same f p = p ∙ same
fails_after (Err e) P Q fails middle failed same f p = f e p

pub restore_refuses : (format : Format) (honest before : Bool) (frames : ℕ) (t u v : Trace) (e : Fault) (fails middle failed : ℕ) → AreFrames frames
    → (IsTrue honest → IsTrue before) → (IsTrue before → IsFront format t.now.seen) → u ≡ t → middle ≡ failed
    → IsIoOr (IsRestoreRefusal format honest u v) middle fails e → IsIoOr (IsRefusal honest frames t v) failed fails e
restore_refuses format honest before frames t u v e fails middle failed may earlier front same count (inl io) = inl (io.0, io.1 ∙ ap suc count)
restore_refuses format honest before frames t u v e fails middle failed may earlier front same count (inr other) =
    inr (inr (format, may, (λ h. front (earlier h)), subst (λ (w : Trace). IsRestoreRefusal format honest w v e) same other.0), other.1 ∙ count)

pub found_index : (r : Result Parts Fault) (format : Format) (honest : Bool) (t u : Trace) (new : List ℕ) → u ≡ t → AreLimits format
    → place format format.pages ≤ length new → (IsTrue honest → IsFront format t.now.seen) → IfOk r (IsRestored format honest new)
    → OnOk r (IsTrue honest → HasGroups format u.now.seen) → IfOk r (IsFound honest t.now.seen new)
found_index (Ok parts) format honest t u new same allowed long front restored undamaged = record {
  format = format;
  allowed = allowed;
  long = long;
  restored = restored;
  front = front;
  undamaged = λ h. subst (λ (w : Trace). HasGroups format w.now.seen) same (undamaged h);
}
found_index (Err e) format honest t u new same allowed long front restored undamaged = tt
