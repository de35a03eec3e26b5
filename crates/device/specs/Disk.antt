-- A device at one moment: what a read gives, and what a crash may leave.
use Rattle.std.specs.Prelude.{◌≡◌, ◌⊎◌, ℕ, suc, ◌+◌, Bool, false, ◌||◌, ◌&&◌, nat_lt, nat_le, List, [], ◌∷◌, ◌++◌, length, take, drop, slice_index, slice_range, Result, MatchResult}
use Rattle.index_model.specs.declared.fault.Fault.{Fault}
use Rattle.index_model.specs.declared.fault.Fault.TheVariants.{Io}

-- the bytes as a read gives them, and which of them a crash may change
pub record DiskMoment : Type 0 where
  pub seen : List ℕ
  pub loose : ℕ → Bool

-- a device now, and at each earlier moment, the newest first
pub record Trace : Type 0 where
  pub now : DiskMoment
  pub past : List DiskMoment

-- what a crash at this moment may leave: any bytes where a range was written since the last sync, the
-- others as read
pub record MayCrashTo (m : DiskMoment) (image : List ℕ) : Type 0 where
  pub same_length : length image ≡ length m.seen
  pub same : (i : ℕ) → m.loose i ≡ false → slice_index image i ≡ slice_index m.seen i

-- the file with these bytes at this offset
abbrev pub put : List ℕ → ℕ → List ℕ → List ℕ
put file at bytes = take at file ++ bytes ++ drop (at + length bytes) file

-- the place lies in the range of n bytes at this offset
abbrev pub is_in : ℕ → ℕ → ℕ → Bool
is_in at n i = nat_le at i && nat_lt i (at + n)

-- the moment after these bytes were written there
abbrev pub wrote : ℕ → List ℕ → DiskMoment → DiskMoment
wrote at bytes m = record {
  seen = put m.seen at bytes;
  loose = λ i. m.loose i || is_in at (length bytes) i;
}

-- the moment after a sync
abbrev pub synced : DiskMoment → DiskMoment
synced m = record { seen = m.seen; loose = λ _. false }

-- a device whose bytes are all synced, before any call
abbrev pub first : List ℕ → Trace
first bytes = record { now = record { seen = bytes; loose = λ _. false }; past = [] }

-- one moment more
abbrev pub next : DiskMoment → Trace → Trace
next m t = record { now = m; past = t.now ∷ t.past }

-- a read of so many bytes gave those that are there
abbrev pub Reads : Trace → ℕ → List ℕ → List ℕ → Type 0
Reads t at old new = new ≡ slice_range t.now.seen at (at + length old)

-- a write that failed did nothing, or left any bytes in its range
abbrev pub Writes : {T E : Type 0} → ℕ → List ℕ → Result T E → Trace → Trace → Type 0
Writes at bytes result old new =
    MatchResult result (λ _. new ≡ next (wrote at bytes old.now) old)
    (λ _. (new ≡ old)
    ⊎ ((b : List ℕ) × (length b ≡ length bytes) × (new ≡ next (wrote at b old.now) old)))

-- the bytes were written as given, or nothing was
abbrev pub IsKeptOrNot : ℕ → List ℕ → Trace → Trace → Type 0
IsKeptOrNot at bytes old new = (new ≡ next (wrote at bytes old.now) old) ⊎ (new ≡ old)

-- a sync that failed did nothing
abbrev pub Syncs : {T E : Type 0} → Result T E → Trace → Trace → Type 0
Syncs result old new = MatchResult result (λ _. new ≡ next (synced old.now) old) (λ _. new ≡ old)

-- a call that failed answers Io and counts one failure; nothing else counts
abbrev pub CountsFailures : {T : Type 0} → Result T Fault → ℕ → ℕ → Type 0
CountsFailures result old new =
    MatchResult result (λ _. new ≡ old) (λ e. (e ≡ Io) × (new ≡ suc old))
