-- What holds at each moment since an earlier one.
use Rattle.std.specs.Prelude.{◌≡◌, ◌⊎◌, ℕ, List, [], ◌∷◌, ◌++◌}
use Rattle.device.specs.Disk.{DiskMoment, Trace, MayCrashTo}

-- P holds of each
abbrev pub Each : (DiskMoment → Type 0) → List DiskMoment → Type 0
Each P [] = Unit {0}
Each P (m ∷ ms) = P m × Each P ms

-- from old on, a device came to new, and P held at each moment since (at old itself it need not)
pub record AtEachMoment (P : DiskMoment → Type 0) (old new : Trace) : Type 0 where
  pub since : List DiskMoment
  pub is : new.now ∷ new.past ≡ since ++ old.now ∷ old.past
  pub each : Each P since

-- P holds of one of them
abbrev pub AtSome : (DiskMoment → Type 0) → List DiskMoment → Type 0
AtSome P [] = ⊥
AtSome P (m ∷ ms) = P m ⊎ AtSome P ms

-- a crash at old, or at a moment since, may have left this image
pub record MayHaveCrashedTo (old new : Trace) (image : List ℕ) : Type 0 where
  pub since : List DiskMoment
  pub is : new.now ∷ new.past ≡ since ++ old.now ∷ old.past
  pub left : AtSome (λ m. MayCrashTo m image) (since ++ old.now ∷ [])
