-- What refuses what stands in front of an index.
use Rattle.std.proofs.Common.{◌≡◌, ◌⊎◌, ◌≤◌, ◌<◌, inl, inr, refl, sym, subst, ◌∙◌, ℕ, Bool, IsTrue, List, length, take}
use Rattle.page_codec.specs.Places.{needed_length, superblock}
use Rattle.recovery.proofs.Imports.{AreLimits, Fault, BadSuper, BadVersion, BadLimits, Format, AreFrames, IsFrontFault, IsFrontRefusal, IsNoSuperblock}

-- a superblock is refused with one of three faults
fault_of : (bytes : List ℕ) (fault : Fault) → IsNoSuperblock bytes fault → IsFrontFault fault
fault_of bytes fault (inl begins) = inl begins.0
fault_of bytes fault (inr magic) = after_magic magic.1
  where
    after_layout : {A B C : Type 0} → ((fault ≡ BadLimits) × A) ⊎ (B × (fault ≡ BadSuper) × C) → IsFrontFault fault
    after_layout (inl format) = inr (inr format.0)
    after_layout (inr rest) = inl rest.1

    after_magic : {A B C D E : Type 0} → ((fault ≡ BadVersion) × A) ⊎ (B × (((fault ≡ BadLimits) × C) ⊎ (D × (fault ≡ BadSuper) × E))) → IsFrontFault fault
    after_magic (inl layout) = inr (inl layout.0)
    after_magic (inr rest) = after_layout rest.1

module _ (honest : Bool) (frames : ℕ) (file bytes : List ℕ) (are : AreFrames frames) (long : 4096 ≤ length file) (read : IsTrue honest → take 4096 file ≡ bytes) where
  -- bytes that are no superblock
  pub no_superblock : (fault : Fault) → IsNoSuperblock bytes fault → IsFrontRefusal honest frames file fault
  no_superblock fault why = inr (are, inr (long, fault_of bytes fault why, (λ h. inl (subst (λ (b : List ℕ). IsNoSuperblock b fault) (sym (read h)) why))))

  -- a device that is shorter than its superblock says
  pub too_short : (format : Format) → AreLimits format → bytes ≡ superblock format → length file < needed_length format → IsFrontRefusal honest frames file BadSuper
  too_short format allowed found less = inr (are, inr (long, inl refl, (λ h. inr (refl, format, allowed, read h ∙ found, less))))
