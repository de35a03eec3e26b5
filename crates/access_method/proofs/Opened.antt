-- Why an open is refused.
use Rattle.std.specs.Prelude.{◌≡◌, length, IsTrue, Option, Some, IfSome}
use Rattle.std.proofs.Common.{inl, inr, sym, subst, ap, ◌∙◌}
use Rattle.device.specs.Disk.{first}
use Rattle.access_method.proofs.Imports.{ℕ, Bool, List, Trace, Fault, Format, HasIndex}
use Rattle.device.specs.declared.device.Device.{Ghosts as DeviceGhosts}
use Rattle.page_codec.specs.declared.page.Page.{Page}
use Rattle.recovery.specs.Opening.{AreFrames, IsNoMemoryOrIo}
use Rattle.recovery.specs.Calls.{IsIoOr}
use Rattle.recovery.specs.Opening.{IsFrontFault, IsFrontRefusal, IsRefusal}
use Rattle.access_method.specs.Files.{IsOpenFault, IsNotOpened, bytes_before}

front : (fault : Fault) → IsFrontFault fault → IsOpenFault fault
front fault (inl is) = subst IsOpenFault (sym is) tt
front fault (inr (inl is)) = subst IsOpenFault (sym is) tt
front fault (inr (inr is)) = subst IsOpenFault (sym is) tt

front_refusal : (honest : Bool) (frames : ℕ) (file : List ℕ) (fault : Fault) → IsFrontRefusal honest frames file fault → IsOpenFault fault
front_refusal honest frames file fault (inl h) = subst IsOpenFault (sym h.0) tt
front_refusal honest frames file fault (inr (allowed, inl short)) = subst IsOpenFault (sym short.0) tt
front_refusal honest frames file fault (inr (allowed, inr other)) = front fault other.1

-- whatever an open is refused with is one of the faults of opening
pub open_fault : (honest : Bool) (frames : ℕ) (old new : Trace) (failed fails : ℕ) (fault : Fault)
    → IsIoOr (IsRefusal honest frames old new) failed fails fault → IsOpenFault fault
open_fault honest frames old new failed fails fault (inl io) = subst IsOpenFault (sym io.0) tt
open_fault honest frames old new failed fails fault (inr (inl first, same)) = front_refusal honest frames old.now.seen fault first.0
open_fault honest frames old new failed fails fault (inr (inr (format, allowed, front, inl memory), same)) = subst IsOpenFault (sym memory) tt
open_fault honest frames old new failed fails fault (inr (inr (format, allowed, front, inr (inl log)), same)) = subst IsOpenFault (sym log.0) tt
open_fault honest frames old new failed fails fault (inr (inr (format, allowed, front, inr (inr (block, is, damaged))), same)) = subst IsOpenFault (sym is) tt

-- the device was made over a file that held these bytes, and is as long as it was: so what it was refused for
-- is of that file
pub not_opened_is : {D : Type 0} (d : DeviceGhosts D) (Sound : Format → List Page → Type 0) (bytes : ℕ → List ℕ) (sized : (n : ℕ) → length (bytes n) ≡ n)
    (frames n : ℕ) (before after : D) (fault : Fault)
    → d.trace before ≡ first (bytes n) → d.failures before ≡ 0 → length (d.trace after).now.seen ≡ length (d.trace before).now.seen
    → IsIoOr (IsRefusal (d.is_honest after) frames (d.trace before) (d.trace after)) (d.failures before) (d.failures after) fault
    → (IsTrue (d.is_honest after) → AreFrames frames → (format : Format) (pages : List Page)
    → HasIndex format pages (d.trace before).now.seen → Sound format pages → IsNoMemoryOrIo fault)
    → IsNotOpened d Sound bytes frames fault after
not_opened_is d Sound bytes sized frames n before after fault held none len cause sound =
    let seen = ap (λ (t : Trace). t.now.seen) held in
    let same : bytes n ≡ bytes_before bytes (d.trace after) = ap bytes (sym (sized n) ∙ sym (ap length seen) ∙ sym len) in
    let is : d.trace before ≡ first (bytes_before bytes (d.trace after)) = held ∙ ap first same in
    record {
      cause = subst (λ (failed : ℕ). IsIoOr (IsRefusal (d.is_honest after) frames (first (bytes_before bytes (d.trace after))) (d.trace after)) failed (d.failures after) fault) none
          (subst (λ (t : Trace). IsIoOr (IsRefusal (d.is_honest after) frames t (d.trace after)) (d.failures before) (d.failures after) fault) is cause);
      sound = λ honest allowed format pages index tree.
          sound honest allowed format pages (subst (HasIndex format pages) (sym (ap (λ (t : Trace). t.now.seen) is)) index) tree;
    }

-- ... and so it is told
pub told_not_opened : {D : Type 0} (d : DeviceGhosts D) (Sound : Format → List Page → Type 0) (bytes : ℕ → List ℕ) (frames : ℕ) (device : D) (fault told : Fault) (left : Option D)
    → told ≡ fault → left ≡ Some device → IsNotOpened d Sound bytes frames fault device → IfSome left (IsNotOpened d Sound bytes frames told)
told_not_opened d Sound bytes frames device fault told left same there is =
    subst (λ (o : Option _). IfSome o (IsNotOpened d Sound bytes frames told)) (sym there)
    (subst (λ (f : Fault). IsNotOpened d Sound bytes frames f device) (sym same) is)
