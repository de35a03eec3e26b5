-- Why no run was made.
use Rattle.std.specs.Prelude.{length}
use Rattle.std.proofs.Common.{◌≡◌, ◌∙◌, ◌≤◌, ℕ, List, ap, inl, inr, subst, sym}
use Rattle.device.specs.Disk.{Trace, first}
use Rattle.index_model.specs.declared.fault.Fault.TheVariants.{NoMemory}
use Rattle.index_model.specs.declared.format.Format.{Format}
use Rattle.page_store.specs.Stores.{device_of}
use Rattle.recovery.specs.Index.{HasIndex}
use Rattle.recovery.specs.Opening.{AreFrames, IsNoMemoryOrIo}
use Rattle.sessions.specs.Finishing.{RunIsRefusedFor}
use Rattle.access_method.specs.Files.{bytes_before}
use Rattle.command_line.specs.RunRefusals.{IsRunOnFileRefused, IsWorldNotOpened, IsWorldOpeningRefused, IsWorldRefusal}
use Rattle.command_line.proofs.Imports.{Option, Some, None, IfNone, IfOk, IsTrue, Result, Ok, Err, DeviceGhosts, SetGhosts, Fault, Ghosts, Page, Store, Job, World, IsTreeFor, IsWorldOfFile, End, AlreadyPrinted, Refused}

-- the fault that a command is refused with, if it is
abbrev fault_in : {E : Type 0} → Result End E → Fault
fault_in (Ok (Refused fault)) = fault
fault_in end = NoMemory

-- no run was made for this reason, and so it is told
pub told_no_run : {D W E : Type 0} (Why : Fault → Option D → Type 0) (world : Option W) (left device : Option D) (end : Result End E) (fault : Fault)
    → left ≡ device → end ≡ Ok (Refused fault) → Why fault device → (told : Fault) → end ≡ Ok (Refused told) → IfNone world (Why told left)
told_no_run Why (Some world) left device end fault same is why told tells = tt
told_no_run Why None left device end fault same is why told tells =
    subst (λ (d : Option _). Why told d) (sym same) (subst (λ (f : Fault). Why f device) (sym (ap fault_in is) ∙ ap fault_in tells) why)

-- what ended with an error, or with what was said, is not refused
pub error_is_no_refusal : {E P : Type 0} (end : Result End E) (error : E) (fault : Fault) → end ≡ Err error → end ≡ Ok (Refused fault) → P
error_is_no_refusal (Ok e) error fault is told = absurd (let a : Ok e ≡ Err error = is in cc)
error_is_no_refusal (Err e) error fault is told = absurd (let a : Err e ≡ Ok (Refused fault) = told in cc)

pub said_is_no_refusal : {E P : Type 0} (said end : Result End E) (fault : Fault) → end ≡ said → IfOk said (λ e. e ≡ AlreadyPrinted) → end ≡ Ok (Refused fault) → P
said_is_no_refusal (Ok e) end fault same is told = absurd (let a : Ok e ≡ Ok (Refused fault) = sym same ∙ told in let b : e ≡ AlreadyPrinted = is in cc)
said_is_no_refusal (Err e) end fault same is told = absurd (let a : Err e ≡ Ok (Refused fault) = sym same ∙ told in cc)

-- the device was made over a file that held these bytes, and is as long as it was: so what it was refused for
-- is of that file
pub world_not_opened : {D : Type 0} (d : DeviceGhosts D) (bytes : ℕ → List ℕ) (sized : (n : ℕ) → length (bytes n) ≡ n)
    (frames sessions n : ℕ) (before after : D) (fault : Fault)
    → d.trace before ≡ first (bytes n) → d.failures before ≡ 0 → length (d.trace after).now.seen ≡ length (d.trace before).now.seen
    → IsWorldRefusal (d.is_honest after) frames sessions (d.trace before) (d.trace after) (d.failures before) (d.failures after) fault
    → (IsTrue (d.is_honest after) → AreFrames frames → 1 ≤ sessions → sessions ≤ 64 → (format : Format) (pages : List Page)
    → HasIndex format pages (d.trace before).now.seen → IsTreeFor format pages → IsNoMemoryOrIo fault)
    → IsWorldNotOpened d bytes frames sessions fault after
world_not_opened d bytes sized frames sessions n before after fault held none len cause sound =
    let seen = ap (λ (t : Trace). t.now.seen) held in
    let same : bytes n ≡ bytes_before bytes (d.trace after) = ap bytes (sym (sized n) ∙ sym (ap length seen) ∙ sym len) in
    let is : d.trace before ≡ first (bytes_before bytes (d.trace after)) = held ∙ ap first same in
    record {
      cause = subst (λ (failed : ℕ). IsWorldRefusal (d.is_honest after) frames sessions (first (bytes_before bytes (d.trace after))) (d.trace after) failed (d.failures after) fault) none
          (subst (λ (t : Trace). IsWorldRefusal (d.is_honest after) frames sessions t (d.trace after) (d.failures before) (d.failures after) fault) is cause);
      sound = λ honest allowed some few format pages index tree.
          sound honest allowed some few format pages (subst (HasIndex format pages) (sym (ap (λ (t : Trace). t.now.seen) is)) index) tree;
    }

-- if the opening was refused, so was the run
pub opening_refused : {D T : Type 0} (d : DeviceGhosts D) (g : Ghosts (Store D d)) (rows : SetGhosts T) (bytes : ℕ → List ℕ) (frames workers : ℕ) (jobs : List Job) (sets : List T)
    (fault : Fault) (device : Option D) → IsWorldOpeningRefused d bytes frames workers fault device → IsRunOnFileRefused d g rows bytes frames workers jobs sets fault device
opening_refused d g rows bytes frames workers jobs sets fault None is = is
opening_refused d g rows bytes frames workers jobs sets fault (Some device) is = inl is

-- a run that was refused on the world that was opened
pub run_not_made : {D T : Type 0} (d : DeviceGhosts D) (g : Ghosts (Store D d)) (rows : SetGhosts T) (bytes : ℕ → List ℕ) (frames workers : ℕ) (jobs shown : List Job) (sets : List T)
    (before left : World (Store D d) T) (fault : Fault) (device : D) → shown ≡ jobs → IsWorldOfFile d g rows bytes frames workers sets before
    → left ≡ before → device ≡ device_of d left.store → RunIsRefusedFor fault before.calls.slots.items shown workers
    → IsRunOnFileRefused d g rows bytes frames workers jobs sets fault (Some device)
run_not_made d g rows bytes frames workers jobs shown sets before left fault device same opened back is cause = inr (record {
  before = before;
  opened = opened;
  device_is = is ∙ ap (λ (w : World _ _). device_of d w.store) back;
  cause = subst (λ (l : List Job). RunIsRefusedFor fault before.calls.slots.items l workers) same cause;
})
