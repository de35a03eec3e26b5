-- An act and what was kept before it.
use Rattle.std.proofs.Common.{◌≡◌, inl, inr, true, false, refl, sym, ◌∙◌, ℕ, ◌<◌, ◌≤◌, List, [], ◌∷◌, arith}
use Rattle.page_store.proofs.Imports.{Bool, Result, Ok, Err, is_err, Fault, Stopped, CountsFailures, IoOrStopped, Format, Page, AreActable}
use Rattle.redo_log.specs.Groups.{AreImages}

-- the pages of an act are images
pub are_images : (format : Format) (used : ℕ) (changed : List Page) → AreActable format used changed → AreImages format changed
are_images format used [] h = tt
are_images format used (page ∷ changed) h =
    (record { page = h.0.storable.admitted; within = record { block = h.1.1; items = h.0.storable.few; layout = h.0.storable.layout } }, are_images format used changed h.3)

-- failures don't go back
pub failures_rise : {T : Type 0} (r : Result T Fault) (stopped : Bool) (old new : ℕ) → IoOrStopped r stopped old new → old ≤ new
failures_rise (Ok x) stopped old new same = omega arith
failures_rise (Err e) stopped old new (inl io) = omega (arith, io.1)
failures_rise (Err e) stopped old new (inr other) = omega (arith, other.2)

pub counts_rise : {T : Type 0} (r : Result T Fault) (old new : ℕ) → CountsFailures r old new → old ≤ new
counts_rise (Ok x) old new same = omega arith
counts_rise (Err e) old new io = omega (arith, io.1)

-- who stops has a failure as its cause
pub stop_fails : {T : Type 0} (r : Result T Fault) (was : Bool) (old new : ℕ) → IoOrStopped r was old new → was ≡ false → is_err r ≡ true → old < new
stop_fails (Ok x) was old new same alive err = absurd cc
stop_fails (Err e) was old new (inl io) alive err = omega (arith, io.1)
stop_fails (Err e) was old new (inr other) alive err = (let both : true ≡ false = sym other.1 ∙ alive in absurd cc)

-- what answers isn't stopped
pub alive_of : {T : Type 0} (r : Result T Fault) (stopped : Bool) (x : T) → r ≡ Ok x → (stopped ≡ true → r ≡ Err Stopped) → stopped ≡ false
alive_of r true x ok refuses = (let both : Ok x ≡ Err Stopped = sym ok ∙ refuses refl in absurd cc)
alive_of r false x ok refuses = refl
