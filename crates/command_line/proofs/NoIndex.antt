-- Why no index was made for a script.
use Rattle.std.specs.Prelude.{length, IfErr, IsErrAnd}
use Rattle.std.proofs.Common.{◌≡◌, ℕ, arith, inl, inr, subst, sym}
use Rattle.device.specs.Disk.{Trace}
use Rattle.index_model.specs.Formats.{made}
use Rattle.page_codec.specs.Places.{needed_length}
use Rattle.recovery.specs.Fresh.{CreateEnds}
use Rattle.command_line.specs.Settings.{IsInRange, IsNotMade}
use Rattle.command_line.proofs.Imports.{Err, Fault, Ok, Result, Setting}

-- on a device that is long enough only a call of it can fail
pub not_created : (T : Type 0) (setting : Setting) (old new : Trace) (failed fails : ℕ) (fault : Fault) → IsInRange setting
    → length old.now.seen ≡ needed_length (made setting.limits) → CreateEnds {T = T} (made setting.limits) (Err fault) old new failed fails → IsNotMade setting fault
not_created T setting old new failed fails fault allowed long (inl (is, out, same, none)) = absurd (out allowed.limits)
not_created T setting old new failed fails fault allowed long (inr (inl (is, valid, short, same, none))) = absurd (omega (arith, long, short))
not_created T setting old new failed fails fault allowed long (inr (inr io)) = inr (inr io.0)

-- what holds of a fault holds of what is refused with it
pub refused_so : {T : Type 0} (r : Result T Fault) (fault : Fault) (P : Fault → Type 0) → IsErrAnd r (λ f. f ≡ fault) → P fault → IfErr r P
refused_so (Ok x) fault P is p = tt
refused_so (Err f) fault P is p = subst P (sym is) p
