-- How a session ends: what its closing answered.
use Rattle.std.proofs.Common.{subst}
use Rattle.access_method.specs.Files.{IsAtRest, IsLastOver, StaysOnDevice}
use Rattle.ledger_lines.specs.Opening.{OpensAs}
use Rattle.ledger_lines.specs.declared.index_file.Opened.{Opened}
use Rattle.ledger_lines.specs.declared.index_file.Opened.TheVariants.{Found, Made}
use Rattle.ledger_lines.proofs.Imports.{◌≡◌, ℕ, Result, Ok, Err, IfOk, OnErr, OnOk, Index, DeviceGhosts, Fault, Ghosts, state_of, Store, IsClosed}

-- a closing that answered how many actions there were left all of them on the disk
pub closed_on : {D : Type 0} (d : DeviceGhosts D) (g : Ghosts (Store D d)) (last : Index (Store D d)) (device : D) (written : Result ℕ Fault)
    → IfOk written (λ n. n ≡ (state_of d last.store).acts) → IfOk written (λ n. StaysOnDevice d g n last device)
    → OnOk written (IsLastOver d g last device (IsAtRest g (state_of d last.store).format)) → OnOk written (IsClosed d g last device)
closed_on d g last device (Ok n) number stands empties = record {
  stands = subst (λ (m : ℕ). StaysOnDevice d g m last device) number stands;
  empties = empties;
}
closed_on d g last device (Err fault) number stands empties = tt

-- what holds of any answer holds of a refusal
pub on_err : {X E P : Type 0} (r : Result X E) → P → OnErr r P
on_err (Ok x) p = tt
on_err (Err e) p = p

-- what was opened begins as it was told
pub begins_found : {I N : Type 0} (A : I → Type 0) (B : N → Type 0) (o : Opened I N) (index : I) → OpensAs A B o → o ≡ Found index → A index
begins_found A B o index begins is = subst (OpensAs A B) is begins

pub begins_made : {I N : Type 0} (A : I → Type 0) (B : N → Type 0) (o : Opened I N) (index : N) → OpensAs A B o → o ≡ Made index → B index
begins_made A B o index begins is = subst (OpensAs A B) is begins
