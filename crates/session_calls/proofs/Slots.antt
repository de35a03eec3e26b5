-- Slots as they are found and read.
use Rattle.std.proofs.Common.{◌≡◌, ℕ, zero, suc, ◌<◌, Bool, true, false, Option, Some, None, Ok, List, [], ◌∷◌, length, slice_get, refl, sym, arith}
use Rattle.session_calls.proofs.Imports.{if◌then◌else◌, session_to_begin, slot_has_call, Op}

-- a slot that is found is one of them
pub read_within : (slots : List (Option Op)) (session : ℕ) (x : Option Op) → slice_get slots session ≡ Some x → session < length slots
read_within [] session x h = absurd cc
read_within (y ∷ ys) zero x h = omega arith
read_within (y ∷ ys) (suc n) x h = (let k = read_within ys n x h in omega arith)

-- a slot with a call runs an operation
pub op_at : (o : Option (Option Op)) (before : Option Op) → slot_has_call o ≡ true → o ≡ Some before → (op : Op) × (before ≡ Some op)
op_at None before has is = absurd cc
op_at (Some None) before has is = absurd cc
op_at (Some (Some op)) before has is = (op, cc)

-- the session that was found
pub found : (is_stopped has_set : Bool) (o : Option (Option Op)) (session known : ℕ) → Ok known ≡ session_to_begin is_stopped has_set o session
    → (is_stopped ≡ false) × (has_set ≡ true) × (o ≡ Some None) × (known ≡ session)
found true has_set o session known h = absurd cc
found false has_set None session known h = absurd cc
found false false (Some slot) session known h = absurd cc
found false true (Some None) session known h = (refl, refl, refl, cc)
found false true (Some (Some op)) session known h = absurd cc

-- a slot whose call counts has what is in it
pub shown : (running : Bool) (inside before : Option Op) → (if running then inside else None) ≡ before → running ≡ true → before ≡ inside
shown true inside before view is = sym view
shown false inside before view is = absurd cc
