-- What an answer says of the disk, once the index is closed.
use Rattle.std.specs.Prelude.{Result, Ok, Err, IfOk, OnOk}

-- what follows from two facts about what was answered
pub both_told : {T E : Type 0} (r : Result T E) (P : T → Type 0) (Q : Type 0) (R : T → Type 0) → ((x : T) → P x → Q → R x) → IfOk r P → OnOk r Q → IfOk r R
both_told (Ok x) P Q R f p q = f x p q
both_told (Err e) P Q R f p q = tt

-- ... of two things that are so of a success
pub both_ok : {T E : Type 0} (r : Result T E) {P Q R : Type 0} → (P → Q → R) → OnOk r P → OnOk r Q → OnOk r R
both_ok (Ok x) f p q = f p q
both_ok (Err e) f p q = tt
