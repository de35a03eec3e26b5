-- An array made by calls that all give the same.
use Rattle.std.proofs.Common.{◌≡◌, ℕ, suc, ◌<◌, List, [], ◌∷◌, length, get_or, replicate, refl, arith}
use Rattle.std.specs.Array.{IsFromFnResult}
use Rattle.std.specs.Fn.{Called}
use denote.Param.Members.{Mut}

pub replicate-length : {X : Type 0} (xs : List X) (x : X) → ((i : ℕ) → i < length xs → get_or xs i x ≡ x) → xs ≡ replicate (length xs) x
replicate-length [] x same = refl
replicate-length (y ∷ ys) x same =
    let first : y ≡ x = same 0 (omega arith) in
    let rest : ys ≡ replicate (length ys) x = replicate-length ys x (λ i below. same (suc i) (omega arith)) in
    cc

pub made_same : {F B : Type 0} (g : Mut F (ℕ × Unit {0}) B) (f : F) (ys : List B) (n : ℕ) (x : B)
    → IsFromFnResult g f ys n → ((p : F) (i : ℕ) (y : B) (q : F) → Called g p (i, tt) y q → y ≡ x) → ys ≡ replicate n x
made_same g f ys n x made gives =
    let long : length ys ≡ n = made.long in
    let each : (i : ℕ) → i < length ys → get_or ys i x ≡ x = λ i below. let call = made.at i x (omega arith) in gives call.0 i (get_or ys i x) call.1 call.2 in
    rw long at (replicate-length ys x each)
