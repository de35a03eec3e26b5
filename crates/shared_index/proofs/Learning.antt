-- What answers tell of their sessions' calls.
use Rattle.std.proofs.Common.{◌≡◌, ◌++◌, ◌∷◌, [], ℕ, List, length, length-append, arith}
use Rattle.session_seats.specs.declared.call.CompletedCall.{CompletedCall}
use Rattle.shared_index.specs.Told.{HaveLearnt}
use Rattle.shared_index.proofs.Rows.{both_snoc, some_snoc}

module _ {O : Type 0} (learnt : O → List (ℕ × CompletedCall) → Type 0) where
  pub learnt_none : HaveLearnt learnt [] []
  learnt_none = record { long = omega arith; numbers = λ k. tt; each = λ k. tt }

  pub learnt_snoc : (outs : List O) (told : List (ℕ × List (ℕ × CompletedCall))) (out : O) (t : ℕ × List (ℕ × CompletedCall)) → HaveLearnt learnt outs told → t.0 ≡ length told → learnt out t.1
      → HaveLearnt learnt (outs ++ out ∷ []) (told ++ t ∷ [])
  learnt_snoc outs told out t have number is = record {
    long = omega (arith, length-append told (t ∷ []), length-append outs (out ∷ []), have.long);
    numbers = some_snoc (λ k t. t.0 ≡ k) told t have.numbers number;
    each = both_snoc (λ t out. learnt out t.1) told outs t out have.long have.each is;
  }
