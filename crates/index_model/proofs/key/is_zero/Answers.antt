use Rattle.std.proofs.Common.{◌≡◌, ◌∙◌, sym, length, take, replicate, ℕ}
use Rattle.std.proofs.lemmas.List.{take-replicate}
use Rattle.std.proofs.lemmas.Slice.Eq.{slice_eq-Decides}
use Rattle.std.proofs.lemmas.Bool.Decides.{Decides-eqb}
use Rattle.index_model.proofs.key.is_zero.Goals as goal

pub returns : goal.returns
returns c =
    let n = length c.args.bytes.now in
    let zeros : take n (replicate {A = ℕ} 64 0) ≡ replicate n 0 = take-replicate n 64 0 c.requires in
    let test = slice_eq-Decides Decides-eqb _ _ _ c.eq.ensures in
    (λ yes. test.0 yes ∙ zeros, λ same. test.1 (same ∙ sym zeros))
