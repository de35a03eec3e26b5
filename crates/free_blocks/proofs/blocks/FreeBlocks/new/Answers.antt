use Rattle.std.proofs.Common.{◌≡◌, ℕ, ◌+◌, ◌-◌, ◌++◌, zero, suc, List, [], ◌∷◌, Option, None, drop, take, replicate, refl, ap, ◌∙◌, arith}
use Rattle.std.proofs.lemmas.List.{drop-replicate}
use Rattle.free_blocks.proofs.blocks.FreeBlocks.new.Goals as goal

-- a list that was empty and is filled up
filled : (n long : ℕ) (old : List (Option ℕ)) → old ≡ [] → long ≡ 0 → take n old ++ replicate (n - long) None ≡ replicate n None
filled n long old none zero_long =
    let all : n - long ≡ n = omega arith in
    ap (λ (xs : List (Option ℕ)). xs ++ replicate (n - long) None) (empty n old none) ∙ ap (λ (k : ℕ). replicate k None) all
  where
    empty : (n : ℕ) (old : List (Option ℕ)) → old ≡ [] → take n old ≡ []
    empty zero old none = refl
    empty (suc n) [] none = refl
    empty (suc n) (x ∷ old) none = absurd cc

pub returns : goal.returns
returns c =
    let size = c.new-shape.result.size in
    let n = size + c.args.places in
    let rest : n - size ≡ c.args.places = omega arith in
    record {
      made = ap (drop size) (c.in_ok-resize.ensures.items ∙ filled n _ c.new-tree.result.items c.new-tree.ensures.items c.new-tree.ensures.len)
          ∙ drop-replicate size n None ∙ ap (λ (k : ℕ). replicate k None) rest;
    }
