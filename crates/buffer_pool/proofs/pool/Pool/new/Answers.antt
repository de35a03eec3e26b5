use Rattle.std.proofs.Common.{List, ℕ, [], refl, sym, subst, arith}
use Rattle.buffer_pool.proofs.Imports.{Page, blocks_in, AreChanged}
use Rattle.buffer_pool.proofs.pool.Pool.new.Goals as goal

-- if nothing is held, nothing is changed
none_changed : AreChanged [] [] []
none_changed = record { told = λ block. refl; apart = λ i j d less within. absurd (omega (arith, within)); counted = refl }

pub invariant_of-result-clause-ordered : goal.invariant_of-result-clause-ordered
invariant_of-result-clause-ordered c =
    subst (λ (xs : List ℕ). AreChanged xs (blocks_in c.in-Ok.held.items) c.in-Ok-with_capacity.acts.items) (sym c.in_ok-changed.ensures.none)
    (subst (λ (pages : List Page). AreChanged [] (blocks_in pages) c.in-Ok-with_capacity.acts.items) (sym c.in-Ok.ensures.items)
    (subst (λ (acts : List ℕ). AreChanged [] [] acts) (sym c.in-Ok-with_capacity.ensures.items) none_changed))
