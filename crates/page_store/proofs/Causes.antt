-- Why a store over a device refuses.
use Rattle.std.proofs.Common.{◌≡◌, ◌⊎◌, inl, inr, ℕ, suc, ◌<◌, ◌≤◌, ◌^◌, ◌-◌, Bool, true, false, List, [], ◌∷◌, ◌++◌, map, length, refl, sym, ap, subst, ◌∙◌, arith}
use Rattle.index_model.specs.Faults.{HasCause}
use Rattle.buffer_pool.specs.Pools.{most_of}
use Rattle.page_action.specs.Causes as causes
use Rattle.page_action.specs.Causes.{causes_of_read, causes_of_acted, are_frames_pinned, is_at_end}
use Rattle.page_store.proofs.Imports.{lt-ltb, le-leb, eq-eqb, ◌||◌, ◌==◌, if◌then◌else◌, Fault, Io, Stopped, NoFrame, LogFull, PageDamaged, has_pin, pinned_blocks, count_distinct, has_block, Pool}
use Rattle.page_store.proofs.Imports.{Page, State, Backing, TakingFails, FetchFails}

has_pin-is : (blocks : List ℕ) (b : ℕ) → has_block blocks b ≡ has_pin blocks b
has_pin-is [] b = refl
has_pin-is (x ∷ blocks) b = ap (λ (rest : Bool). (x == b) || rest) (has_pin-is blocks b)

-- how many blocks are apart is one word of pools and of stores
counts_alike : (blocks : List ℕ) → count_distinct blocks ≡ causes.count_apart blocks
counts_alike [] = refl
counts_alike (b ∷ blocks) =
    ap (λ (t : Bool). if t then count_distinct blocks else suc (count_distinct blocks)) (has_pin-is blocks b)
    ∙ ap (λ (n : ℕ). if has_pin blocks b then n else suc n) (counts_alike blocks)

frames_are : (st : State) (pool : Pool) (blocks : List ℕ) → st.frames ≡ most_of pool → most_of pool < count_distinct (blocks ++ pinned_blocks st.table) → are_frames_pinned st blocks ≡ true
frames_are st pool blocks frames many = lt-ltb st.frames _ (omega (arith, counts_alike (blocks ++ pinned_blocks st.table)))

-- a page isn't brought into memory
module _ (st : State) (old new : Backing) (pool : Pool) (block : ℕ) (e : Fault) (frames : st.frames ≡ most_of pool) where
  of_fault : (f : Fault) → e ≡ f → HasCause (causes_of_read st old new block) f → HasCause (causes_of_read st old new block) e
  of_fault f is cause = subst (HasCause (causes_of_read st old new block)) (sym is) cause

  pub fetch_cause : FetchFails pool (pinned_blocks st.table) old.stopped old.failures new.failures block new.honest e → HasCause (causes_of_read st old new block) e
  fetch_cause (inl (inl none)) = of_fault NoFrame none.0 (frames_are st pool (block ∷ []) frames none.1)
  fetch_cause (inl (inr (inl io))) = of_fault Io io.0 (lt-ltb old.failures new.failures io.1)
  fetch_cause (inl (inr (inr stops))) = of_fault Stopped stops.0 stops.1
  fetch_cause (inr damaged) = of_fault (PageDamaged block) damaged.0 (rw (eq-eqb block block refl) (rw damaged.1 refl))

-- no frame is taken for an act
module _ (st : State) (old new : Backing) (pool : Pool) (pages : List Page) (e : Fault) (frames : st.frames ≡ most_of pool) where
  pub taking_cause : TakingFails pool (map (λ page. page.block) pages ++ pinned_blocks st.table) old.stopped old.failures new.failures e → HasCause (causes_of_acted st old new pages) e
  taking_cause (inl none) = subst (HasCause (causes_of_acted st old new pages)) (sym none.0) (frames_are st pool (map (λ page. page.block) pages) frames none.1)
  taking_cause (inr (inl io)) = subst (HasCause (causes_of_acted st old new pages)) (sym io.0) (lt-ltb old.failures new.failures io.1)
  taking_cause (inr (inr stops)) = subst (HasCause (causes_of_acted st old new pages)) (sym stops.0) (rw stops.1 refl)

-- ... and none is done
module _ (st : State) (old mid new : Backing) (pages : List Page) (e : Fault) where
  pub acting_cause : (stopped : Bool) (acts room : ℕ) → st.acts ≡ acts → old.promised ≤ suc room → (stopped ≡ true → old.stopped ≡ true)
      → ((e ≡ Stopped) × ((stopped ≡ true) ⊎ (acts ≡ 2 ^ 64 - 1))) ⊎ ((e ≡ LogFull) × (room < length pages)) → HasCause (causes_of_acted st old new pages) e
  acting_cause stopped acts room same promised was (inl (is, inl stops)) = subst (HasCause (causes_of_acted st old new pages)) (sym is) (rw (was stops) refl)
  acting_cause stopped acts room same promised was (inl (is, inr end)) = subst (HasCause (causes_of_acted st old new pages)) (sym is) (at_end old.stopped)
    where
      at_end : (b : Bool) → (b || is_at_end st.acts) ≡ true
      at_end true = refl
      at_end false = eq-eqb st.acts 18446744073709551615 (same ∙ end)
  acting_cause stopped acts room same promised was (inr full) = subst (HasCause (causes_of_acted st old new pages)) (sym full.0) (le-leb old.promised (length pages) (omega (arith, full.1)))
