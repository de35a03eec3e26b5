-- What may be used again after a bulk delete or a cleanup that has finished.
use Rattle.std.proofs.Common.{◌≡◌, ℕ, zero, suc, ◌+◌, ◌<◌, ◌&&◌, ◌||◌, ◌==◌, Bool, true, false, if◌then◌else◌, Option, Some, None, List, [], ◌∷◌, length, slice_set, refl, sym, ap, subst, inl, inr, ◌∙◌, arith}
use Rattle.page_action.specs.Reuse.{is_deleted, began_after, others_began_after, is_reusable, is_reusable_without}
use Rattle.session_calls.proofs.Imports.{slice_index, eq-eqb, eqb_tells, Effect, Action, Call, Circumstances, Entry, VacuumStats, State, with_table, Page, HasEffect, free_count, DeadSets}
use Rattle.session_calls.proofs.Imports.{session_of, is_last, let_go, reusable_count, reusable_in, CountsStats, CountsFree, OpEvent, Answer, Finished, Op, Bulk, Cleanup}
use Rattle.session_calls.proofs.Effects.{go_pages}

differ : (a b : ℕ) → (a ≡ b → ⊥) → (a == b) ≡ false
differ a b ne = elim (eqb_tells a b) [ inl k ↦ absurd (ne k.1) | inr k ↦ k.0 ]

-- of the sessions after this one none is it
others_past : (number from but : ℕ) (running : List (Option ℕ)) → but < from → others_began_after number from (Some but) running ≡ others_began_after number from None running
others_past number from but [] past = refl
others_past number from but (call ∷ running) past =
    ap (λ (is : Bool). (is || began_after number call) && others_began_after number (suc from) (Some but) running) (differ from but (λ e. omega (arith, past, e)))
    ∙ ap (λ (rest : Bool). began_after number call && rest) (others_past number (suc from) but running (omega (arith, past)))

-- a session that isn't asked is one without a start number
others_but : (number from session but : ℕ) (running : List (Option ℕ)) → but ≡ from + session
    → others_began_after number from (Some but) running ≡ others_began_after number from None (slice_set running session None)
others_but number from session but [] is = refl
others_but number from zero but (call ∷ running) is =
    ap (λ (own : Bool). (own || began_after number call) && others_began_after number (suc from) (Some but) running) (eq-eqb from but (omega (arith, is)))
    ∙ others_past number (suc from) but running (omega (arith, is))
others_but number from (suc session) but (call ∷ running) is =
    ap (λ (own : Bool). (own || began_after number call) && others_began_after number (suc from) (Some but) running) (differ from but (λ e. omega (arith, is, e)))
    ∙ ap (λ (rest : Bool). began_after number call && rest) (others_but number (suc from) session but running (omega (arith, is)))

module _ (session : ℕ) (old new : State) (pages : new.pages ≡ old.pages) (counted : new.counted ≡ old.counted) (running : new.running ≡ slice_set old.running session None) where
  free_one : (block : ℕ) → (is_deleted old.pages block && is_reusable_without old session block) ≡ is_reusable new block
  free_one block =
      ap (λ (b : Bool). is_deleted old.pages block && b) (others_but (slice_index old.counted block) 0 session session old.running (omega arith))
      ∙ sym (ap (λ (l : List Page). is_deleted l block && others_began_after (slice_index new.counted block) 0 None new.running) pages
      ∙ (ap (λ (l : List ℕ). is_deleted old.pages block && others_began_after (slice_index l block) 0 None new.running) counted
      ∙ ap (λ (l : List (Option ℕ)). is_deleted old.pages block && others_began_after (slice_index old.counted block) 0 None l) running))

  free_many : (n : ℕ) → free_count old session n ≡ reusable_count new n
  free_many zero = refl
  free_many (suc block) =
      ap (λ (b : Bool). (if b then 1 else 0) + free_count old session block) (free_one block) ∙ ap (λ (k : ℕ). (if is_reusable new block then 1 else 0) + k) (free_many block)

  -- what would be free, were the call not running, is so after it
  free_all : free_count old session (length old.pages) ≡ reusable_in new
  free_all = free_many (length old.pages) ∙ ap (λ (l : List Page). reusable_count new (length l)) (sym pages)

pub go_counted : (v : Bool) (session : ℕ) (st : State) → (let_go v session st).counted ≡ st.counted
go_counted true session st = refl
go_counted false session st = refl

pub go_running : (v : Bool) (session : ℕ) (st : State) → (let_go v session st).running ≡ slice_set st.running session None
go_running true session st = refl
go_running false session st = refl

-- a step that finishes has no effect, and then the call is over
module _ {at : Circumstances} {sets : DeadSets} {start : Entry → Bool} {history : List Action} {number : ℕ} {call : Call} (v : Bool) (session : ℕ)
    (old mid new : State) (after : Op) (new_is : new ≡ let_go v session mid) where
  told_free : (stats : VacuumStats) (own : ℕ) → session ≡ own → stats.pages_free ≡ free_count old own (length old.pages)
      → OpEvent at old mid sets start history number call after (Finished stats) → stats.pages_free ≡ reusable_in new
  told_free stats own is told goes =
      let quiet : mid ≡ with_table old mid.table = subst (λ (effect : Option Effect). HasEffect effect old mid) goes.told.none goes.works.changes in
      told ∙ free_all own old new
      (ap (λ (st : State). st.pages) new_is ∙ (go_pages v session mid ∙ ap (λ (st : State). st.pages) quiet))
      (ap (λ (st : State). st.counted) new_is ∙ (go_counted v session mid ∙ ap (λ (st : State). st.counted) quiet))
      (ap (λ (st : State). st.running) new_is ∙ (go_running v session mid
      ∙ (ap (λ (st : State). slice_set st.running session None) quiet ∙ ap (λ (s : ℕ). slice_set old.running s None) is)))

  pub frees_over : (before : Op) (answer : Answer) → session ≡ session_of before → CountsStats old (Some before) answer
      → OpEvent at old mid sets start history number call after answer → CountsFree new (Some before) answer
  frees_over (Bulk set op) (Finished stats) own told goes = told_free stats op.session own (ap (λ (s : VacuumStats). s.pages_free) told) goes
  frees_over (Cleanup op) (Finished stats) own told goes = told_free stats op.session own (ap (λ (s : VacuumStats). s.pages_free) told) goes
  frees_over before answer own told goes = tt

-- one that goes on tells nothing of it
pub tells_no_more : (st : State) (before : Option Op) (answer : Answer) → is_last answer ≡ false → CountsFree st before answer
tells_no_more st (Some (Bulk set op)) (Finished stats) more = absurd cc
tells_no_more st (Some (Cleanup op)) (Finished stats) more = absurd cc
tells_no_more st before answer more = tt
