-- What a bulk delete is to remove is to come still, over histories.
use Rattle.std.proofs.Common.{◌≡◌, ◌≢◌, inl, inr, ℕ, ◌+◌, ◌≤◌, ◌==◌, Bool, true, false, Option, Some, None, List, [], ◌∷◌, ◌++◌, length, drop, refl, sym, ap, subst, ◌∙◌, arith}
use Rattle.std.proofs.lemmas.Bool.{false_from_ne_true}
use Rattle.session_calls.proofs.Imports.{eqb_tells, drop-append-le, Effect, Add, Remove, Shape, Action, removed_by, IsAddedIn, Row, Entry, same_entry-is, there_before, State, LeafPagesStay}
use Rattle.session_calls.proofs.Imports.{IsAddedBy, due_undisturbed, BulkDeleteOp, set_at, acts_of, runs_bulk_delete, IsDue, IsBulkDeleteSoFar, DeletionsAreUndisturbed, Insert, Scan, Bulk}
use Rattle.session_calls.proofs.Imports.{Cleanup}

added_before : (l m : List Action) (e : Entry) → IsAddedIn l e → IsAddedIn (l ++ m) e
added_before [] m e h = absurd h
added_before (a ∷ l) m e (inl is) = inl is
added_before (a ∷ l) m e (inr h) = inr (added_before l m e h)

added_after : (l m : List Action) (e : Entry) → IsAddedIn m e → IsAddedIn (l ++ m) e
added_after [] m e h = h
added_after (a ∷ l) m e h = inr (added_after l m e h)

-- an entry that an effect adds is added by its action
added_by : (number : ℕ) (effect : Option Effect) (e : Entry) → IsAddedBy effect e → IsAddedIn (acts_of number effect) e
added_by number None e h = absurd h
added_by number (Some (Add x)) e h = inl (ap Add (same_entry-is x e h))
added_by number (Some (Remove es)) e h = absurd h
added_by number (Some Shape) e h = absurd h

module _ (dead : Row → Bool) (start : Entry → Bool) (history : List Action) (number began : ℕ) (effect : Option Effect) (within : began ≤ length history) where
  abbrev acts : List Action
  acts = acts_of number effect

  pub longer_by : drop began (history ++ acts) ≡ drop began history ++ acts
  longer_by = drop-append-le began history acts within

  -- what is due after an action was due before it
  pub due_before : (e : Entry) → IsDue dead start (history ++ acts) began e → IsDue dead start history began e
  due_before e h = record {
    row = h.row;
    was_there = sym (there_before start history acts began e within) ∙ h.was_there;
    not_added = λ a. h.not_added (subst (λ (l : List Action). IsAddedIn l e) (sym longer_by) (added_before (drop began history) acts e a));
  }

  -- ... and isn't added by it
  pub due_not_added : (e : Entry) → IsDue dead start (history ++ acts) began e → IsAddedBy effect e → ⊥
  due_not_added e h a = h.not_added (subst (λ (l : List Action). IsAddedIn l e) (sym longer_by) (added_after (drop began history) acts e (added_by number effect e a)))

pub removed_append : (number : ℕ) (l m : List Action) → removed_by number (l ++ m) ≡ removed_by number l + removed_by number m
removed_append number [] m = omega arith
removed_append number (a ∷ l) m = (let rest = removed_append number l m in omega (arith, rest))

other_number : (a b : ℕ) → a ≢ b → (a == b) ≡ false
other_number a b h = elim (eqb_tells a b) [ inl same ↦ absurd (h same.1) | inr differ ↦ differ.0 ]

others_remove : (number other : ℕ) (effect : Option Effect) → other ≢ number → removed_by number (acts_of other effect) ≡ 0
others_remove number other None h = refl
others_remove number other (Some effect) h = rw (other_number other number h) refl

module _ (old new : State) (dead : Row → Bool) (start : Entry → Bool) (history : List Action) (number other began : ℕ) (effect : Option Effect) (op : BulkDeleteOp) (stay : LeafPagesStay effect old new)
    (differ : other ≢ number) (within : began ≤ length history) (h : IsBulkDeleteSoFar old dead start history number began op) where
  sweep_still : IsBulkDeleteSoFar new dead start (history ++ acts_of other effect) number began op
  sweep_still = record {
    runs = ap (λ (c : ℕ). runs_bulk_delete (record old { cycle = c })) stay.cycle ∙ h.runs;
    to_come = λ due are. due_undisturbed due effect old new op.cursor op.backtrack stay
        (λ e added. false_from_ne_true (due e) (λ is. due_not_added dead start history other began effect within e (are e is) added))
        (h.to_come due (λ e is. due_before dead start history other began effect within e (are e is)));
    removed = h.removed ∙ (
        let more = ap (removed_by number) (longer_by dead start history other began effect within) in
        let sum = removed_append number (drop began history) (acts_of other effect) in
        let none = others_remove number other effect differ in
        omega (arith, more, sum, none)
        );
  }

pub deletions_undisturbed : DeletionsAreUndisturbed
deletions_undisturbed old new sets start history number other began effect (Insert op) stay differ within h = tt
deletions_undisturbed old new sets start history number other began effect (Scan op) stay differ within h = tt
deletions_undisturbed old new sets start history number other began effect (Cleanup op) stay differ within h = tt
deletions_undisturbed old new sets start history number other began effect (Bulk set op) stay differ within h =
    (h.0, sweep_still old new (set_at sets set) start history number other began effect op stay differ within h.1)
