-- The counts of a bulk delete and of a cleanup stay far from their end.
use Rattle.std.proofs.Common.{◌≡◌, ℕ, ◌<◌, ◌≤◌, ◌||◌, Bool, true, false, Option, Some, None, List, [], ◌∷◌, ◌++◌, length, drop, refl, sym, ap, subst, arith, inl, inr, ◌∙◌, unwrap_or}
use Rattle.std.proofs.Math.Seq.{drop-append_seam}
use Rattle.page_delete.specs.declared.steps.CleanupAt.{CleanupAt}
use Rattle.page_delete.specs.declared.steps.CleanupAt.TheVariants.{Look}
use Rattle.session_calls.specs.BulkDeletions.{OpDeletions}
use Rattle.whole_calls.proofs.Imports.{or_cases, ltb-true, eqb-true, AreLimits, Row, is_counted_out, is_full_count, entries_below, BulkDeleteOp, come_to, is_last_number, is_cleanup_full}
use Rattle.whole_calls.proofs.Imports.{CleanupOp, Bulk, Cleanup, Effect, Action, AskBulkDelete, Call, removed_by, Entry, Format, Ghosts, asked_of, noted, Op, Moment, IsRunningCall, Fits, slot_of}
use Rattle.whole_calls.proofs.Imports.{Laws, is_full_vacuum, HasReached, of_cleanup, IsCountedAs, IsCountedIn, removed_of, acts_by, noted_after}
use Rattle.whole_calls.proofs.Gone.{gone_runs, same_ask}
use Rattle.whole_calls.proofs.Removing.{remove_there, all_once, all_were, all_counted, removed_few, entries_few}
use Rattle.whole_calls.proofs.Tellings.{runs_in_slot, one_runs}

same_began : (call : Call) (count : ℕ) (xs : List Effect) → (noted_after call count xs).began ≡ call.began
same_began call count [] = refl
same_began call count (x ∷ xs) = same_began (noted call count (Some x)) _ xs

-- neither count is full
not_out : (op : BulkDeleteOp) → op.left ≤ 3276800 → op.removed ≤ 3276800 → is_counted_out op ≡ true → false ≡ true
not_out op left removed h = elim (or_cases (is_full_count op.left) (is_full_count op.removed) h) [
  | inl full ↦ absurd (let k = ltb-true 18446744073709551565 op.left full in omega (arith, k, left))
  | inr full ↦ absurd (let k = ltb-true 18446744073709551565 op.removed full in omega (arith, k, removed))
]

-- none of a cleanup's counts is
cleanup_not_full : (op : CleanupOp) → op.left ≤ 3276800 → op.cursor ≤ 65536 → op.deleted < op.cursor → is_cleanup_full op ≡ true → false ≡ true
cleanup_not_full op left cursor fewer h = elim (or_cases (is_full_count op.left) (is_last_number op.cursor || is_last_number op.deleted) h) [
  | inl full ↦ absurd (let k = ltb-true 18446744073709551565 op.left full in omega (arith, k, left))
  | inr ends ↦ elim (or_cases (is_last_number op.cursor) (is_last_number op.deleted) ends) [
    | inl last ↦ absurd (let k = eqb-true op.cursor 4294967295 last in omega (arith, k, cursor))
    | inr last ↦ absurd (let k = eqb-true op.deleted 4294967295 last in omega (arith, k, cursor, fewer))
  ]
]

-- the cursor is no further than the cleanup has come
cursor_low : (cursor : ℕ) (at : CleanupAt) → cursor ≤ come_to cursor at
cursor_low cursor Look = omega arith
cursor_low cursor at = omega arith

-- one that has just begun comes to no full count
module _ {S : Type 0} (g : Ghosts S) (laws : Laws g) (start : Entry → Bool) (session : ℕ) (first : Moment S) (fits : Fits g start first) (are : AreLimits (g.state first.store).format) where
  removed_low : (now : Moment S) (number : ℕ) (call : Call) (dead : Row → Bool) (effects : List Effect) → IsRunningCall now.calls session number call → call.ask ≡ AskBulkDelete dead
      → now.history ≡ first.history ++ acts_by number effects → Fits g start now → length (removed_of effects) ≤ 3276800
  removed_low now number call dead effects is asks history then_fits =
      let apt = remove_there start number now.calls call dead is.found asks first.history now.history effects history then_fits.explains.owned in
      let most = removed_few (g.state first.store).format (g.state first.store).pages (removed_of effects) are.items_to (laws.stored first.store) (all_once start number first.history effects apt)
      (λ e h. fits.explains.contents e ∙ all_were start number first.history effects apt e h) in
      let few = laws.few first.store in
      let low = are.pages_to in
      omega (arith, most, few, low)

  left_low : (now : Moment S) → (g.state now.store).format ≡ (g.state first.store).format → (n : ℕ) → entries_below (g.state now.store).pages n ≤ 3276800
  left_low now format n =
      let items : (g.state now.store).format.items ≤ 50 = subst (λ (l : Format). l.items ≤ 50) (sym format) are.items_to in
      let low : (g.state now.store).format.pages ≤ 65536 = subst (λ (l : Format). l.pages ≤ 65536) (sym format) are.pages_to in
      let most = entries_few (g.state now.store).format (g.state now.store).pages n items (laws.stored now.store) in
      let few = laws.few now.store in
      omega (arith, most, few, low)

  used_low : (now : Moment S) → (g.state now.store).format ≡ (g.state first.store).format → length (g.state now.store).pages ≤ 65536
  used_low now format =
      let low : (g.state now.store).format.pages ≤ 65536 = subst (λ (l : Format). l.pages ≤ 65536) (sym format) are.pages_to in
      let few = laws.few now.store in
      omega (arith, few, low)

  -- a bulk delete that has gone on to here has room to count more
  pub bulk_fills : (number : ℕ) (call : Call) (dead : Row → Bool) → IsRunningCall first.calls session number call → call.ask ≡ AskBulkDelete dead
      → call.began ≡ length first.history → (now : Moment S) → Fits g start now
      → HasReached g session first now → IsCountedIn first.sets (g.state now.store) (slot_of now.slots session) → is_full_vacuum (slot_of now.slots session) ≡ true → false ≡ true
  bulk_fills number call dead is asked began now then_fits to counted out =
      let far = to.far number call is in
      let effects = far.0 in
      let gone = far.1 in
      let then_call : Call = noted_after call (length first.history) effects in
      let runs = gone_runs number call effects first now now gone session is in
      let r = runs_in_slot g start now then_fits session number then_call runs in
      let one = one_runs g start now then_fits session number r.2.number then_call r.2.call runs r.2.is in
      let slot : slot_of now.slots session ≡ Some r.0 = ap (λ (o : Option (Option Op)). unwrap_or o None) r.1 in
      let then_asks : then_call.ask ≡ AskBulkDelete dead = same_ask call (length first.history) effects ∙ asked in
      let asks : asked_of now.sets r.0 ≡ AskBulkDelete dead = sym r.2.runs.ask ∙ ap (λ (k : Call). k.ask) one.1 ∙ then_asks in
      let then_began : r.2.call.began ≡ length first.history = ap (λ (k : Call). k.began) one.1 ∙ same_began call (length first.history) effects ∙ began in
      let low = removed_low now number then_call dead effects runs then_asks gone.history_is then_fits in
      let many : removed_by r.2.number (drop r.2.call.began now.history) ≡ length (removed_of effects) =
      ap (λ (n : ℕ). removed_by n (drop r.2.call.began now.history)) one.0 ∙ ap (λ (n : ℕ). removed_by number (drop n now.history)) then_began
      ∙ ap (λ (l : List Action). removed_by number (drop (length first.history) l)) gone.history_is
      ∙ ap (λ (l : List Action). removed_by number l) (drop-append_seam first.history (acts_by number effects)) ∙ all_counted start number effects in
      of r.0 r.2.number r.2.call.began asks r.2.deletions (subst (λ (o : Option Op). IsCountedIn first.sets (g.state now.store) o) slot counted)
      (length (removed_of effects)) many low to.format_is (subst (λ (o : Option Op). is_full_vacuum o ≡ true) slot out)
    where
      of : (op : Op) (n b : ℕ) → asked_of now.sets op ≡ AskBulkDelete dead → OpDeletions (g.state now.store) now.sets start now.history n b op → IsCountedIn first.sets (g.state now.store) (Some op)
          → (count : ℕ) → removed_by n (drop b now.history) ≡ count → count ≤ 3276800 → (g.state now.store).format ≡ (g.state first.store).format → is_full_vacuum (Some op) ≡ true → false ≡ true
      of (Bulk set op) n b asks deletions counts count many low format out =
          let left = left_low now format op.cursor in
          let is_left = counts.counted in
          let is_removed = deletions.1.removed in
          not_out op (omega (arith, left, is_left)) (omega (arith, low, many, is_removed)) out
      of op n b asks deletions counts count many low format out = absurd counts

  -- nor does a cleanup
  pub cleanup_fills : (now : Moment S) → HasReached g session first now
      → IsCountedAs of_cleanup first.sets (g.state now.store) (slot_of now.slots session) → is_full_vacuum (slot_of now.slots session) ≡ true → false ≡ true
  cleanup_fills now to counted out = of (slot_of now.slots session) counted (λ n. left_low now to.format_is n) (used_low now to.format_is) out
    where
      of : (slot : Option Op) → IsCountedAs of_cleanup first.sets (g.state now.store) slot
          → ((n : ℕ) → entries_below (g.state now.store).pages n ≤ 3276800) → length (g.state now.store).pages ≤ 65536 → is_full_vacuum slot ≡ true → false ≡ true
      of (Some (Cleanup op)) is_counted left used full =
          let few = left op.cursor in
          let is_left = is_counted.counted in
          let come = cursor_low op.cursor op.at in
          let within = is_counted.within in
          cleanup_not_full op (omega (arith, few, is_left)) (omega (arith, come, within, used)) is_counted.fewer full
      of slot is_counted left used full = absurd is_counted
