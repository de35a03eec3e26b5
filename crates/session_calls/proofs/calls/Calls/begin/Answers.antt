use Rattle.std.proofs.Common.{rules, ◌≡◌, ◌&&◌, ℕ, Bool, Some, None, Option, List, slice_get, sym, ap, subst, ◌∙◌}
use Rattle.session_calls.proofs.Imports.{slice_get-get_or, asks_vacuum, BeginsBy, one_vacuums, Op}
use Rattle.session_calls.proofs.Slots.{found, read_within}
use Rattle.session_calls.proofs.calls.Calls.begin.Goals as goal

pub returns-in-Ok-clause-changes : goal.returns-in-Ok-clause-changes
returns-in-Ok-clause-changes g c begins =
    let slots = c.args.self.now.slots.items in
    let session = c.args.session in
    let request = c.args.request in
    let at = found _ _ _ session c.in-Ok.known (sym c.in-Ok.is ∙ c.find.ensures) in
    let free : slice_get slots session ≡ Some None = ap (λ (l : List (Option Op)). slice_get l session) (sym c.deref.ensures.value) ∙ at.2 in
    let excluded : c.is_excluded-excluded.result ≡ (asks_vacuum request && one_vacuums slots) =
    c.is_excluded-excluded.ensures ∙ ap (λ (l : List (Option Op)). asks_vacuum request && one_vacuums l) c.deref-in-Ok.ensures.value in
    let By : ℕ → Bool → Type 0 = λ known alone.
    BeginsBy (g.S.PageStore.state c.args.store.now) (g.S.PageStore.backing c.args.store.now) (g.S.PageStore.state c.begin.new.store) known request
    alone c.index_mut.result.now c.begin.new.slot c.begin.result in
    record {
      before = c.index_mut.result.now;
      after = c.begin.new.slot;
      found = slice_get-get_or slots session c.index_mut.result.now (read_within slots session None free) ∙ ap (λ (o : Option Op). Some o) (sym c.index_mut.ensures.value);
      is = search rules;
      how = record {
        backing = c.begin.ensures.backing;
        by = subst (λ (n : ℕ). By n (asks_vacuum request && one_vacuums slots)) at.3 (subst (λ (b : Bool). By c.in-Ok.known b) excluded c.begin.ensures.by);
        begins = λ begun sets start history number matches idle. rw at.3 at (c.begin.ensures.begins begun sets start history number matches (rw at.3 idle));
        counts = c.begin.ensures.counts;
      };
    }
