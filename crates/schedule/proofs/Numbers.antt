-- The page numbers that running calls keep lead on to their pages.
use Rattle.std.proofs.Common.{◌≡◌, ℕ, zero, suc, ◌<◌, ◌≤◌, Bool, true, false, Option, Some, None, List, [], ◌∷◌, ◌++◌, map, length, slice_get, slice_index, refl, sym, ap, subst, inl, inr, ◌∙◌, arith}
use Rattle.std.proofs.lemmas.Option.{slice_get_past}
use Rattle.tree_shape.proofs.Runs.{run_back, split_at}
use Rattle.tree_shape.proofs.Shown.{places_lead_on}
use Rattle.tree_acts.specs.Trees.{IsStart, HasTree, LeadsTo, HasTrail}
use Rattle.tree_acts.proofs.Lasting.{fresh_free, fresh_reusable}
use Rattle.tree_acts.proofs.Words.{place_in, trail_in}
use Rattle.split_finish.specs.declared.finish.FinishOp.{FinishOp}
use Rattle.split_finish.proofs.Standing.{each_target}
use Rattle.scan.specs.declared.steps.ScanAt.{ScanAt}
use Rattle.scan.specs.declared.steps.ScanAt.TheVariants.{Start as ScanStart, At as ScansAt, Last}
use Rattle.vacuum.specs.declared.steps.Backtrack.{Backtrack}
use Rattle.page_delete.specs.Cleanups.{CleanupIsUnderway}
use Rattle.schedule.specs.Numbers.{KeptNumber, cover_of, page_of, target_number, finish_numbers, insert_numbers, scan_numbers, back_numbers, cleanup_numbers, kept_numbers, StandsOnLevel, LeadsPast, there, next_page, NumberLeads, AllLead, NumbersLeadOn}
use Rattle.schedule.proofs.Imports.{unwrap_or, cases_lt, Bound, Entry, Page, PageState, Live, Deleted, IsFresh, State, Ghosts, FitsState, IsIn, IsRunOf, LeftContext, first_context, past, context_after}
use Rattle.schedule.proofs.Imports.{Node, node_from, nodes_of, IsCoverOn, LeadsOn, here, step, IsTrail, reached, over, entry_aim, bound_aim, frontier_aim, targets_of, FinishInvariant}
use Rattle.schedule.proofs.Imports.{FinishStands, FinishAt, FinishStart, FinishDown, Link, Root, Target, InsertStands, InsertAt, Coming, Finishing, InsertStart, InsertsAt, Holds, ScanStands}
use Rattle.schedule.proofs.Imports.{IsGoingBack, CleanupAt, Look, CleanupStart, CleanupDown, Judge, Unlink, OpInvariant, Op, Insert, Scan, Bulk, Cleanup, SlotMatches}
use Rattle.schedule.proofs.Fitting.{running_of}

-- a page of a chain that covers what is looked for is live
cover_there : (at : ℕ → Node) (s : LeftContext) (xs : List ℕ) (aim : Bound → Bool) (b : ℕ) → IsCoverOn at s xs aim b → IsIn b xs × ((at b).state ≡ Live)
cover_there at s [] aim b i = absurd i
cover_there at s (x ∷ xs) aim b (inl h) = (inl h.0, subst (λ (c : ℕ). (at c).state ≡ Live) (sym h.0) h.1)
cover_there at s (x ∷ xs) aim b (inr i) = (let r = cover_there at (past x (at x) s) xs aim b i in (inr r.0, r.1))

live_stays : {state : PageState} → state ≡ Live → state ≡ Deleted → ⊥
live_stays alive gone = (let e : Live ≡ Deleted = sym alive ∙ gone in cc)

module _ (st : State) (has : HasTree st) where
  -- a page in use that isn't deleted is none that `fresh` may name
  not_fresh : (b : ℕ) → b < length st.pages → ((nodes_of st.pages b).state ≡ Deleted → ⊥) → IsFresh st b → ⊥
  not_fresh b used stays fresh = stays ((fresh_free st b has fresh).not_in_use used)

  -- nor is one that is kept from reuse, if it is deleted
  kept_not_fresh : (start b : ℕ) → IsStart st.running start → b < length st.pages → ((nodes_of st.pages b).state ≡ Deleted → start < slice_index st.counted b) → IsFresh st b → ⊥
  kept_not_fresh start b runs used late fresh =
      let gone = (fresh_free st b has fresh).not_in_use used in
      let kept : start < slice_index st.counted b = late gone in
      let free : slice_index st.counted b ≤ start = fresh_reusable st b start fresh runs gone in
      omega (arith, kept, free)

  -- a block with a right link is in use
  linked_in_use : (b r : ℕ) → (nodes_of st.pages b).right ≡ Some r → b < length st.pages
  linked_in_use b r right = elim (cases_lt b (length st.pages)) [
    | inl lt ↦ lt
    | inr ge ↦ absurd (
        let none : (nodes_of st.pages b).right ≡ None = ap (λ (o : Option Page). (node_from o).right) (slice_get_past st.pages b ge) in
        let e : None ≡ Some r = sym none ∙ right in cc)
  ]

  -- a page of a chain stands on its level
  on_level : (level b : ℕ) → level ≤ has.tree.meta.level → IsIn b (has.tree.chain level) → StandsOnLevel st level b
  on_level level b in_top i =
      let w = split_at b (has.tree.chain level) i in
      let run = subst (λ (xs : List ℕ). IsRunOf (nodes_of st.pages) level first_context xs None) w.is (has.tree.is.runs level in_top) in
      let placed = run_back (nodes_of st.pages) level first_context w.front (b ∷ w.back) None run in
      record {
        used = (has.tree.is.in_use level b in_top i).1;
        level_is = placed.0.level_is;
        stays = λ gone. subst (λ (s : PageState). FitsState s level (context_after (nodes_of st.pages) first_context w.front) (nodes_of st.pages b)) gone placed.0.fits;
      }

  leads_past : (start b d : ℕ) → IsStart st.running start → LeadsOn (nodes_of st.pages) (slice_index st.counted) start b d → (IsFresh st d → ⊥) → LeadsPast st b d
  leads_past start b d runs here last = there last
  leads_past start b d runs (step late right rest) last =
      next_page (kept_not_fresh start b runs (linked_in_use b _ right) late) right (leads_past start _ d runs rest last)

  -- a place leads on to the page that covers what is looked for
  place_leads : (start level : ℕ) (aim : Bound → Bool) (clear : Bool) (b : ℕ) → IsStart st.running start → LeadsTo st start level aim clear b
      → NumberLeads st (record { block = b; sought = cover_of level aim })
  place_leads start level aim clear b runs place =
      let p = place_in st has.tree start level aim clear b place in
      let led = places_lead_on (nodes_of st.pages) (slice_index st.counted) (length st.pages) has.tree.root has.tree.meta.level has.tree.chain level start aim clear b has.tree.is p.in_tree p.place in
      let on = cover_there (nodes_of st.pages) first_context (has.tree.chain level) aim led.page led.covers in
      record {
        page = led.page;
        is = record { tree = has.tree; in_tree = p.in_tree; covers = led.covers };
        leads = leads_past start b led.page runs led.walk (not_fresh led.page (has.tree.is.in_use level led.page p.in_tree on.0).1 (live_stays on.1));
      }

  -- where a walk has come to leads on to a page of its level
  walk_leads : (start level : ℕ) (passed : List ℕ) (steps b : ℕ) → IsStart st.running start → level ≤ has.tree.meta.level
      → IsTrail (nodes_of st.pages) (slice_index st.counted) (has.tree.chain level) start passed steps b
      → NumberLeads st (record { block = b; sought = page_of level })
  walk_leads start level passed steps b runs in_top (reached i left) =
      let on = on_level level b in_top i in
      record { page = b; is = on; leads = there (not_fresh b on.used on.stays) }
  walk_leads start level passed steps b runs in_top (over r kept right apart rest) =
      let more = walk_leads start level passed _ r runs in_top rest in
      record { page = more.page; is = more.is; leads = next_page (kept_not_fresh start b runs (linked_in_use b r right) (λ gone. kept.late)) right more.leads }

  trail_leads : (start level b moves : ℕ) → IsStart st.running start → HasTrail st start level b moves → NumberLeads st (record { block = b; sought = page_of level })
  trail_leads start level b moves runs trail =
      let t = trail_in st has.tree start level b moves trail in
      walk_leads start level t.passed t.steps b runs t.in_tree t.trail

  both_lead : (xs ys : List KeptNumber) → AllLead st xs → AllLead st ys → AllLead st (xs ++ ys)
  both_lead [] ys all more = more
  both_lead (x ∷ xs) ys all more = (all.0, both_lead xs ys all.1 more)

  targets_lead : (targets : List Target) → ((i : ℕ) (t : Target) → slice_get targets i ≡ Some t → NumberLeads st (target_number t)) → AllLead st (map target_number targets)
  targets_lead [] each = tt
  targets_lead (t ∷ targets) each = (each zero t refl, targets_lead targets (λ i x is. each (suc i) x is))

  finish_leads : (start : ℕ) (target : Target) (at : FinishAt) → IsStart st.running start → FinishStands st start target at → AllLead st (finish_numbers target at)
  finish_leads start target FinishStart runs stands = tt
  finish_leads start target (FinishDown position) runs stands = (place_leads start position.level (bound_aim target.separator) true position.block runs stands.place, tt)
  finish_leads start target (Link position) runs stands = (place_leads start position.level (bound_aim target.separator) true position.block runs stands.1.place, tt)
  finish_leads start target Root runs stands = tt

  splits_lead : (op : FinishOp) → FinishInvariant st op → AllLead st (map target_number (targets_of op) ++ finish_numbers op.target op.at)
  splits_lead op fits =
      let runs : IsStart st.running fits.start = record { session = op.session; is = fits.running } in
      both_lead (map target_number (targets_of op)) (finish_numbers op.target op.at)
      (targets_lead (targets_of op) (λ i t is. place_leads fits.start t.level (bound_aim t.separator) true t.block runs (each_target st op fits i t is).place))
      (finish_leads fits.start op.target op.at runs fits.stands)

  insert_leads : (session start : ℕ) (e : Entry) (at : InsertAt) → IsStart st.running start → InsertStands st session start e at → AllLead st (insert_numbers e at)
  insert_leads session start e (Coming InsertStart) runs stands = tt
  insert_leads session start e (Coming (InsertsAt position)) runs stands = (place_leads start position.level (entry_aim e) true position.block runs stands.1.place, tt)
  insert_leads session start e (Coming (Holds block)) runs stands = (place_leads start 0 (entry_aim e) true block runs stands.1.place, tt)
  insert_leads session start e (Finishing op) runs stands = splits_lead op stands.1

  scan_leads : (start : ℕ) (leaf : Option ℕ) (frontier : Bound) (at : ScanAt) → IsStart st.running start → ScanStands st start leaf frontier at → AllLead st (scan_numbers frontier at)
  scan_leads start leaf frontier ScanStart runs stands = tt
  scan_leads start leaf frontier (ScansAt position) runs stands = (place_leads start position.level (frontier_aim frontier) false position.block runs stands.place, tt)
  scan_leads start leaf frontier Last runs stands = tt

  back_leads : (start : ℕ) (back : Option Backtrack) → IsStart st.running start → IsGoingBack st start back → AllLead st (back_numbers back)
  back_leads start None runs goes = tt
  back_leads start (Some back) runs goes = (trail_leads start 0 back.block back.moves runs goes, tt)

  cleanup_leads : (start cursor : ℕ) (at : CleanupAt) → IsStart st.running start → CleanupIsUnderway st start cursor at → AllLead st (cleanup_numbers cursor at)
  cleanup_leads start cursor Look runs on = tt
  cleanup_leads start cursor (CleanupStart high) runs on = (trail_leads start 0 cursor 0 runs on, tt)
  cleanup_leads start cursor (CleanupDown high position) runs on =
      (trail_leads start 0 cursor 0 runs on.0, (place_leads start position.level (bound_aim high) false position.block runs on.1.place, tt))
  cleanup_leads start cursor (Judge high parent) runs on = (trail_leads start 0 cursor 0 runs on.0, (place_leads start 1 (bound_aim high) false parent runs on.1, tt))
  cleanup_leads start cursor Unlink runs on = (trail_leads start 0 cursor 0 runs on, tt)

  -- those of a call, by what it knows between its steps
  pub op_leads : (op : Op) → OpInvariant st op → AllLead st (kept_numbers (Some op))
  op_leads (Insert op) fits = insert_leads op.session fits.start op.entry op.at (record { session = op.session; is = fits.running }) fits.stands
  op_leads (Scan op) fits = scan_leads fits.start op.leaf op.frontier op.at (record { session = op.session; is = fits.running }) fits.stands
  op_leads (Bulk set op) fits = back_leads fits.start op.backtrack (record { session = op.session; is = fits.running }) fits.backtrack
  op_leads (Cleanup op) fits = cleanup_leads fits.start op.cursor op.at (record { session = op.session; is = fits.running }) fits.at

pub numbers_lead_on : {S : Type 0} (g : Ghosts S) → NumbersLeadOn g
numbers_lead_on {S} g start now fits session = by (slice_get now.slots session) (running_of fits session)
  where
    in_slot : (slot : Option Op) → SlotMatches g start now session slot → AllLead (g.state now.store) (kept_numbers slot)
    in_slot None free = tt
    in_slot (Some op) runs = op_leads (g.state now.store) fits.invariant.order.tree op runs.runs.fits

    by : (found : Option (Option Op)) → ((slot : Option Op) → found ≡ Some slot → SlotMatches g start now session slot) → AllLead (g.state now.store) (kept_numbers (unwrap_or found None))
    by None matches = tt
    by (Some slot) matches = in_slot slot (matches slot refl)
