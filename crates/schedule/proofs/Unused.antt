-- Moments that fit before any call, and with other sets.
use Rattle.std.proofs.Common.{◌≡◌, ℕ, zero, suc, ◌<◌, Bool, false, Option, Some, None, unwrap_or, List, [], length, slice_get, replicate, refl, sym, ap, ◌∙◌, arith}
use Rattle.tree_acts.specs.Deletions.{StartsAreBelow}
use Rattle.schedule.proofs.Imports.{Entry, entry_on_live_leaf, State, Ghosts, BulkDeleteOp, DeadSets, runs_bulk_delete, Op, Insert, Scan, Bulk, Cleanup, Moment, snapshot_of, Fits, slot_of}
use Rattle.schedule.proofs.Imports.{slot_vacuums, SlotRuns, SlotMatches, IsUnused, here_with, one_is_bulk_delete, KeepsHistory, Matches}
use Rattle.schedule.proofs.Keeping.{Laws, kept_at_start}
use Rattle.schedule.proofs.Keys.{keys_at_end}
use Rattle.schedule.proofs.Fitting.{fits_from, beyond_of, matches_of, running_of}

-- what stands in a list of one thing
pub in_replicate : {X : Type 0} (n : ℕ) (x y : X) (i : ℕ) → slice_get (replicate n x) i ≡ Some y → y ≡ x
in_replicate zero x y i h = absurd cc
in_replicate (suc n) x y zero h = cc
in_replicate (suc n) x y (suc i) h = in_replicate n x y i h

-- no session runs anything
pub empty_at : (n i : ℕ) (slots : List (Option Op)) → slots ≡ replicate n None → slot_of slots i ≡ None
empty_at n i slots is = of (slice_get slots i) refl
  where
    of : (o : Option (Option Op)) → slice_get slots i ≡ o → unwrap_or o None ≡ None
    of None at = refl
    of (Some o) at = in_replicate n None o i (ap (λ (l : List (Option Op)). slice_get l i) (sym is) ∙ at)

none_sweeps : (n : ℕ) → one_is_bulk_delete (replicate n None) ≡ false
none_sweeps zero = refl
none_sweeps (suc n) = none_sweeps n

-- no call runs in an unused store
no_starts : (st : State) → IsUnused st → StartsAreBelow st
no_starts st unused start is = absurd (let none : Some start ≡ None = sym (ap (λ (o : Option (Option ℕ)). unwrap_or o None) is.is) ∙ (unused.idle is.session).number in cc)

-- the pages of an unused store match no history
unused_matches : (st : State) → IsUnused st → Matches st (entry_on_live_leaf st.pages) []
unused_matches st unused = record { contents = λ e. refl; count = unused.acts; order = unused.order; starts = no_starts st unused }

-- it keeps no history
pub unused_keeps : {S : Type 0} (g : Ghosts S) (laws : Laws g) (store : S) (slots : List (Option Op)) (sets : DeadSets) → IsUnused (g.state store) → g.own store
    → KeepsHistory g (entry_on_live_leaf (g.state store).pages) (snapshot_of (here_with store slots sets) [] [])
unused_keeps g laws store slots sets unused own =
    kept_at_start g laws (entry_on_live_leaf (g.state store).pages) (snapshot_of (here_with store slots sets) [] []) refl own (unused_matches (g.state store) unused)

-- an unused store with empty slots is fitted by the contents of its pages
pub unused_fits : {S : Type 0} (g : Ghosts S) (store : S) (slots : List (Option Op)) (sets : DeadSets) (n : ℕ) → slots ≡ replicate n None → IsUnused (g.state store)
    → Fits g (entry_on_live_leaf (g.state store).pages) (snapshot_of (here_with store slots sets) [] [])
unused_fits {S} g store slots sets n is unused = fits_from (record {
  matches = unused_matches (g.state store) unused;
  unique = λ asked k. keys_at_end (g.state store) (entry_on_live_leaf (g.state store).pages) [] (unused_matches (g.state store) unused) asked k (omega arith);
  running = λ session slot h. of session slot (in_replicate n None slot session (ap (λ (l : List (Option Op)). slice_get l session) (sym is) ∙ h));
  vacuums = record {
    alone = λ session other h k. absurd (let none : slot_vacuums (slot_of slots session) ≡ false = ap slot_vacuums (empty_at n session slots is) in cc);
    cycle = ap (λ (c : ℕ). is_cycle c) unused.cycle ∙ sym (ap one_is_bulk_delete is ∙ none_sweeps n);
  };
  beyond = λ session h. unused.idle session;
  known = λ number call h. absurd cc;
  meets = λ number call h. absurd cc;
  owned = λ before action h. absurd cc;
})
  where
    is_cycle : ℕ → Bool
    is_cycle c = runs_bulk_delete (record (g.state store) { cycle = c })

    of : (session : ℕ) (slot : Option Op) → slot ≡ None → SlotMatches g (entry_on_live_leaf (g.state store).pages) (snapshot_of (here_with store slots sets) [] []) session slot
    of session None e = record { none = λ number call h. (let f = h.found in absurd cc); idle = unused.idle session }
    of session (Some op) e = absurd cc

-- if no bulk delete runs, a moment fits with any sets
module _ {S : Type 0} (g : Ghosts S) (start : Entry → Bool) (now : Moment S) (sets : DeadSets) where
  abbrev then : Moment S
  then = record now { sets = sets }

  same_slot : (session : ℕ) (slot : Option Op) → ((set : ℕ) (op : BulkDeleteOp) → slot ≡ Some (Bulk set op) → ⊥) → SlotMatches g start now session slot → SlotMatches g start then session slot
  same_slot session None without h = record { none = h.none; idle = h.idle }
  same_slot session (Some (Insert op)) without h =
      record {
        number = h.number;
        call = h.call;
        is = h.is;
        only = h.only;
        runs =
            record { ask = h.runs.ask; session = h.runs.session; added = h.runs.added; started = h.runs.started; fits = h.runs.fits; knows = h.runs.knows };
        deletions = tt;
      }
  same_slot session (Some (Scan op)) without h =
      record {
        number = h.number;
        call = h.call;
        is = h.is;
        only = h.only;
        runs =
            record { ask = h.runs.ask; session = h.runs.session; added = h.runs.added; started = h.runs.started; fits = h.runs.fits; knows = h.runs.knows };
        deletions = tt;
      }
  same_slot session (Some (Cleanup op)) without h =
      record {
        number = h.number;
        call = h.call;
        is = h.is;
        only = h.only;
        runs =
            record { ask = h.runs.ask; session = h.runs.session; added = h.runs.added; started = h.runs.started; fits = h.runs.fits; knows = h.runs.knows };
        deletions = tt;
      }
  same_slot session (Some (Bulk set op)) without h = absurd (without set op refl)

  pub fits_with : ((session set : ℕ) (op : BulkDeleteOp) → slice_get now.slots session ≡ Some (Some (Bulk set op)) → ⊥) → Fits g start now → Fits g start then
  fits_with without fits = fits_from (record {
    matches = (matches_of fits);
    unique = fits.explains.unique;
    running = λ session slot h. same_slot session slot (λ set op is. without session set op (h ∙ ap Some is)) (running_of fits session slot h);
    vacuums = fits.invariant.vacuums;
    beyond = beyond_of fits;
    known = fits.explains.known;
    meets = fits.explains.meets;
    owned = fits.explains.owned;
  })

-- with no sets no bulk delete runs
pub no_set_runs : {S : Type 0} (g : Ghosts S) (start : Entry → Bool) (now : Moment S) → now.sets ≡ [] → Fits g start now
    → (session set : ℕ) (op : BulkDeleteOp) → slice_get now.slots session ≡ Some (Some (Bulk set op)) → ⊥
no_set_runs g start now none fits session set op at =
    let runs : SlotRuns g start now session (Bulk set op) = running_of fits session (Some (Bulk set op)) at in
    let within : set < length now.sets = runs.deletions.0 in
    let zero_is : length now.sets ≡ 0 = ap (λ (l : DeadSets). length l) none in
    omega (arith, within, zero_is)
