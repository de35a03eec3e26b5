-- Beginnings over histories.
use Rattle.std.proofs.Common.{◌≡◌, ◌+◌, ◌≤◌, ℕ, slice_get, ◌<◌, Bool, true, false, true≢false, not, Option, Some, None, List, [], ◌∷◌, length, refl, sym, ap, subst, ◌∙◌, arith, length-set}
use Rattle.index_model.proofs.Order.{from_key}
use Rattle.tree_acts.proofs.Leaving.{leaves_same}
use Rattle.session_calls.proofs.Counting.{due_still}
use Rattle.session_calls.proofs.Bounds.{bulk_few, cleanup_few}
use Rattle.session_calls.proofs.Starting.{starts_kept, starts_begun, tree_begun}
use Rattle.session_calls.specs.declared.request.Request.{Request}
use Rattle.session_calls.specs.declared.request.Request.TheVariants.{Insert as ToInsert, Scan as ToScan, Bulk as ToBulk, Cleanup as ToCleanup}
use Rattle.session_calls.proofs.Lists.{get_set_same, get_set_other}
use Rattle.session_calls.proofs.Imports.{unwrap_or, Action, GivesOnly, Meets, is_past, matches, from_admits, below_admits, start_of, Entry, Range, State, after_begin, after_start_cycle}
use Rattle.session_calls.proofs.Imports.{next_cycle, lows_same, all_to_come, Page, NumbersStay, IsInOrder, OthersRely, insert_bounded, scan_bounded, root_level, NoneIsIncomplete, IsServable}
use Rattle.session_calls.proofs.Imports.{IsDueIn, steps_for, HasSteps, set_at, DeadSets, asked_by, begun_call, op_before, IsOfSets, asks_bulk_delete, IsBulkDeleteSoFar, SlotDeletions, Matches}
use Rattle.session_calls.proofs.Imports.{IsIdle, OpRuns, work_left, work_in, after_request, SessionBegins, Op, and_parts, lt-ltb, drop_all, removed_by, ◌==◌, suc, nat_lt, if◌then◌else◌}

begun_order : (st : State) (session : ℕ) → session < 64 → IsInOrder st → IsInOrder (after_begin session st)
begun_order st session low order = record {
  tree = (let many : length st.running ≡ 64 = order.calls in tree_begun st session (omega arith) order.tree);
  apart = order.apart;
  holdings = order.holdings;
  calls = length-set {A = Option ℕ} st.running session (Some st.begun) ∙ order.calls;
}

begun_matches : (st : State) (session : ℕ) (start : Entry → Bool) (history : List Action) → session < 64 → Matches st start history → Matches (after_begin session st) start history
begun_matches st session start history low m = record {
  contents = m.contents;
  count = m.count;
  order = begun_order st session low m.order;
  starts = (let many : length st.running ≡ 64 = m.order.calls in starts_begun st session (omega arith) m.starts);
}

begun_numbers : (st : State) (session start : ℕ) → NumbersStay start st (after_begin session st)
begun_numbers st session start = record {
  places = λ level aim clear block aims place. record { tree = place.tree; in_tree = place.in_tree; place = place.place };
  trails = λ level block moves trail.
      record { tree = trail.tree; in_tree = trail.in_tree; passed = trail.passed; count = trail.count; distinct = trail.distinct; steps = trail.steps; trail = trail.trail };
}

begun_others : (st : State) (session : ℕ) → OthersRely session st (after_begin session st)
begun_others st session other differ = record {
  held = refl;
  number = get_set_other st.running session other (Some st.begun) differ;
  pages = λ block alone. refl;
  numbers = λ start runs. begun_numbers st session start;
  lows = lows_same st.pages;
}

-- a cycle number is of the store alone
cycled_order : (st : State) → IsInOrder st → IsInOrder (after_start_cycle st)
cycled_order st order = record {
  tree = record { tree = order.tree.tree; stored = order.tree.stored; counted = order.tree.counted; within = order.tree.within; lead = order.tree.lead; unique = order.tree.unique };
  apart = order.apart;
  holdings = order.holdings;
  calls = order.calls;
}

cycled_numbers : (st : State) (session start : ℕ) → NumbersStay start st (after_start_cycle (after_begin session st))
cycled_numbers st session start = record {
  places = λ level aim clear block aims place. record { tree = place.tree; in_tree = place.in_tree; place = place.place };
  trails = λ level block moves trail.
      record { tree = trail.tree; in_tree = trail.in_tree; passed = trail.passed; count = trail.count; distinct = trail.distinct; steps = trail.steps; trail = trail.trail };
}

requested_matches : (v : Bool) (st : State) (session : ℕ) (start : Entry → Bool) (history : List Action) → session < 64 → Matches st start history → Matches (after_request v session st) start history
requested_matches false st session start history low m = begun_matches st session start history low m
requested_matches true st session start history low m =
    let begun = begun_matches st session start history low m in
    record {
      contents = m.contents;
      count = m.count;
      order = cycled_order (after_begin session st) begun.order;
      starts = starts_kept (after_begin session st) (after_start_cycle (after_begin session st)) refl refl begun.starts;
    }

requested_others : (v : Bool) (st : State) (session : ℕ) → OthersRely session st (after_request v session st)
requested_others false st session other differ = begun_others st session other differ
requested_others true st session other differ = record {
  held = refl;
  number = get_set_other st.running session other (Some st.begun) differ;
  pages = λ block alone. refl;
  numbers = λ start runs. cycled_numbers st session start;
  lows = lows_same st.pages;
}

requested_pages : (v : Bool) (st : State) (session : ℕ) → (after_request v session st).pages ≡ st.pages
requested_pages false st session = refl
requested_pages true st session = refl

requested_format : (v : Bool) (st : State) (session : ℕ) → (after_request v session st).format ≡ st.format
requested_format false st session = refl
requested_format true st session = refl

requested_cycle : (v : Bool) (st : State) (session : ℕ) → v ≡ false → (after_request v session st).cycle ≡ st.cycle
requested_cycle false st session none = refl
requested_cycle true st session none = absurd cc

-- a cycle number isn't 0
cycle_runs : (last_cycle : ℕ) → nat_lt 0 (next_cycle last_cycle) ≡ true
cycle_runs last_cycle = elim (last_cycle == 4294967295) as (λ b. nat_lt 0 (if b then 1 else suc last_cycle) ≡ true) [ true ↦ refl | false ↦ lt-ltb 0 (suc last_cycle) (omega arith) ]

-- an entry lies beyond the start of a range exactly if its key isn't before the range
pub past_start : (range : Range) (e : Entry) → is_past (start_of range) e ≡ from_admits range.from e.key
past_start range e = by range.from
  where
    none : (key : List ℕ) (e' : Entry) → is_past (record { key = []; row = None }) (record e' { key = key }) ≡ true
    none [] e' = refl
    none (x ∷ xs) e' = refl

    by : (from : Option (List ℕ)) → is_past (record { key = unwrap_or from []; row = None }) e ≡ from_admits from e.key
    by None = none e.key e
    by (Some k) = from_key k e

not_before : (range : Range) (e : Entry) → matches range e ≡ true → is_past (start_of range) e ≡ false → ⊥
not_before range e match not = true≢false (sym (past_start range e ∙ (and_parts (from_admits range.from e.key) (below_admits range.below e.key) match).0) ∙ not)

nothing_given : (start : Entry → Bool) (history : List Action) (range : Range) (began : ℕ) → GivesOnly start history range began began []
nothing_given start history range began = record { ascending = tt; matched = λ e h. absurd cc; was_there = λ e h. absurd cc }

module _ (old : State) (sets : DeadSets) (start : Entry → Bool) (history : List Action) (number session : ℕ) (low : session < 64) (m : Matches old start history) (idle : IsIdle old session) where
  abbrev then_state : Request → State
  then_state request = after_request (asks_bulk_delete request) session old

  starts : slice_get (after_begin session old).running session ≡ Some (Some old.begun)
  starts = (let many : length old.running ≡ 64 = m.order.calls in get_set_same old.running session (Some old.begun) (omega arith))

  started_is : unwrap_or (slice_get (after_begin session old).running session) None ≡ Some old.begun
  started_is = ap (λ (o : Option (Option ℕ)). unwrap_or o None) starts

  begun_meets : (request : Request) → Meets start history number (begun_call session (asked_by sets request) (length history))
  begun_meets (ToInsert e) = record { began = omega arith; until = omega arith; right = record { add = tt; end = tt } }
  begun_meets (ToScan range) = record {
    began = omega arith;
    until = omega arith;
    right = record { only = nothing_given start history range (length history); all = λ e within match through. absurd within };
  }
  begun_meets (ToBulk set) = record { began = omega arith; until = omega arith; right = tt }
  begun_meets ToCleanup = record { began = omega arith; until = omega arith; right = tt }

  begun_runs : (request : Request) → OpRuns (then_state request) sets start history (begun_call session (asked_by sets request) (length history)) (op_before session request)
  begun_runs (ToInsert e) =
      record {
        ask = refl;
        session = refl;
        added = refl;
        started = record { number = old.begun; is = started_is };
        fits =
            record { session = low; start = old.begun; running = starts; stands = idle.holds; to_come = refl };
        knows = tt;
      }
  begun_runs (ToScan range) = record {
    ask = refl;
    session = refl;
    added = refl;
    started = record { number = old.begun; is = started_is };
    fits = record { session = low; start = old.begun; running = starts; held = idle.holds; live = tt; stands = refl; started = λ e past. sym (past_start range e) ∙ past; few = omega arith };
    knows = record {
      ascending = tt;
      matched = λ e h. absurd cc;
      was_there = λ e h. absurd cc;
      complete = λ e is_after match through. absurd (not_before range e match is_after);
      reached = λ e h. absurd cc;
      next_page = λ e not. tt;
    };
  }
  begun_runs (ToBulk set) =
      record {
        ask = refl;
        session = refl;
        added = refl;
        started = record { number = old.begun; is = started_is };
        fits =
            record { session = low; start = old.begun; running = starts; held = idle.holds; backtrack = tt };
        knows = tt;
      }
  begun_runs ToCleanup =
      record {
        ask = refl;
        session = refl;
        added = refl;
        started = record { number = old.begun; is = started_is };
        fits =
            record { session = low; start = old.begun; running = starts; held = idle.holds; at = tt };
        knows = tt;
      }

  begun_sweep : (set : ℕ)
      → IsBulkDeleteSoFar (after_start_cycle (after_begin session old)) (set_at sets set) start history number (length history)
      (record { session = session; cursor = 1; backtrack = None; left = 0; removed = 0 })
  begun_sweep set = record {
    runs = cycle_runs old.last_cycle;
    to_come = λ due are. all_to_come due (after_start_cycle (after_begin session old)) session (cycled_order (after_begin session old) (begun_order old session low m.order));
    removed = sym (ap (λ (l : List Action). removed_by number l) (drop_all (length history) history (omega arith)));
  }

  begun_sweeps : (request : Request) → IsOfSets sets request → SlotDeletions (then_state request) sets start history number (length history) (Some (op_before session request))
  begun_sweeps (ToInsert e) there = tt
  begun_sweeps (ToScan range) there = tt
  begun_sweeps ToCleanup there = tt
  begun_sweeps (ToBulk set) there = (there, begun_sweep set)

  pub begins : (new : State) (request : Request) (slot : Option Op) → new ≡ after_request (asks_bulk_delete request) session old
      → slot ≡ Some (op_before session request) → SessionBegins old new sets start history number session request slot
  begins new request slot is slot_is =
      subst (λ (st : State). SessionBegins old st sets start history number session request slot) (sym is)
      (subst (λ (x : Option Op). SessionBegins old (then_state request) sets start history number session request x) (sym slot_is) (record {
        world = requested_matches (asks_bulk_delete request) old session start history low m;
        others = requested_others (asks_bulk_delete request) old session;
        meets = begun_meets request;
        holds = (refl, begun_runs request);
        cycle = requested_cycle (asks_bulk_delete request) old session;
        leaves = leaves_same old (then_state request) (requested_pages (asks_bulk_delete request) old session);
        deletions = begun_sweeps request;
      }))

few_from : (most : ℕ) (pages : List Page) (session : ℕ) (request : Request) → most ≤ 65536 → length pages ≤ 65536 → work_left most pages (Some (op_before session request)) < 281474976710656
few_from most pages session (ToInsert e) low few = insert_bounded most pages low
few_from most pages session (ToScan range) low few = scan_bounded most pages session range low few
few_from most pages session (ToBulk set) low few = (let k = bulk_few most (length pages) 1 None low few in omega arith)
few_from most pages session ToCleanup low few = cleanup_few most (length pages) 1 low few

-- a request that its leaf can serve is due after a few steps more than the root's level
due_from : (old : State) (session : ℕ) (request : Request) → NoneIsIncomplete old.pages → IsServable old request
    → IsDueIn old (Some (op_before session request)) (root_level old.pages + steps_for request)
due_from old session (ToInsert e) whole servable = record { steps_are = refl; whole = whole; position = tt; absent = servable.0; key_absent = servable.1; room = servable.2 }
due_from old session (ToScan range) whole servable = record { steps_are = refl; whole = whole; position = tt; none = refl }
due_from old session (ToBulk set) whole servable = absurd servable
due_from old session ToCleanup whole servable = absurd servable

few_begun : (v : Bool) (old : State) (session : ℕ) (request : Request) → old.format.pages ≤ 65536 → length old.pages ≤ 65536
    → work_in (after_request v session old) (Some (op_before session request)) < 281474976710656
few_begun false old session request low few = few_from old.format.pages old.pages session request low few
few_begun true old session request low few = few_from old.format.pages old.pages session request low few

pub has_steps : (old new : State) (session : ℕ) (request : Request) (slot : Option Op) → new ≡ after_request (asks_bulk_delete request) session old → slot ≡ Some (op_before session request)
    → old.format.pages ≤ 65536 → length old.pages ≤ 65536 → HasSteps old new request slot
has_steps old new session request slot is slot_is low few =
    subst (λ (st : State). HasSteps old st request slot) (sym is) (subst (λ (x : Option Op). HasSteps old (after_request (asks_bulk_delete request) session old) request x) (sym slot_is)
    (record {
      due = λ whole servable.
          due_still old (after_request (asks_bulk_delete request) session old) (Some (op_before session request)) (root_level old.pages + steps_for request)
          (requested_format (asks_bulk_delete request) old session) (requested_pages (asks_bulk_delete request) old session) (due_from old session request whole servable);
      bounded = few_begun (asks_bulk_delete request) old session request low few;
    }))
