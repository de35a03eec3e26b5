-- What an event of a session makes, by what its call promises: of a session that runs nothing, and of one
-- that runs a call.
use Rattle.std.proofs.Common.{◌≡◌, ℕ, ◌&&◌, Bool, true, false, Option, Result, Ok, Err, List, slice_get, refl, sym, ap, subst, ◌∙◌}
use Rattle.session_calls.specs.declared.calls.Calls.{Calls}
use Rattle.session_calls.proofs.Slots.{op_at, found}
use Rattle.schedule.proofs.Imports.{Fault, Ghosts, asks_vacuum, no_call_begins, no_call, has_call, one_vacuums, is_of_sets, session_to_begin, ChangesSlot, SlotBegins, SlotSteps, SlotGives}
use Rattle.schedule.proofs.Imports.{SlotEnds, DeadSets, Answer, Refused, Op, Request, EventEffect, here_with, Steps, Takes, GivesUp, Kind, BeginsCall, MovesCall}
use Rattle.schedule.proofs.Idling.{idle_makes}
use Rattle.schedule.proofs.Keeping.{Laws}
use Rattle.schedule.proofs.Making.{begin_makes, step_makes, next_makes, end_makes, not_found_makes}

module _ {S : Type 0} (g : Ghosts S) (laws : Laws g) (old new : S) (follows : g.follows old new) (calls then_calls : Calls) (sets : DeadSets) (session : ℕ) (answer : Answer) where
  abbrev slots : List (Option Op)
  slots = calls.slots.items

  abbrev then_slots : List (Option Op)
  then_slots = then_calls.slots.items

  -- nothing is changed
  unmoved : (kind : Kind) (a : Answer) → then_calls ≡ calls → new ≡ old → answer ≡ a → EventEffect g kind a (here_with old slots sets) (here_with old slots sets)
      → EventEffect g kind answer (here_with old slots sets) (here_with new then_slots sets)
  unmoved kind a calls_is store_is is made =
      subst (λ (s : S). EventEffect g kind answer (here_with old slots sets) (here_with s then_slots sets)) (sym store_is)
      (subst (λ (l : List (Option Op)). EventEffect g kind answer (here_with old slots sets) (here_with old l sets)) (sym (ap (λ (k : Calls). k.slots.items) calls_is))
      (subst (λ (x : Answer). EventEffect g kind x (here_with old slots sets) (here_with old slots sets)) (sym is) made))

  pub begin_event : (request : Request)
      → ((fault : Fault) → session_to_begin (no_call_begins (g.state old) (g.backing old)) (is_of_sets sets request) (slice_get slots session) session ≡ Err fault
      → (answer ≡ Refused fault) × (then_calls ≡ calls) × (new ≡ old))
      → (session_to_begin (no_call_begins (g.state old) (g.backing old)) (is_of_sets sets request) (slice_get slots session) session ≡ Ok session
      → ChangesSlot session slots then_slots (SlotBegins g old new session request (asks_vacuum request && one_vacuums slots) answer))
      → EventEffect g (BeginsCall session request) answer (here_with old slots sets) (here_with new then_slots sets)
  begin_event request not_begun changes = by (session_to_begin (no_call_begins (g.state old) (g.backing old)) (is_of_sets sets request) (slice_get slots session) session) refl
    where
      by : (r : Result ℕ Fault) → session_to_begin (no_call_begins (g.state old) (g.backing old)) (is_of_sets sets request) (slice_get slots session) session ≡ r
          → EventEffect g (BeginsCall session request) answer (here_with old slots sets) (here_with new then_slots sets)
      by (Err fault) is =
          let h = not_begun fault is in
          unmoved (BeginsCall session request) (Refused fault) h.1 h.2 h.0 (not_found_makes g laws old slots sets session request fault (sym is))
      by (Ok known) is =
          let at = found (no_call_begins (g.state old) (g.backing old)) (is_of_sets sets request) (slice_get slots session) session known (sym is) in
          let r = changes (is ∙ ap (λ (n : ℕ). Ok n) at.3) in
          let free : r.before ≡ _ = cc in
          subst (λ (l : List (Option Op)). EventEffect g (BeginsCall session request) answer (here_with old slots sets) (here_with new l sets)) (sym r.is)
          (begin_makes g laws old new follows slots sets session request r.before r.after answer at.0 at.1 at.2 free
          r.how.by (λ start history number begun. r.how.begins begun sets start history number) r.how.counts)

  pub step_event : (has_call slots session ≡ false → (answer ≡ no_call (g.backing old).stopped) × (then_calls ≡ calls) × (new ≡ old))
      → (has_call slots session ≡ true → ChangesSlot session slots then_slots (SlotSteps g sets old new answer))
      → EventEffect g (MovesCall session Steps) answer (here_with old slots sets) (here_with new then_slots sets)
  step_event idle changes = by (has_call slots session) refl
    where
      by : (b : Bool) → has_call slots session ≡ b → EventEffect g (MovesCall session Steps) answer (here_with old slots sets) (here_with new then_slots sets)
      by false is =
          let h = idle is in
          unmoved (MovesCall session Steps) answer h.1 h.2 refl (idle_makes g laws old slots sets session is Steps answer h.0)
      by true is =
          let r = changes is in
          let op = op_at (slice_get slots session) r.before is r.found in
          subst (λ (l : List (Option Op)). EventEffect g (MovesCall session Steps) answer (here_with old slots sets) (here_with new l sets)) (sym r.is)
          (step_makes g laws old new follows slots sets session r.before r.after op.0 answer op.1 r.found r.how.always r.how.goes r.how.follows)

  pub end_event : (has_call slots session ≡ false → (answer ≡ no_call false) × (then_calls ≡ calls) × (new ≡ old))
      → (has_call slots session ≡ true → ChangesSlot session slots then_slots (SlotEnds g old new answer))
      → EventEffect g (MovesCall session GivesUp) answer (here_with old slots sets) (here_with new then_slots sets)
  end_event idle changes = by (has_call slots session) refl
    where
      by : (b : Bool) → has_call slots session ≡ b → EventEffect g (MovesCall session GivesUp) answer (here_with old slots sets) (here_with new then_slots sets)
      by false is =
          let h = idle is in
          unmoved (MovesCall session GivesUp) answer h.1 h.2 refl (idle_makes g laws old slots sets session is GivesUp answer h.0)
      by true is =
          let r = changes is in
          let op = op_at (slice_get slots session) r.before is r.found in
          subst (λ (l : List (Option Op)). EventEffect g (MovesCall session GivesUp) answer (here_with old slots sets) (here_with new l sets)) (sym r.is)
          (end_makes g laws old new follows slots sets session r.before r.after op.0 answer op.1 r.found r.how.kind r.how.over r.how.backing (r.how.given_up op.0 op.1) (r.how.goes sets))

-- a `next`, which changes nothing of the store
pub next_event : {S : Type 0} (g : Ghosts S) (laws : Laws g) (store : S) (calls then_calls : Calls) (sets : DeadSets) (session : ℕ) (answer : Answer)
    → (has_call calls.slots.items session ≡ false → (answer ≡ no_call false) × (then_calls ≡ calls))
    → (has_call calls.slots.items session ≡ true → ChangesSlot session calls.slots.items then_calls.slots.items (SlotGives answer))
    → EventEffect g (MovesCall session Takes) answer (here_with store calls.slots.items sets) (here_with store then_calls.slots.items sets)
next_event g laws store calls then_calls sets session answer idle changes = by (has_call calls.slots.items session) refl
  where
    by : (b : Bool) → has_call calls.slots.items session ≡ b → EventEffect g (MovesCall session Takes) answer (here_with store calls.slots.items sets) (here_with store then_calls.slots.items sets)
    by false is =
        let h = idle is in
        subst (λ (l : List (Option Op)). EventEffect g (MovesCall session Takes) answer (here_with store calls.slots.items sets) (here_with store l sets))
        (sym (ap (λ (k : Calls). k.slots.items) h.1)) (idle_makes g laws store calls.slots.items sets session is Takes answer h.0)
    by true is =
        let r = changes is in
        let op = op_at (slice_get calls.slots.items session) r.before is r.found in
        subst (λ (l : List (Option Op)). EventEffect g (MovesCall session Takes) answer (here_with store calls.slots.items sets) (here_with store l sets)) (sym r.is)
        (next_makes g laws store calls.slots.items sets session r.before r.after op.0 answer op.1 r.found r.how.kind r.how.less r.how.runs_on
        r.how.until_last (λ st. r.how.goes st sets) r.how.due r.how.stands)
