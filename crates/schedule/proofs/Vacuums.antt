-- Which session runs a bulk delete or a cleanup, after a slot that is set.
use Rattle.std.proofs.Common.{◌≡◌, ◌≢◌, ℕ, zero, suc, ◌<◌, ◌||◌, ◌&&◌, Bool, true, false, true≢false, Option, Some, None, List, [], ◌∷◌, length, slice_set, refl, sym, ap, subst, arith, inl, inr, ◌∙◌}
use Rattle.std.proofs.lemmas.Bool.{false_from_ne_true}
use Rattle.schedule.proofs.Imports.{unwrap_or, list_any, cases_eq, Ask, AskInsert, AskScan, AskBulkDelete, AskCleanup, State, DeadSets, asked_of, op_before, asks_vacuum, asks_bulk_delete}
use Rattle.schedule.proofs.Imports.{is_vacuum, is_bulk_delete, runs_bulk_delete, cycle_after, asks_cleanup, Op, Insert, Scan, Bulk, Cleanup, Request, ToInsert, ToScan, ToBulk, ToCleanup, slot_of}
use Rattle.schedule.proofs.Imports.{slot_vacuums, one_vacuums, slot_is_bulk_delete, one_is_bulk_delete, OneVacuums}
use Rattle.schedule.proofs.Lists.{get_set_same, get_set_other}

or_true : (a b : Bool) → b ≡ true → (a || b) ≡ true
or_true true b h = refl
or_true false b h = h

-- the slot of a session is set: it is that, and the others are as they were
pub set_is : (slots : List (Option Op)) (session : ℕ) (slot : Option Op) → session < length slots → slot_of (slice_set slots session slot) session ≡ slot
set_is slots session slot within = ap (λ (o : Option (Option Op)). unwrap_or o None) (get_set_same slots session slot within)

pub set_other : (slots : List (Option Op)) (session other : ℕ) (slot : Option Op) → other ≢ session → slot_of (slice_set slots session slot) other ≡ slot_of slots other
set_other slots session other slot apart = ap (λ (o : Option (Option Op)). unwrap_or o None) (get_set_other slots session other slot apart)

-- a test of what sessions run, which an empty slot doesn't pass
module _ (test : Option Op → Bool) (none_fails : test None ≡ false) where
  -- a session passes it exactly if some does
  pub any_true : (slots : List (Option Op)) → list_any test slots ≡ true → (session : ℕ) × (test (slot_of slots session) ≡ true)
  any_true [] h = absurd (true≢false (sym h))
  any_true (x ∷ xs) h = by (test x) refl (λ more. any_true xs more)
    where
      by : (b : Bool) → test x ≡ b → (list_any test xs ≡ true → (session : ℕ) × (test (slot_of xs session) ≡ true)) → (session : ℕ) × (test (slot_of (x ∷ xs) session) ≡ true)
      by true is rest = (zero, is)
      by false is rest = (let found = rest (subst (λ (c : Bool). (c || list_any test xs) ≡ true) is h) in (suc found.0, found.1))

  pub true_any : (slots : List (Option Op)) (session : ℕ) → test (slot_of slots session) ≡ true → list_any test slots ≡ true
  true_any [] session h = absurd (true≢false (sym h ∙ none_fails))
  true_any (x ∷ xs) zero h = subst (λ (c : Bool). (c || list_any test xs) ≡ true) (sym h) refl
  true_any (x ∷ xs) (suc session) h = or_true (test x) (list_any test xs) (true_any xs session h)

  -- if a slot is set that passes it as the one before did, each passes it as before
  set_same : (slots : List (Option Op)) (session : ℕ) (slot : Option Op) → session < length slots → test slot ≡ test (slot_of slots session)
      → (other : ℕ) → test (slot_of (slice_set slots session slot) other) ≡ test (slot_of slots other)
  set_same slots session slot within same other = elim (cases_eq other session) [
    | inl e ↦ subst (λ (s : ℕ). test (slot_of (slice_set slots session slot) s) ≡ test (slot_of slots s)) (sym e) (ap test (set_is slots session slot within) ∙ same)
    | inr n ↦ ap test (set_other slots session other slot n)
  ]

  set_any : (slots : List (Option Op)) (session : ℕ) (slot : Option Op) → session < length slots → test slot ≡ test (slot_of slots session)
      → list_any test (slice_set slots session slot) ≡ list_any test slots
  set_any [] session slot within same = refl
  set_any (x ∷ xs) zero slot within same = ap (λ (b : Bool). b || list_any test xs) same
  set_any (x ∷ xs) (suc session) slot within same = ap (λ (b : Bool). test x || b) (set_any xs session slot (omega arith) same)

-- a bulk delete vacuums
pub sweep_vacuums : (slot : Option Op) → slot_is_bulk_delete slot ≡ true → slot_vacuums slot ≡ true
sweep_vacuums None h = absurd (true≢false (sym h))
sweep_vacuums (Some (Insert op)) h = absurd (true≢false (sym h))
sweep_vacuums (Some (Scan op)) h = absurd (true≢false (sym h))
sweep_vacuums (Some (Cleanup op)) h = absurd (true≢false (sym h))
sweep_vacuums (Some (Bulk set op)) h = refl

-- the cycle number is of the state alone
cycle_same : (old new : State) → new.cycle ≡ old.cycle → runs_bulk_delete new ≡ runs_bulk_delete old
cycle_same old new cycle = ap (λ (n : ℕ). runs_bulk_delete (record old { cycle = n })) cycle

pub vacuums_still : (old new : State) (slots : List (Option Op)) (session : ℕ) (slot : Option Op) → session < length slots → slot_vacuums slot ≡ slot_vacuums (slot_of slots session)
    → slot_is_bulk_delete slot ≡ slot_is_bulk_delete (slot_of slots session) → new.cycle ≡ old.cycle → OneVacuums old slots → OneVacuums new (slice_set slots session slot)
vacuums_still old new slots session slot within same deletions cycle h = record {
  alone = λ a b va vb. h.alone a b (sym (set_same slot_vacuums refl slots session slot within same a) ∙ va) (sym (set_same slot_vacuums refl slots session slot within same b) ∙ vb);
  cycle = cycle_same old new cycle ∙ h.cycle ∙ sym (set_any slot_is_bulk_delete refl slots session slot within deletions);
}

-- the one that runs ends
module _ (old : State) (slots : List (Option Op)) (session : ℕ) (within : session < length slots) (was : slot_vacuums (slot_of slots session) ≡ true) (h : OneVacuums old slots) where
  none_left : (a : ℕ) → slot_vacuums (slot_of (slice_set slots session None) a) ≡ true → ⊥
  none_left a va = elim (cases_eq a session) [
    | inl e ↦ true≢false (sym (subst (λ (s : ℕ). slot_vacuums (slot_of (slice_set slots session None) s) ≡ true) e va) ∙ ap slot_vacuums (set_is slots session None within))
    | inr n ↦ n (h.alone a session (sym (ap slot_vacuums (set_other slots session a None n)) ∙ va) was)
  ]

  none_sweeps : one_is_bulk_delete (slice_set slots session None) ≡ false
  none_sweeps = false_from_ne_true (one_is_bulk_delete (slice_set slots session None)) (λ one.
      (let some = any_true slot_is_bulk_delete refl (slice_set slots session None) one in
      none_left some.0 (sweep_vacuums (slot_of (slice_set slots session None) some.0) some.1)))

  pub vacuums_end : (new : State) → runs_bulk_delete new ≡ false → OneVacuums new (slice_set slots session None)
  vacuums_end new cycle = record { alone = λ a b va vb. absurd (none_left a va); cycle = cycle ∙ sym none_sweeps }

-- none runs if none of the slots vacuums
pub none_runs : (slots : List (Option Op)) → one_vacuums slots ≡ false → (session : ℕ) → slot_vacuums (slot_of slots session) ≡ true → ⊥
none_runs slots idle session vacuums = true≢false (sym (true_any slot_vacuums refl slots session vacuums) ∙ idle)

-- ... so there is no cycle number
pub none_sweeping : (st : State) (slots : List (Option Op)) → OneVacuums st slots → one_vacuums slots ≡ false → runs_bulk_delete st ≡ false
none_sweeping st slots h idle = h.cycle ∙ false_from_ne_true (one_is_bulk_delete slots) (λ one.
    (let some = any_true slot_is_bulk_delete refl slots one in none_runs slots idle some.0 (sweep_vacuums (slot_of slots some.0) some.1)))

-- one begins, if none ran
module _ (old : State) (slots : List (Option Op)) (session : ℕ) (slot : Option Op) (within : session < length slots)
    (vacuums : slot_vacuums slot ≡ true) (idle : one_vacuums slots ≡ false) (h : OneVacuums old slots) where
  only_this : (a : ℕ) → slot_vacuums (slot_of (slice_set slots session slot) a) ≡ true → a ≡ session
  only_this a va = elim (cases_eq a session) [
    | inl e ↦ e
    | inr n ↦ absurd (none_runs slots idle a (sym (ap slot_vacuums (set_other slots session a slot n)) ∙ va))
  ]

  -- a bulk delete, which gets a cycle number
  pub sweep_begins : (new : State) → slot_is_bulk_delete slot ≡ true → runs_bulk_delete new ≡ true → OneVacuums new (slice_set slots session slot)
  sweep_begins new deletions runs = record {
    alone = λ a b va vb. only_this a va ∙ sym (only_this b vb);
    cycle = runs ∙ sym (true_any slot_is_bulk_delete refl (slice_set slots session slot) session (ap slot_is_bulk_delete (set_is slots session slot within) ∙ deletions));
  }

  none_else : slot_is_bulk_delete slot ≡ false → (a : ℕ) → slot_is_bulk_delete (slot_of (slice_set slots session slot) a) ≡ true → ⊥
  none_else calm a deletions =
      let same : a ≡ session = only_this a (sweep_vacuums (slot_of (slice_set slots session slot) a) deletions) in
      true≢false (sym (subst (λ (s : ℕ). slot_is_bulk_delete (slot_of (slice_set slots session slot) s) ≡ true) same deletions) ∙ ap slot_is_bulk_delete (set_is slots session slot within) ∙ calm)

  -- a cleanup, which gets none
  pub cleanup_begins : (new : State) → slot_is_bulk_delete slot ≡ false → new.cycle ≡ old.cycle → OneVacuums new (slice_set slots session slot)
  cleanup_begins new calm cycle = record {
    alone = λ a b va vb. only_this a va ∙ sym (only_this b vb);
    cycle = cycle_same old new cycle ∙ none_sweeping old slots h idle ∙ sym (false_from_ne_true (one_is_bulk_delete (slice_set slots session slot)) (λ one.
        (let some = any_true slot_is_bulk_delete refl (slice_set slots session slot) one in none_else calm some.0 some.1)));
  }

-- what was asked tells whether it is a bulk delete or a cleanup
abbrev ask_sweeps : Ask → Bool
ask_sweeps (AskInsert e) = false
ask_sweeps (AskScan range) = false
ask_sweeps (AskBulkDelete dead) = true
ask_sweeps AskCleanup = false

sweeps_as : (sets : DeadSets) (op : Op) → is_bulk_delete op ≡ ask_sweeps (asked_of sets op)
sweeps_as sets (Insert op) = refl
sweeps_as sets (Scan op) = refl
sweeps_as sets (Bulk set op) = refl
sweeps_as sets (Cleanup op) = refl

vacuums_as : (sets : DeadSets) (op : Op) → is_vacuum op ≡ (ask_sweeps (asked_of sets op) || asks_cleanup (asked_of sets op))
vacuums_as sets (Insert op) = refl
vacuums_as sets (Scan op) = refl
vacuums_as sets (Bulk set op) = refl
vacuums_as sets (Cleanup op) = refl

pub asked_sweep : (sets : DeadSets) (a b : Op) → asked_of sets a ≡ asked_of sets b → is_bulk_delete a ≡ is_bulk_delete b
asked_sweep sets a b h = sweeps_as sets a ∙ ap ask_sweeps h ∙ sym (sweeps_as sets b)

asked_vacuum : (sets : DeadSets) (a b : Op) → asked_of sets a ≡ asked_of sets b → is_vacuum a ≡ is_vacuum b
asked_vacuum sets a b h = vacuums_as sets a ∙ ap (λ (x : Ask). ask_sweeps x || asks_cleanup x) h ∙ sym (vacuums_as sets b)

pub before_vacuum : (session : ℕ) (request : Request) → is_vacuum (op_before session request) ≡ asks_vacuum request
before_vacuum session (ToInsert e) = refl
before_vacuum session (ToScan range) = refl
before_vacuum session (ToBulk set) = refl
before_vacuum session ToCleanup = refl

pub before_sweep : (session : ℕ) (request : Request) → is_bulk_delete (op_before session request) ≡ asks_bulk_delete request
before_sweep session (ToInsert e) = refl
before_sweep session (ToScan range) = refl
before_sweep session (ToBulk set) = refl
before_sweep session ToCleanup = refl

-- what is no vacuum is no bulk delete, and was no cleanup to ask for
pub calm_sweep : (op : Op) → is_vacuum op ≡ false → is_bulk_delete op ≡ false
calm_sweep (Insert op) h = refl
calm_sweep (Scan op) h = refl
calm_sweep (Bulk set op) h = absurd (true≢false h)
calm_sweep (Cleanup op) h = refl

pub calm_cleanup : (sets : DeadSets) (op : Op) → is_vacuum op ≡ false → asks_cleanup (asked_of sets op) ≡ false
calm_cleanup sets (Insert op) h = refl
calm_cleanup sets (Scan op) h = refl
calm_cleanup sets (Bulk set op) h = refl
calm_cleanup sets (Cleanup op) h = absurd (true≢false h)

pub calm_request : (request : Request) → asks_vacuum request ≡ false → asks_bulk_delete request ≡ false
calm_request (ToInsert e) h = refl
calm_request (ToScan range) h = refl
calm_request (ToBulk set) h = absurd (true≢false h)
calm_request ToCleanup h = refl

-- if the request asks for neither, or none of them runs, it isn't excluded
pub not_excluded : (asks runs : Bool) → (asks && runs) ≡ false → asks ≡ true → runs ≡ false
not_excluded true runs h is = h
not_excluded false runs h is = absurd (true≢false (sym is))

-- after an event of a call that is no bulk delete the cycle number is as it was
pub cycle_kept : (sets : DeadSets) (op : Op) (slot : Option Op) (cycle : ℕ) → is_bulk_delete op ≡ false → cycle_after (asked_of sets op) slot cycle ≡ cycle
cycle_kept sets (Insert op) slot cycle h = refl
cycle_kept sets (Scan op) slot cycle h = refl
cycle_kept sets (Cleanup op) slot cycle h = refl
cycle_kept sets (Bulk set op) slot cycle h = absurd (true≢false h)

-- after an event of a session's call
pub vacuums_go : (old new : State) (sets : DeadSets) (slots : List (Option Op)) (session : ℕ) (op : Op) (slot : Option Op) → session < length slots → slot_of slots session ≡ Some op
    → new.cycle ≡ cycle_after (asked_of sets op) slot old.cycle → ((after : Op) → slot ≡ Some after → asked_of sets after ≡ asked_of sets op)
    → OneVacuums old slots → OneVacuums new (slice_set slots session slot)
vacuums_go old new sets slots session op slot within was cycle asks h = by slot refl (is_vacuum op) refl
  where
    cycle_of : (x : Option Op) → slot ≡ x → new.cycle ≡ cycle_after (asked_of sets op) x old.cycle
    cycle_of x is = subst (λ (y : Option Op). new.cycle ≡ cycle_after (asked_of sets op) y old.cycle) is cycle

    going : (o : Op) (after : Op) (n : ℕ) → cycle_after (asked_of sets o) (Some after) n ≡ n
    going (Insert o) after n = refl
    going (Scan o) after n = refl
    going (Bulk set o) after n = refl
    going (Cleanup o) after n = refl

    -- the store of one that ends has no cycle number
    ending : (o : Op) → is_vacuum o ≡ true → slot_of slots session ≡ Some o → new.cycle ≡ cycle_after (asked_of sets o) None old.cycle → runs_bulk_delete new ≡ false
    ending (Insert o) is at now = absurd (true≢false (sym is))
    ending (Scan o) is at now = absurd (true≢false (sym is))
    ending (Bulk set o) is at now = ap (λ (n : ℕ). runs_bulk_delete (record old { cycle = n })) now
    ending (Cleanup o) is at now = cycle_same old new now ∙ h.cycle ∙ false_from_ne_true (one_is_bulk_delete slots) (λ one. others_calm (any_true slot_is_bulk_delete refl slots one))
      where
        others_calm : ((a : ℕ) × (slot_is_bulk_delete (slot_of slots a) ≡ true)) → ⊥
        others_calm some =
            let same : some.0 ≡ session = h.alone some.0 session (sweep_vacuums (slot_of slots some.0) some.1) (ap slot_vacuums at) in
            true≢false (sym (subst (λ (s : ℕ). slot_is_bulk_delete (slot_of slots s) ≡ true) same some.1) ∙ ap slot_is_bulk_delete at)

    by : (x : Option Op) → slot ≡ x → (b : Bool) → is_vacuum op ≡ b → OneVacuums new (slice_set slots session slot)
    by (Some after) at b is = vacuums_still old new slots session slot within
        (ap slot_vacuums at ∙ asked_vacuum sets after op (asks after at) ∙ sym (ap slot_vacuums was)) (ap slot_is_bulk_delete at ∙ asked_sweep sets after op (asks after at) ∙ sym (ap slot_is_bulk_delete was))
        (cycle_of (Some after) at ∙ going op after old.cycle) h
    by None at false is = vacuums_still old new slots session slot within (ap slot_vacuums at ∙ sym (ap slot_vacuums was ∙ is)) (ap slot_is_bulk_delete at ∙ sym (ap slot_is_bulk_delete was ∙ calm_sweep op is))
        (cycle_of None at ∙ cycle_kept sets op None old.cycle (calm_sweep op is)) h
    by None at true is = subst (λ (x : Option Op). OneVacuums new (slice_set slots session x)) (sym at)
        (vacuums_end old slots session within (ap slot_vacuums was ∙ is) h new (ending op is was (cycle_of None at)))
