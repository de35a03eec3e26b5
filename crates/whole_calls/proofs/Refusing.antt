-- Why a running call is refused: the causes of its events, told from the moment before the call to the moment
-- after it.
use Rattle.std.proofs.Common.{◌≡◌, ◌≢◌, ◌⊎◌, ℕ, zero, suc, ◌+◌, ◌<◌, ◌≤◌, Bool, true, false, true≢false, not, ◌&&◌, ◌||◌, ◌==◌, nat_lt, nat_le, Option, Some, None, List, [], ◌∷◌, ◌++◌, length, slice_get, refl, sym, ap, subst, arith, inl, inr, ◌∙◌, if◌then◌else◌, unwrap_or, is_none}
use Rattle.latch_table.specs.Holdings.{Holding, Table, nothing_held, holding_of, holding_excludes, is_held_by_another}
use Rattle.latch_table.specs.declared.mode.Mode.{Mode}
use Rattle.latch_table.specs.declared.mode.Mode.TheVariants.{Shared, Exclusive, Cleanup}
use Rattle.latch_table.proofs.Tables.{is_held_by_another-by}
use Rattle.tree_acts.specs.Levels.{root_level}
use Rattle.split_finish.specs.Finishes.{frames_of}
use Rattle.insert_split.specs.Inserts.{InsertInvariant, InsertStands, leaf_held, images_at, frames_at, takes_block_at, splits_root_at, causes_of_inserting}
use Rattle.insert_split.specs.declared.insert.InsertAt.{InsertAt}
use Rattle.insert_split.specs.declared.insert.InsertAt.TheVariants.{Coming, Finishing}
use Rattle.insert_split.specs.declared.insert.Stage.TheVariants.{Start, At, Holding as Holds}
use Rattle.scan.specs.Scans.{ScanInvariant, leaf_pinned, pins_of, causes_of_scanning}
use Rattle.scan.specs.declared.steps.ScanOp.{ScanOp}
use Rattle.vacuum.specs.Ops.{next_block}
use Rattle.page_delete.specs.Cleanups.{CleanupInvariant, causes_of_cleaning}
use Rattle.page_delete.specs.Needs.{blocks_written}
use Rattle.session_calls.proofs.Meeting.{other_row_is}
use Rattle.whole_calls.proofs.Blocks.{LeavesAll, blocks_after, blocks_same}
use Rattle.whole_calls.proofs.Tellings.{runs_in_slot, runs_has_call, one_runs}
use Rattle.schedule.proofs.Causes.{insert_images_few, put_few, frames_few, written_few, frames_for_few, block_few}
use Rattle.whole_calls.proofs.Imports.{or_cases, and_parts, ne_eqb, ltb-true, lt-ltb, ltb-false, leb-true, le-leb, eqb-true, eq-eqb, append-nil, Io, Stopped, Blocked, Exists, KeyTooLong, BadRow}
use Rattle.whole_calls.proofs.Imports.{IndexFull, LogFull, NoFrame, VacuumRunning, NoSession, SessionBusy, BadSuper, BadVersion, LogDamaged, BadLimits, TooTall, DeviceTooSmall, KeyExists, Row}
use Rattle.whole_calls.proofs.Imports.{Format, Range, entry_on_live_leaf, nothing_wrong, other_row_is_there, causes_of_forced, has_failed, is_at_end, pinned_blocks, count_apart, is_out_of_blocks}
use Rattle.whole_calls.proofs.Imports.{count_new, lacks_room, frames_for, InsertOp, BulkDeleteInvariant, causes_of_deleting, is_counted_out, has_dead, block_if, BulkDeleteOp, is_cleanup_full}
use Rattle.whole_calls.proofs.Imports.{CleanupOp, start_number, op_after_call, StepIsRefused, RefusalChangesNothing, IncompleteChangesNothing, Insert, Scan, Bulk, Cleanup, Effect, Ask, AskInsert}
use Rattle.whole_calls.proofs.Imports.{AskScan, AskBulkDelete, AskCleanup, Call, Circumstances, HasCause, Entry, Fault, State, Backing, IsLater, Ghosts, Page, DeadSets, acts_of, OpInvariant}
use Rattle.whole_calls.proofs.Imports.{IsCaused, once_added, causes_of_stepped, set_at, asked_of, session_of, AnswerMeans, is_busy, AnswersNext, Answer, Added, Gave, Refused, Op, Request}
use Rattle.whole_calls.proofs.Imports.{StoreAndSlots, Moment, IsRunningCall, EventDoes, Fits, here_at, slot_of, one_vacuums, MovesCall, Steps, CallMoves, MovesOn, causes_of_moving}
use Rattle.whole_calls.proofs.Imports.{causes_of_begun_at, is_of_sets, OthersStay, ends_call, others_run, another_runs, is_full_vacuum, causes_of_gone, causes_of_inserted, is_tall}
use Rattle.whole_calls.proofs.Imports.{causes_of_asked, causes_of_called, has_no_block, beyond_of, running_of}

pub or_left : (a b : Bool) → a ≡ true → (a || b) ≡ true
or_left true b h = refl
or_left false b h = absurd cc

pub or_right : (a b : Bool) → b ≡ true → (a || b) ≡ true
or_right true b h = refl
or_right false b h = h

pub or_none : (a b : Bool) → (a || b) ≡ false → (a ≡ false) × (b ≡ false)
or_none true b h = absurd cc
or_none false b h = (refl, h)

or_wider : (a b c d : Bool) → (a ≡ true → c ≡ true) → (b ≡ true → d ≡ true) → (a || b) ≡ true → (c || d) ≡ true
or_wider true b c d f k h = or_left c d (f refl)
or_wider false b c d f k h = or_right c d (k h)

-- causes

-- what has its cause in the one circumstances has it in the other
abbrev pub IsNarrower : Circumstances → Circumstances → Type 0
IsNarrower at wide = (fault : Fault) → HasCause at fault → HasCause wide fault

narrower_once : (at wide : Circumstances) → IsNarrower at wide → IsNarrower (once_added at) (once_added wide)
narrower_once at wide more Exists h = h
narrower_once at wide more (KeyExists row) h = h
narrower_once at wide more (Blocked block) h = h
narrower_once at wide more fault h = more fault h

pub cause_wider : (at wide : Circumstances) → IsNarrower at wide → (answer : Answer) → IsCaused at answer → IsCaused wide answer
cause_wider at wide more (Refused fault) h = more fault h
cause_wider at wide more (Added action (Some fault)) h = narrower_once at wide more fault h
cause_wider at wide more answer h = tt

-- if nothing is wrong nothing is refused
nothing_causes : (fault : Fault) → HasCause nothing_wrong fault → ⊥
nothing_causes KeyTooLong h = h
nothing_causes BadRow h = h
nothing_causes BadSuper h = h
nothing_causes BadVersion h = h
nothing_causes LogDamaged h = h
nothing_causes BadLimits h = h
nothing_causes DeviceTooSmall h = h
nothing_causes fault h = true≢false (sym h)

forced_in : (old new : Backing) (at : Circumstances) → (has_failed old new ≡ true → at.device_failed ≡ true) → (old.stopped ≡ true → at.is_stopped ≡ true) → IsNarrower (causes_of_forced old new) at
forced_in old new at fails stops Io h = fails h
forced_in old new at fails stops Stopped h = stops h
forced_in old new at fails stops fault h = absurd (nothing_causes fault h)

-- who runs a call

busy_slot : (slot : Option Op) → is_busy slot ≡ false → slot ≡ None
busy_slot None h = refl
busy_slot (Some op) h = absurd cc

apart_slot : (here busy : Bool) → here ≡ false → (not here && busy) ≡ false → busy ≡ false
apart_slot true busy is h = absurd cc
apart_slot false busy is h = h

idle_from : (from : ℕ) (slots : List (Option Op)) (session : ℕ) → others_run from slots session ≡ false → (at : ℕ) → from + at ≢ session → slot_of slots at ≡ None
idle_from from [] session h at apart = refl
idle_from from (slot ∷ slots) session h zero apart =
    busy_slot slot (apart_slot (from == session) (is_busy slot) (ne_eqb from session (λ same. apart (omega (arith, same))))
    (or_none (not (from == session) && is_busy slot) (others_run (suc from) slots session) h).0)
idle_from from (slot ∷ slots) session h (suc at) apart =
    idle_from (suc from) slots session (or_none (not (from == session) && is_busy slot) (others_run (suc from) slots session) h).1 at (λ same. apart (omega (arith, same)))

no_busy : (here : Bool) (slot : Option Op) → (here ≡ false → slot ≡ None) → (not here && is_busy slot) ≡ false
no_busy true slot none = refl
no_busy false slot none = rw (none refl) refl

idle_so : (from : ℕ) (slots : List (Option Op)) (session : ℕ) → ((at : ℕ) → from + at ≢ session → slot_of slots at ≡ None) → others_run from slots session ≡ false
idle_so from [] session idle = refl
idle_so from (slot ∷ slots) session idle =
    rw (no_busy (from == session) slot (λ apart. idle 0 (λ same. (let is : from ≡ session = omega (arith, same) in eqb_apart from session apart is))))
    (idle_so (suc from) slots session (λ at apart. idle (suc at) (λ same. apart (omega (arith, same)))))
  where
    eqb_apart : (n m : ℕ) → (n == m) ≡ false → n ≡ m → ⊥
    eqb_apart n m apart is = true≢false (sym (eq-eqb n m is) ∙ apart)

-- if no other session runs a call, their slots are empty
pub others_idle : (slots : List (Option Op)) (session : ℕ) → another_runs slots session ≡ false → (other : ℕ) → other ≢ session → slot_of slots other ≡ None
others_idle slots session h other apart = idle_from 0 slots session h other (λ same. apart (omega (arith, same)))

-- ... and the other way round
pub idle_others : (slots : List (Option Op)) (session : ℕ) → ((other : ℕ) → other ≢ session → slot_of slots other ≡ None) → another_runs slots session ≡ false
idle_others slots session idle = idle_so 0 slots session (λ at apart. idle at (λ same. apart (omega (arith, same))))

by_bool : (b : Bool) → (b ≡ false → b ≡ true) → b ≡ true
by_bool true f = refl
by_bool false f = f refl

-- another session that runs a call did so before an event of this one
pub others_before : (old new : List (Option Op)) (session : ℕ) → OthersStay session old new → another_runs new session ≡ true → another_runs old session ≡ true
others_before old new session stay h = by_bool (another_runs old session) (λ none. absurd (
    let idle : another_runs new session ≡ false =
    idle_others new session (λ other apart. ap (λ (o : Option (Option Op)). unwrap_or o None) (stay other apart) ∙ others_idle old session none other apart) in cc))

-- what sessions without a call hold: nothing

beyond_at : {X : Type 0} (xs : List X) (i : ℕ) → slice_get xs i ≡ None → length xs ≤ i
beyond_at [] i h = omega arith
beyond_at (x ∷ xs) zero h = absurd cc
beyond_at (x ∷ xs) (suc i) h = (let k = beyond_at xs i h in omega (arith, k))

holds_none : {S : Type 0} (g : Ghosts S) (start : Entry → Bool) (now : Moment S) → Fits g start now → (other : ℕ) → slot_of now.slots other ≡ None
    → holding_of (g.state now.store).table other ≡ nothing_held
holds_none g start now fits other empty = of (slice_get now.slots other) refl
  where
    of : (o : Option (Option Op)) → slice_get now.slots other ≡ o → holding_of (g.state now.store).table other ≡ nothing_held
    of None at = (beyond_of fits other (beyond_at now.slots other at)).holds
    of (Some None) at = (running_of fits other None at).idle.holds
    of (Some (Some op)) at = absurd (let is : slot_of now.slots other ≡ Some op = ap (λ (o : Option (Option Op)). unwrap_or o None) at in cc)

nothing_excludes : (block : ℕ) (mode : Mode) → holding_excludes nothing_held block mode ≡ false
nothing_excludes block Shared = refl
nothing_excludes block mode = refl

free_of_others : (table : Table) (session block : ℕ) (mode : Mode) → ((other : ℕ) → other ≢ session → holding_of table other ≡ nothing_held) → is_held_by_another table session block mode ≡ true → ⊥
free_of_others table session block mode none h =
    let by = is_held_by_another-by table session block mode h in
    let other = by.0 in
    let is : holding_excludes nothing_held block mode ≡ true = subst (λ (x : Holding). holding_excludes x block mode ≡ true) (none other by.2) by.3 in
    let not : holding_excludes nothing_held block mode ≡ false = nothing_excludes block mode in
    cc

pins_none : (table : Table) → ((other : ℕ) → holding_of table other ≡ nothing_held) → pinned_blocks table ≡ []
pins_none [] none = refl
pins_none (holding ∷ table) none =
    let here : holding ≡ nothing_held = none 0 in
    let rest : pinned_blocks table ≡ [] = pins_none table (λ other. none (suc other)) in
    ap (λ (h : Holding). h.pins ++ pinned_blocks table) here ∙ rest

-- if no other session holds anything, the pinned blocks are this one's
pins_own : (table : Table) (session : ℕ) → ((other : ℕ) → other ≢ session → holding_of table other ≡ nothing_held) → pinned_blocks table ≡ (holding_of table session).pins
pins_own [] session none = refl
pins_own (holding ∷ table) zero none =
    let rest : pinned_blocks table ≡ [] = pins_none table (λ other. none (suc other) (λ e. cc)) in
    ap (λ (ps : List ℕ). holding.pins ++ ps) rest ∙ append-nil holding.pins
pins_own (holding ∷ table) (suc session) none =
    let here : holding ≡ nothing_held = none 0 (λ e. cc) in
    ap (λ (h : Holding). h.pins ++ pinned_blocks table) here ∙ pins_own table session (λ other apart. none (suc other) (λ e. apart (omega (arith, e))))

-- the room for an act

-- if that room was made, an act is no cause
enough : (least_room : ℕ) (old new : Backing) (images : List ℕ) → (5 ≤ least_room → 5 ≤ old.promised) → length images ≤ 4 → lacks_room old new images ≡ true → nat_lt least_room 5 ≡ true
enough least_room old new images room few full = by_bool (nat_lt least_room 5) (λ no_less. absurd (
    let k : 5 ≤ old.promised = room (at_least least_room no_less) in
    let m : old.promised ≤ length images = leb-true old.promised (length images) (and_parts (nat_le old.promised (length images)) (nat_lt new.room (count_new new.waiting images)) full).0 in
    omega (arith, k, m, few)))
  where
    at_least : (n : ℕ) → nat_lt n 5 ≡ false → 5 ≤ n
    at_least n h = ltb-false n 5 h

nat_less : (a b c : ℕ) → a ≤ b → nat_lt b c ≡ true → nat_lt a c ≡ true
nat_less a b c le h = (let k = ltb-true b c h in lt-ltb a c (omega (arith, k, le)))

-- the fault that an answer tells of: that it is refused for, or that keeps an insert's split from being
-- finished
abbrev fault_of : Answer → Option Fault
fault_of (Refused fault) = Some fault
fault_of (Added action unfinished) = unfinished
fault_of answer = None

-- an event that tells of one appends no action
fault_tells_none : (answer : Answer) (count : ℕ) (effect : Option Effect) (call after : Call) (fault : Fault) → fault_of answer ≡ Some fault → AnswerMeans answer count effect call after → effect ≡ None
fault_tells_none (Refused f) count effect call after fault is told = told.0
fault_tells_none (Added a (Some f)) count effect call after fault is told = told.quiet (λ e. cc)
fault_tells_none (Added a None) count effect call after fault is told = absurd cc
fault_tells_none answer count effect call after fault is told = absurd cc

-- ... and changes nothing, but that the call is over, or leaves that too
told_after : (op : Op) (answer : Answer) (st new : State) (before after : Option Op) → before ≡ Some op
    → RefusalChangesNothing st new before after answer → IncompleteChangesNothing st new before answer
    → (fault : Fault) → fault_of answer ≡ Some fault → (new ≡ op_after_call op st) ⊎ (new ≡ st)
told_after op (Refused f) st new before after is refused unfinished fault told =
    by (ends_call f) (let r : StepIsRefused st new op after f = subst (λ (o : Option Op). RefusalChangesNothing st new o after (Refused f)) is refused in r.state)
  where
    by : (b : Bool) → new ≡ (if b then op_after_call op st else st) → (new ≡ op_after_call op st) ⊎ (new ≡ st)
    by true h = inl h
    by false h = inr h
told_after op (Added a (Some f)) st new before after is refused unfinished fault told = inl (subst (λ (o : Option Op). IncompleteChangesNothing st new o (Added a (Some f))) is unfinished)
told_after op (Added a None) st new before after is refused unfinished fault told = absurd cc
told_after op answer st new before after is refused unfinished fault told = absurd cc

-- a step of the session's running call
module _ {S : Type 0} (g : Ghosts S) (start : Entry → Bool) (session least_room : ℕ) (x y : Moment S) (fits : Fits g start x) (room : 5 ≤ least_room → 5 ≤ (g.backing x.store).promised)
    (format : (g.state y.store).format ≡ (g.state x.store).format) (frames : (g.state y.store).frames ≡ (g.state x.store).frames) (acts : (g.state x.store).acts ≤ (g.state y.store).acts) where
  abbrev st : State
  st = g.state x.store

  abbrev busy : Bool
  busy = another_runs x.slots session

  -- a page is held by another session only if one runs a call
  held_cause : (block : ℕ) (mode : Mode) → is_held_by_another st.table session block mode ≡ true → busy ≡ true
  held_cause block mode h = by_bool busy (λ none. absurd (free_of_others st.table session block mode (λ other apart. holds_none g start x fits other (others_idle x.slots session none other apart)) h))

  -- frames are pinned only if one does, or there are too few
  pins_cause : (need most : ℕ) (held : Holding) → holding_of st.table session ≡ held → need + count_apart held.pins ≤ most → most ≤ 4
      → nat_lt st.frames (need + count_apart (pinned_blocks st.table)) ≡ true → (busy || nat_lt (g.state y.store).frames 4) ≡ true
  pins_cause need most held is few low h = of busy refl
    where
      of : (b : Bool) → busy ≡ b → (b || nat_lt (g.state y.store).frames 4) ≡ true
      of true none = refl
      of false none =
          let own = pins_own st.table session (λ other apart. holds_none g start x fits other (others_idle x.slots session none other apart)) in
          let pins : pinned_blocks st.table ≡ held.pins = own ∙ ap (λ (k : Holding). k.pins) is in
          let k : st.frames < need + count_apart (pinned_blocks st.table) = ltb-true st.frames (need + count_apart (pinned_blocks st.table)) h in
          let m : count_apart (pinned_blocks st.table) ≡ count_apart held.pins = ap count_apart pins in
          lt-ltb (g.state y.store).frames 4 (omega (arith, k, m, few, low, frames))

  -- the log had failed, or a counter is at its end
  at_end : is_at_end st.acts ≡ true → nat_le 18446744073709551615 (g.state y.store).acts ≡ true
  at_end h = (let is : st.acts ≡ 18446744073709551615 = eqb-true st.acts 18446744073709551615 h in le-leb 18446744073709551615 (g.state y.store).acts (omega (arith, is, acts)))

  stopped_cause : (old_stopped failed full : Bool) → (old_stopped || is_at_end st.acts) ≡ true → (old_stopped || (failed || (nat_le 18446744073709551615 (g.state y.store).acts || full))) ≡ true
  stopped_cause true failed full h = refl
  stopped_cause false failed full h = or_right failed (nat_le 18446744073709551615 (g.state y.store).acts || full) (or_left (nat_le 18446744073709551615 (g.state y.store).acts) full (at_end h))

  -- frames that a step of an insert needs, beside what it holds
  insert_frames : (of start_number : ℕ) (e : Entry) (at : InsertAt) → of ≡ session → InsertStands st of start_number e at
      → nat_lt st.frames (frames_at st at + count_apart (pinned_blocks st.table)) ≡ true
      → (busy || nat_lt (g.state y.store).frames 4) ≡ true
  insert_frames of n e (Coming Start) is stands h = pins_cause 1 1 nothing_held (subst (λ (s : ℕ). holding_of st.table s ≡ nothing_held) is stands) (omega arith) (omega arith) h
  insert_frames of n e (Coming (At position)) is stands h = pins_cause 1 1 nothing_held (subst (λ (s : ℕ). holding_of st.table s ≡ nothing_held) is stands.0) (omega arith) (omega arith) h
  insert_frames of n e (Coming (Holds block)) is stands h =
      pins_cause (frames_at st (Coming (Holds block))) 3 (leaf_held block) (subst (λ (s : ℕ). holding_of st.table s ≡ leaf_held block) is stands.0)
      (let k = put_few st (slice_get st.pages block) in omega (arith, k)) (omega arith) h
  insert_frames of n e (Finishing op) is stands h =
      pins_cause (frames_of st op.target op.at) 4 nothing_held (subst (λ (s : ℕ). holding_of st.table s ≡ nothing_held) (stands.0 ∙ is) stands.1.free) few (omega arith) h
    where
      few : frames_of st op.target op.at + 0 ≤ 4
      few = (let k = frames_few st op.target op.at in omega (arith, k))

  inserting : (was_there : Bool) (key_was : Row → Bool) (used_up tall : Bool) (op : InsertOp) → op.session ≡ session → InsertInvariant st op
      → ((takes_block_at st op.at && is_out_of_blocks st) ≡ true → used_up ≡ true) → ((splits_root_at st op.at && nat_le 31 (root_level st.pages)) ≡ true → tall ≡ true)
      → (fault : Fault) → HasCause (record (causes_of_inserting st (g.backing x.store) (g.backing y.store) op.session op.entry op.at) { entry_was_there = was_there; key_was_there = key_was }) fault
      → HasCause (causes_of_inserted g session least_room was_there key_was used_up tall (here_at x) y.store) fault
  inserting was_there key_was used_up tall op is f blocks root Stopped h = stopped_cause (g.backing x.store).stopped (has_failed (g.backing x.store) (g.backing y.store)) false h
  inserting was_there key_was used_up tall op is f blocks root (Blocked b) h =
      elim (or_cases (is_held_by_another st.table op.session b Shared) (is_held_by_another st.table op.session b Exclusive) h) [
        | inl shared ↦ held_cause b Shared (subst (λ (s : ℕ). is_held_by_another st.table s b Shared ≡ true) is shared)
        | inr alone ↦ held_cause b Exclusive (subst (λ (s : ℕ). is_held_by_another st.table s b Exclusive ≡ true) is alone)
      ]
  inserting was_there key_was used_up tall op is f blocks root IndexFull h = blocks h
  inserting was_there key_was used_up tall op is f blocks root LogFull h = enough least_room (g.backing x.store) (g.backing y.store) (images_at st op.at) room (insert_images_few st op.at) h
  inserting was_there key_was used_up tall op is f blocks root NoFrame h = insert_frames op.session f.start op.entry op.at is f.stands h
  inserting was_there key_was used_up tall op is f blocks root TooTall h = root h
  inserting was_there key_was used_up tall op is f blocks root fault h = h

  -- if it isn't told whether the entry was there, and of its key only that the index is unique
  any_was : (was_there : Bool) (key_was : Row → Bool) (used_up tall : Bool) → ((row : Row) → key_was row ≡ true → (g.state y.store).format.unique ≡ true)
      → (fault : Fault) → HasCause (causes_of_inserted g session least_room was_there key_was used_up tall (here_at x) y.store) fault
      → HasCause (causes_of_inserted g session least_room true (λ r. (g.state y.store).format.unique) used_up tall (here_at x) y.store) fault
  any_was was_there key_was used_up tall unique Exists h = refl
  any_was was_there key_was used_up tall unique (KeyExists row) h = unique row h
  any_was was_there key_was used_up tall unique fault h = h

  scanning : (op : ScanOp) → op.session ≡ session → ScanInvariant st op → (fault : Fault)
      → HasCause (causes_of_scanning st (g.backing x.store) (g.backing y.store) op.session) fault → HasCause (causes_of_gone g session least_room false (here_at x) y.store) fault
  scanning op is f Stopped h = or_left (g.backing x.store).stopped (has_failed (g.backing x.store) (g.backing y.store) || (nat_le 18446744073709551615 (g.state y.store).acts || false)) h
  scanning op is f (Blocked b) h = held_cause b Shared (subst (λ (s : ℕ). is_held_by_another st.table s b Shared ≡ true) is h)
  scanning op is f NoFrame h = pins_cause 1 2 (leaf_pinned op.leaf) (subst (λ (s : ℕ). holding_of st.table s ≡ leaf_pinned op.leaf) is f.held) (few op.leaf) (omega arith) h
    where
      few : (leaf : Option ℕ) → 1 + count_apart (pins_of leaf) ≤ 2
      few None = omega arith
      few (Some b) = omega arith
  scanning op is f LogFull h = absurd (true≢false (sym h))
  scanning op is f fault h = h

  -- ... or the call has no room to count more
  counts_cause : (old_stopped failed full : Bool) → (old_stopped || (is_at_end st.acts || full)) ≡ true
      → (old_stopped || (failed || (nat_le 18446744073709551615 (g.state y.store).acts || full))) ≡ true
  counts_cause true failed full h = refl
  counts_cause false failed full h =
      or_right failed (nat_le 18446744073709551615 (g.state y.store).acts || full) (or_wider (is_at_end st.acts) full (nat_le 18446744073709551615 (g.state y.store).acts) full at_end (λ k. k) h)

  deleting : (dead : Row → Bool) (op : BulkDeleteOp) → op.session ≡ session → BulkDeleteInvariant st op → (fault : Fault)
      → HasCause (causes_of_deleting dead st (g.backing x.store) (g.backing y.store) op) fault → HasCause (causes_of_gone g session least_room (is_counted_out op) (here_at x) y.store) fault
  deleting dead op is f Stopped h = counts_cause (g.backing x.store).stopped (has_failed (g.backing x.store) (g.backing y.store)) (is_counted_out op) h
  deleting dead op is f (Blocked b) h = held_cause b Cleanup (subst (λ (s : ℕ). is_held_by_another st.table s b Cleanup ≡ true) is h)
  deleting dead op is f LogFull h =
      (let one = block_few (has_dead dead st op) (next_block op.cursor op.backtrack) in
      enough least_room (g.backing x.store) (g.backing y.store) (block_if (has_dead dead st op) (next_block op.cursor op.backtrack)) room (omega (arith, one)) h)
  deleting dead op is f NoFrame h = pins_cause 1 1 nothing_held (subst (λ (s : ℕ). holding_of st.table s ≡ nothing_held) is f.held) (omega arith) (omega arith) h
  deleting dead op is f fault h = h

  cleaning : (op : CleanupOp) → op.session ≡ session → CleanupInvariant st op → (fault : Fault)
      → HasCause (causes_of_cleaning st (g.backing x.store) (g.backing y.store) op) fault → HasCause (causes_of_gone g session least_room (is_cleanup_full op) (here_at x) y.store) fault
  cleaning op is f Stopped h = counts_cause (g.backing x.store).stopped (has_failed (g.backing x.store) (g.backing y.store)) (is_cleanup_full op) h
  cleaning op is f (Blocked b) h = elim (or_cases (is_held_by_another st.table op.session b Shared) (is_held_by_another st.table op.session b Exclusive) h) [
    | inl shared ↦ held_cause b Shared (subst (λ (s : ℕ). is_held_by_another st.table s b Shared ≡ true) is shared)
    | inr alone ↦ held_cause b Exclusive (subst (λ (s : ℕ). is_held_by_another st.table s b Exclusive ≡ true) is alone)
  ]
  cleaning op is f LogFull h = (let few = written_few op.at op.cursor st in enough least_room (g.backing x.store) (g.backing y.store) (blocks_written op.at op.cursor st) room (omega (arith, few)) h)
  cleaning op is f NoFrame h = pins_cause (frames_for (blocks_written op.at op.cursor st)) 3 nothing_held (subst (λ (s : ℕ). holding_of st.table s ≡ nothing_held) is f.held) few (omega arith) h
    where
      few : frames_for (blocks_written op.at op.cursor st) + 0 ≤ 3
      few = (let k = frames_for_few 3 (blocks_written op.at op.cursor st) (omega arith) (written_few op.at op.cursor st) in omega (arith, k))
  cleaning op is f fault h = h

  -- a refused step leaves the pages as they were, and each block as free as it was
  abbrev no_block : Bool
  no_block = has_no_block session (start_number st session) (g.state y.store)

  used : (takes : Bool) → no_block ≡ is_out_of_blocks st → (takes && is_out_of_blocks st) ≡ true → no_block ≡ true
  used takes same h = same ∙ (and_parts takes (is_out_of_blocks st) h).1

  tall : (splits : Bool) → (g.state y.store).pages ≡ st.pages → (splits && nat_le 31 (root_level st.pages)) ≡ true → is_tall (g.state y.store) ≡ true
  tall splits pages h = ap (λ (ps : List Page). nat_le 31 (root_level ps)) pages ∙ (and_parts splits (nat_le 31 (root_level st.pages)) h).1

  -- what is so of the store after an answer that tells of a fault
  abbrev AnswersNothing : Answer → Op → Type 0
  AnswersNothing answer op = (fault : Fault) → fault_of answer ≡ Some fault → ((g.state y.store).pages ≡ st.pages) × ((g.state y.store ≡ op_after_call op st) ⊎ (g.state y.store ≡ st))

  -- another row of the key is there on a unique index only
  unique_still : (e : Entry) (row : Row) → other_row_is_there st e row ≡ true → (g.state y.store).format.unique ≡ true
  unique_still e row h = ap (λ (f : Format). f.unique) format ∙ (other_row_is st e row h).0

  insert_came : (counts_full : Bool) (e : Entry) (op : InsertOp) → op.session ≡ session → InsertInvariant st op → (answer : Answer) → AnswersNothing answer (Insert op)
      → IsCaused (causes_of_inserting st (g.backing x.store) (g.backing y.store) op.session op.entry op.at) answer
      → IsCaused (causes_of_asked g session least_room (start_number st session) counts_full (AskInsert e) (here_at x) y.store) answer
  insert_came full e op is f (Refused fault) same c =
      any_was (entry_on_live_leaf st.pages op.entry) (other_row_is_there st op.entry) no_block (is_tall (g.state y.store)) (unique_still op.entry) fault
      (inserting (entry_on_live_leaf st.pages op.entry) (other_row_is_there st op.entry) no_block (is_tall (g.state y.store)) op is f
      (used (takes_block_at st op.at) (blocks_after session op st (g.state y.store) is (same fault refl).1)) (tall (splits_root_at st op.at) (same fault refl).0) fault c)
  insert_came full e op is f (Added a None) same c = tt
  insert_came full e op is f (Added a (Some fault)) same c =
      narrower_once (causes_of_inserting st (g.backing x.store) (g.backing y.store) op.session op.entry op.at)
      (causes_of_inserted g session least_room true (λ r. (g.state y.store).format.unique) no_block (is_tall (g.state y.store)) (here_at x) y.store)
      (λ k h. any_was (entry_on_live_leaf st.pages op.entry) (other_row_is_there st op.entry) no_block (is_tall (g.state y.store)) (unique_still op.entry) k
      (inserting (entry_on_live_leaf st.pages op.entry) (other_row_is_there st op.entry) no_block (is_tall (g.state y.store)) op is f
      (used (takes_block_at st op.at) (blocks_after session op st (g.state y.store) is (same fault refl).1)) (tall (splits_root_at st op.at) (same fault refl).0) k h)) fault c
  insert_came full e op is f answer same c = tt

  op_came : (op : Op) → session_of op ≡ session → OpInvariant st op → (answer : Answer) → AnswersNothing answer op
      → IsCaused (causes_of_stepped x.sets op st (g.backing x.store) (g.backing y.store)) answer
      → IsCaused (causes_of_asked g session least_room (start_number st session) (is_full_vacuum (Some op)) (asked_of x.sets op) (here_at x) y.store) answer
  op_came (Insert op) is f answer same c = insert_came false op.entry op is f answer same c
  op_came (Scan op) is f answer same c = cause_wider _ _ (scanning op is f) answer c
  op_came (Bulk set op) is f answer same c = cause_wider _ _ (deleting (set_at x.sets set) op is f) answer c
  op_came (Cleanup op) is f answer same c = cause_wider _ _ (cleaning op is f) answer c

-- if it appends none, it leaves the pages as they were
pub quiet_pages : {S : Type 0} (g : Ghosts S) (start : Entry → Bool) (session : ℕ) (answer : Answer) (x y : Moment S)
    → EventDoes g start (MovesCall session Steps) answer x y → (c : CallMoves g start session answer x y)
    → c.effect ≡ None → (g.state y.store).pages ≡ (g.state x.store).pages
quiet_pages g start session answer x y does c none =
    does.also.quiet.pages (c.history_is ∙ ap (λ (o : Option Effect). x.history ++ acts_of c.number o) none ∙ append-nil x.history)

-- a step of the session's call, by its event
module _ {S : Type 0} (g : Ghosts S) (start : Entry → Bool) (session least_room : ℕ) (answer : Answer) (x y : Moment S) (fits : Fits g start x)
    (room : 5 ≤ least_room → 5 ≤ (g.backing x.store).promised)
    (does : EventDoes g start (MovesCall session Steps) answer x y) (number : ℕ) (call : Call) (is : IsRunningCall x.calls session number call) where
  goes_on : CallMoves g start session answer x y
  goes_on = subst (λ (b : Bool). MovesOn g start b session answer x y) (runs_has_call g start x fits session number call is) does.also.happens

  pages_stay : (fault : Fault) → fault_of answer ≡ Some fault → (g.state y.store).pages ≡ (g.state x.store).pages
  pages_stay fault is = quiet_pages g start session answer x y does goes_on (fault_tells_none answer (length x.history) goes_on.effect goes_on.call goes_on.after fault is goes_on.told)

  acts_on : (g.state x.store).acts ≤ (g.state y.store).acts
  acts_on = elim does.also.always.kept.acts [
    | inl same ↦ omega (arith, same)
    | inr more ↦ omega (arith, more)
  ]

  pub step_caused : IsCaused (causes_of_asked g session least_room (start_number (g.state x.store) session) (is_full_vacuum (slot_of x.slots session)) call.ask (here_at x) y.store) answer
  step_caused =
      let r = runs_in_slot g start x fits session number call is in
      let same : r.2.call ≡ call = (one_runs g start x fits session number r.2.number call r.2.call is r.2.is).1 in
      let slot : slot_of x.slots session ≡ Some r.0 = ap (λ (o : Option (Option Op)). unwrap_or o None) r.1 in
      let ask : asked_of x.sets r.0 ≡ call.ask = sym r.2.runs.ask ∙ ap (λ (c : Call). c.ask) same in
      let caused : IsCaused (causes_of_stepped x.sets r.0 (g.state x.store) (g.backing x.store) (g.backing y.store)) answer =
      subst (λ (o : Option (Option Op)). IsCaused (causes_of_moving g x.sets x.store y.store Steps o) answer) r.1 does.also.caused in
      let left = told_after r.0 answer (g.state x.store) (g.state y.store) (slot_of x.slots session) (slot_of y.slots session) slot does.also.always.refused does.also.always.tells.unfinished in
      let came = op_came g start session least_room x y fits room does.also.quiet.format does.also.quiet.frames acts_on r.0
      (r.2.runs.session ∙ r.2.is.session_is) r.2.runs.fits answer (λ fault told. (pages_stay fault told, left fault told)) caused in
      let number : Option ℕ = start_number (g.state x.store) session in
      subst (λ (o : Option Op). IsCaused (causes_of_asked g session least_room number (is_full_vacuum o) call.ask (here_at x) y.store) answer) (sym slot)
      (subst (λ (a : Ask). IsCaused (causes_of_asked g session least_room number (is_full_vacuum (Some r.0)) a (here_at x) y.store) answer) ask came)

-- a call that was asked this counts pages or entries: a bulk delete, or a cleanup
abbrev pub AsksToCount : Ask → Type 0
AsksToCount (AskInsert e) = ⊥
AsksToCount (AskScan range) = ⊥
AsksToCount (AskBulkDelete dead) = Unit {0}
AsksToCount AskCleanup = Unit {0}

-- what is a cause since a later moment is one since an earlier
module _ {S : Type 0} (g : Ghosts S) (session least_room : ℕ) (old mid : StoreAndSlots S) (new : S)
    (later : IsLater (g.backing old.store) (g.backing mid.store)) (after : (g.backing mid.store).failures ≤ (g.backing new).failures)
    (busier : another_runs mid.slots session ≡ true → another_runs old.slots session ≡ true) where
  failed_wider : has_failed (g.backing mid.store) (g.backing new) ≡ true → has_failed (g.backing old.store) (g.backing new) ≡ true
  failed_wider h = (let k = later.failures in nat_less (g.backing old.store).failures (g.backing mid.store).failures (g.backing new).failures k h)

  stopped_wider : (rest wide : Bool) → (rest ≡ true → wide ≡ true) → ((g.backing mid.store).stopped || (has_failed (g.backing mid.store) (g.backing new) || rest)) ≡ true
      → ((g.backing old.store).stopped || (has_failed (g.backing old.store) (g.backing new) || wide)) ≡ true
  stopped_wider rest wide more h = elim (or_cases (g.backing mid.store).stopped (has_failed (g.backing mid.store) (g.backing new) || rest) h) [
    | inl stopped ↦ or_since (g.backing old.store).stopped (has_failed (g.backing old.store) (g.backing new)) wide (elim (later.stop_has_cause stopped) [
      | inl before ↦ inl before
      | inr since ↦ inr (lt-ltb (g.backing old.store).failures (g.backing new).failures (omega (arith, since, after)))
    ])
    | inr other ↦ or_right (g.backing old.store).stopped (has_failed (g.backing old.store) (g.backing new) || wide)
        (or_wider (has_failed (g.backing mid.store) (g.backing new)) rest (has_failed (g.backing old.store) (g.backing new)) wide failed_wider more other)
  ]
    where
      or_since : (a b c : Bool) → (a ≡ true) ⊎ (b ≡ true) → (a || (b || c)) ≡ true
      or_since a b c (inl h) = or_left a (b || c) h
      or_since a b c (inr h) = or_right a (b || c) (or_left b c h)

  pub gone_wider : (full wide : Bool) → (full ≡ true → wide ≡ true) → IsNarrower (causes_of_gone g session least_room full mid new) (causes_of_gone g session least_room wide old new)
  gone_wider full wide more Io h = failed_wider h
  gone_wider full wide more Stopped h =
      stopped_wider (nat_le 18446744073709551615 (g.state new).acts || full) (nat_le 18446744073709551615 (g.state new).acts || wide)
      (or_wider (nat_le 18446744073709551615 (g.state new).acts) full (nat_le 18446744073709551615 (g.state new).acts) wide (λ k. k) more) h
  gone_wider full wide more (Blocked b) h = busier h
  gone_wider full wide more NoFrame h = or_wider (another_runs mid.slots session) (nat_lt (g.state new).frames 4) (another_runs old.slots session) (nat_lt (g.state new).frames 4) busier (λ k. k) h
  gone_wider full wide more fault h = h

  inserted_wider : (was_there : Bool) (key_was : Row → Bool) (used_up tall : Bool)
      → IsNarrower (causes_of_inserted g session least_room was_there key_was used_up tall mid new) (causes_of_inserted g session least_room was_there key_was used_up tall old new)
  inserted_wider was_there key_was used_up tall Exists h = h
  inserted_wider was_there key_was used_up tall (KeyExists row) h = h
  inserted_wider was_there key_was used_up tall IndexFull h = h
  inserted_wider was_there key_was used_up tall TooTall h = h
  inserted_wider was_there key_was used_up tall fault h = gone_wider false false (λ f. f) fault h

  pub asked_wider : (number : Option ℕ) (full wide : Bool) (ask : Ask) → (AsksToCount ask → full ≡ true → wide ≡ true)
      → IsNarrower (causes_of_asked g session least_room number full ask mid new) (causes_of_asked g session least_room number wide ask old new)
  asked_wider number full wide (AskInsert e) more = inserted_wider true (λ r. (g.state new).format.unique) (has_no_block session number (g.state new)) (is_tall (g.state new))
  asked_wider number full wide (AskScan range) more = gone_wider false false (λ f. f)
  asked_wider number full wide ask more = gone_wider full wide (more tt)

-- a log that had failed before stops the call
pub stopped_before : {S : Type 0} (g : Ghosts S) (session least_room : ℕ) (full : Bool) (old : StoreAndSlots S) (new : S)
    → (g.backing old.store).stopped ≡ true → (causes_of_gone g session least_room full old new).is_stopped ≡ true
stopped_before g session least_room full old new h =
    or_left (g.backing old.store).stopped (has_failed (g.backing old.store) (g.backing new) || (nat_le 18446744073709551615 (g.state new).acts || full)) h

-- the room for a step wasn't made: its cause is that of the checkpoint
pub forced_cause : {S : Type 0} (g : Ghosts S) (session least_room : ℕ) (number : Option ℕ) (full : Bool) (ask : Ask) (old : StoreAndSlots S) (new : S)
    → IsNarrower (causes_of_forced (g.backing old.store) (g.backing new)) (causes_of_asked g session least_room number full ask old new)
forced_cause g session least_room number full ask old new = of ask
  where
    of : (a : Ask) → IsNarrower (causes_of_forced (g.backing old.store) (g.backing new)) (causes_of_asked g session least_room number full a old new)
    of (AskInsert e) = forced_in (g.backing old.store) (g.backing new) (causes_of_asked g session least_room number full (AskInsert e) old new)
        (λ h. h) (stopped_before g session least_room false old new)
    of (AskScan range) =
        forced_in (g.backing old.store) (g.backing new) (causes_of_asked g session least_room number full (AskScan range) old new) (λ h. h) (stopped_before g session least_room false old new)
    of (AskBulkDelete dead) =
        forced_in (g.backing old.store) (g.backing new) (causes_of_asked g session least_room number full (AskBulkDelete dead) old new) (λ h. h) (stopped_before g session least_room full old new)
    of AskCleanup = forced_in (g.backing old.store) (g.backing new) (causes_of_asked g session least_room number full AskCleanup old new) (λ h. h) (stopped_before g session least_room full old new)

-- a call that wasn't begun
pub begun_called : {S : Type 0} (g : Ghosts S) (session : ℕ) (request : Request) (old : StoreAndSlots S) (at : Circumstances) → ((g.backing old.store).stopped ≡ true → at.is_stopped ≡ true)
    → IsNarrower (causes_of_begun_at g old.store (one_vacuums old.slots) old.sets request (slice_get old.slots session)) (causes_of_called g session request old at)
begun_called g session request old at stops = of (slice_get old.slots session) refl
  where
    none_begins : ((g.backing old.store).stopped || is_at_end (g.state old.store).begun) ≡ true → (at.is_stopped || is_at_end (g.state old.store).begun) ≡ true
    none_begins h = or_wider (g.backing old.store).stopped (is_at_end (g.state old.store).begun) at.is_stopped (is_at_end (g.state old.store).begun) stops (λ k. k) h

    of : (slot : Option (Option Op)) → slice_get old.slots session ≡ slot
        → IsNarrower (causes_of_begun_at g old.store (one_vacuums old.slots) old.sets request slot) (causes_of_called g session request old at)
    of None is Stopped h = none_begins h
    of (Some slot) is Stopped h = none_begins h
    of None is NoSession h = or_right (not (is_of_sets old.sets request)) (is_none (slice_get old.slots session)) (ap is_none is)
    of (Some slot) is NoSession h = or_left (not (is_of_sets old.sets request)) (is_none (slice_get old.slots session)) h
    of (Some slot) is SessionBusy h = ap (λ (o : Option (Option Op)). is_busy (unwrap_or o None)) is ∙ h
    of (Some slot) is VacuumRunning h = h
    of slot is fault h = absurd (nothing_causes fault h)

-- one that was begun, and came to this
pub called_wider : {S : Type 0} (g : Ghosts S) (session : ℕ) (request : Request) (old : StoreAndSlots S) (at : Circumstances) → at.vacuum_runs ≡ false
    → at.no_such_session ≡ false → at.session_has_a_call ≡ false
    → IsNarrower at (causes_of_called g session request old at)
called_wider g session request old at vacuums none has_none Stopped h = or_left at.is_stopped (is_at_end (g.state old.store).begun) h
called_wider g session request old at vacuums none has_none VacuumRunning h = absurd (true≢false (sym h ∙ vacuums))
called_wider g session request old at vacuums none has_none NoSession h = absurd (true≢false (sym h ∙ none))
called_wider g session request old at vacuums none has_none SessionBusy h = absurd (true≢false (sym h ∙ has_none))
called_wider g session request old at vacuums none has_none fault h = h

-- the call's end leaves of all this what was
pub gone_after : {S : Type 0} (g : Ghosts S) (session least_room : ℕ) (full : Bool) (old : StoreAndSlots S) (mid new : S)
    → g.backing new ≡ g.backing mid → (g.state new).acts ≡ (g.state mid).acts → (g.state new).frames ≡ (g.state mid).frames
    → causes_of_gone g session least_room full old new ≡ causes_of_gone g session least_room full old mid
gone_after g session least_room full old mid new backing acts frames = rw (backing, acts, frames) refl

pub asked_after : {S : Type 0} (g : Ghosts S) (session least_room : ℕ) (number : Option ℕ) (full : Bool) (ask : Ask) (old : StoreAndSlots S) (mid new : S) → LeavesAll g session mid new
    → causes_of_asked g session least_room number full ask old new ≡ causes_of_asked g session least_room number full ask old mid
asked_after g session least_room number full (AskInsert e) old mid new leaves =
    ap (λ (no_block : Bool). causes_of_inserted g session least_room true (λ r. (g.state new).format.unique) no_block (is_tall (g.state new)) old new)
    (blocks_same session number (g.state mid) (g.state new) leaves.state.format leaves.state.pages leaves.state.counted (leaves.numbers number))
    ∙ leaves_same (has_no_block session number (g.state mid))
  where
    leaves_same : (no_block : Bool) → causes_of_inserted g session least_room true (λ r. (g.state new).format.unique) no_block (is_tall (g.state new)) old new
        ≡ causes_of_inserted g session least_room true (λ r. (g.state mid).format.unique) no_block (is_tall (g.state mid)) old mid
    leaves_same no_block = rw (leaves.backing, leaves.state.acts, leaves.state.frames, leaves.state.format, leaves.state.pages) refl
asked_after g session least_room number full (AskScan range) old mid new leaves = gone_after g session least_room false old mid new leaves.backing leaves.state.acts leaves.state.frames
asked_after g session least_room number full ask old mid new leaves = gone_after g session least_room full old mid new leaves.backing leaves.state.acts leaves.state.frames

-- asking a scan for its next entry alone isn't refused
pub next_caused : (at : Circumstances) (sets : DeadSets) (op : Op) (range : Range) (answer : Answer) → asked_of sets op ≡ AskScan range → AnswersNext (Some op) answer → IsCaused at answer
next_caused at sets (Scan op) range (Gave e) asks h = tt
next_caused at sets (Scan op) range answer asks h = absurd h
next_caused at sets op range answer asks h = absurd cc
