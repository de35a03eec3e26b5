-- Why a call of an index is refused that runs steps, and what it answers if nothing hinders it.
use Rattle.schedule.specs.TheoremMoments.{IsRunningCall}
use Rattle.index_model.specs.declared.range.Range.{Range}
use Rattle.index_model.specs.Calls.{AskScan, Call}
use Rattle.page_codec.specs.declared.page.PageState.TheVariants.{HalfDead}
use Rattle.tree_acts.specs.Deletions.{state_in}
use Rattle.index_model.specs.Actions.{Action}
use Rattle.std.specs.Prelude.{◌≡◌, ◌≢◌, ℕ, ◌<◌, ◌≤◌, ◌||◌, nat_lt, nat_le, Bool, true, false, Option, Some, None, Result, Ok, Err, List, IfErr, IsOk}
use Rattle.index_model.specs.Faults.{Circumstances, HasCause}
use Rattle.index_model.specs.Row.{Row}
use Rattle.index_model.specs.declared.entry.Entry.{Entry}
use Rattle.index_model.specs.declared.fault.Fault.{Fault}
use Rattle.index_model.specs.declared.fault.Fault.TheVariants.{Exists, IndexFull, TooTall, KeyExists}
use Rattle.page_action.specs.Causes.{nothing_wrong, has_failed, is_at_end, other_row_is_there}
use Rattle.page_action.specs.States.{State}
use Rattle.page_action.specs.declared.page_store.PageStore.{Ghosts}
use Rattle.session_calls.specs.Ops.{IsFaultCaused}
use Rattle.session_calls.specs.Slots.{one_vacuums}
use Rattle.whole_calls.specs.Refusing.{another_runs, has_no_block, is_tall}
use Rattle.whole_calls.specs.declared.inserted.Inserted.{Inserted}
use Rattle.access_method.specs.Indexes.{has_entry}
use Rattle.access_method.specs.declared.index.Index.{Index}

-- What may be the cause if a call is refused between these moments. A device call failed meanwhile. The log
-- had failed before, or a counter is at its end. Another call still runs, of an open scan or in parts, and
-- may hold a page or a frame. There are fewer frames than one act needs. The log is never full, there is a
-- session, which has no other call, and no page is damaged.
abbrev pub causes_of_run : {S : Type 0} → Ghosts S → ℕ → Index S → S → Circumstances
causes_of_run g session old new = record nothing_wrong {
  device_failed = has_failed (g.backing old.store) (g.backing new);
  is_stopped = ((g.backing old.store).stopped || has_failed (g.backing old.store) (g.backing new)) || (is_at_end (g.state old.store).begun || nat_le 18446744073709551615 (g.state new).acts);
  is_held_by_another = λ b. another_runs old.calls.slots.items session;
  frames_are_pinned = another_runs old.calls.slots.items session || nat_lt (g.state new).frames 4;
}

-- ... of a bulk delete or a cleanup also that one goes on in parts
abbrev pub causes_of_vacuum : {S : Type 0} → Ghosts S → ℕ → Index S → S → Circumstances
causes_of_vacuum g session old new = record (causes_of_run g session old new) { vacuum_runs = one_vacuums old.calls.slots.items }

-- ... of an insert also that its entry was there, or another row of its key, that no block can be had, or
-- that the root is on level 31, as far as these say so
abbrev pub causes_of_aminsert : {S : Type 0} → Ghosts S → Bool → (Row → Bool) → Bool → Bool → Index S → S → Circumstances
causes_of_aminsert g was_there key_was no_block tall old new = record (causes_of_run g 63 old new) {
  entry_was_there = was_there;
  key_was_there = key_was;
  no_block_is_free = no_block;
  root_is_at_31 = tall;
}

-- no block is left for an insert, begun with so many calls before it: none is unused, and none may be used
-- again while it and the calls of open scans run
abbrev pub none_is_left : ℕ → State → Bool
none_is_left begun st = has_no_block 63 (Some begun) st

-- a refused insert had its cause, on a unique index maybe that another row of its key was there; and so had
-- what an insert leaves unfinished: never that its entry or its key was there
abbrev pub InsertHasCause : {S : Type 0} → Ghosts S → Entry → Result Inserted Fault → Index S → S → Type 0
InsertHasCause g entry (Ok inserted) old new =
    IsFaultCaused (causes_of_aminsert g false (λ r. false) (none_is_left (g.state old.store).begun (g.state new)) (is_tall (g.state new)) old new) inserted.unfinished
InsertHasCause g entry (Err fault) old new =
    HasCause (causes_of_aminsert g (has_entry g old.store entry) (other_row_is_there (g.state old.store) entry) (none_is_left (g.state old.store).begun (g.state new))
    (is_tall (g.state new)) old new) fault

-- Nothing hinders a call of this session between these moments: no other session's call runs, the log hasn't
-- failed before and no device call meanwhile, no counter is at its end, and there are 16 frames.
pub record NothingHinders {S : Type 0} (g : Ghosts S) (session : ℕ) (old : Index S) (new : S) : Type 0 where
  pub alone : another_runs old.calls.slots.items session ≡ false
  pub alive : (g.backing old.store).stopped ≡ false
  pub failures : (g.backing new).failures ≡ (g.backing old.store).failures
  pub begun : (g.state old.store).begun < 18446744073709551615
  pub acts : (g.state new).acts < 18446744073709551615
  pub frames : 16 ≤ (g.state old.store).frames

-- no call runs, of an open scan or in parts, and no page is half-dead
pub record NothingIsOpen {S : Type 0} (g : Ghosts S) (index : Index S) : Type 0 where
  pub alone : another_runs index.calls.slots.items 63 ≡ false
  pub none_dead : (block : ℕ) → state_in (g.state index.store) block ≢ HalfDead

-- why an insert is refused that nothing hinders: its entry was there, on a unique index another row of its
-- key, no block is left, or the root is on level 31
abbrev pub IsForWantOfSpace : {S : Type 0} → Ghosts S → Entry → S → S → Fault → Type 0
IsForWantOfSpace g entry old new Exists = has_entry g old entry ≡ true
IsForWantOfSpace g entry old new (KeyExists row) = other_row_is_there (g.state old) entry row ≡ true
IsForWantOfSpace g entry old new IndexFull = none_is_left (g.state old).begun (g.state new) ≡ true
IsForWantOfSpace g entry old new TooTall = is_tall (g.state new) ≡ true
IsForWantOfSpace g entry old new fault = ⊥

-- what it leaves unfinished, begun with so many calls before it, is so because no block is left, or the root
-- is on level 31
abbrev pub IsOfSpace : ℕ → State → Option Fault → Type 0
IsOfSpace begun st None = Unit {0}
IsOfSpace begun st (Some IndexFull) = none_is_left begun st ≡ true
IsOfSpace begun st (Some TooTall) = is_tall st ≡ true
IsOfSpace begun st (Some fault) = ⊥

-- what an insert answers that nothing hinders
abbrev pub InsertsUnhindered : {S : Type 0} → Ghosts S → Entry → Result Inserted Fault → S → S → Type 0
InsertsUnhindered g entry (Ok inserted) old new = IsOfSpace (g.state old).begun (g.state new) inserted.unfinished
InsertsUnhindered g entry (Err fault) old new = IsForWantOfSpace g entry old new fault

-- the running scan of the session gives no entry that is asked for one: that has its cause
abbrev pub GiveHasCause : {S : Type 0} → Ghosts S → ℕ → Result (Option Entry) Fault → Index S → S → (Entry → Bool) → List Action → List Call → Type 0
GiveHasCause g session result old new start history calls =
    (number : ℕ) (call : Call) (range : Range) → IsRunningCall calls session number call → call.ask ≡ AskScan range → IfErr result (HasCause (causes_of_run g session old new))

-- ... if nothing hinders it, it gives one, or None
abbrev pub GivesUnhindered : {S : Type 0} → Ghosts S → ℕ → Result (Option Entry) Fault → Index S → S → (Entry → Bool) → List Action → List Call → Type 0
GivesUnhindered g session result old new start history calls =
    (number : ℕ) (call : Call) (range : Range) → IsRunningCall calls session number call → call.ask ≡ AskScan range → NothingHinders g session old new → IsOk result
