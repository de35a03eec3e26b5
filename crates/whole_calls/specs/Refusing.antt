-- Why a call is refused that is run to its end, told from the moment before to the moment after it.
use Rattle.std.specs.Prelude.{◌≡◌, ℕ, suc, ◌&&◌, ◌||◌, ◌==◌, not, nat_lt, nat_le, Bool, true, false, Option, Some, None, Result, Ok, Err, List, [], ◌∷◌, slice_get, slice_set, is_none, IfErr}
use Rattle.index_model.specs.Calls.{Ask, AskInsert, AskScan, AskBulkDelete, AskCleanup, Call}
use Rattle.index_model.specs.Faults.{Circumstances, HasCause}
use Rattle.index_model.specs.Row.{Row}
use Rattle.index_model.specs.declared.entry.Entry.{Entry}
use Rattle.index_model.specs.declared.fault.Fault.{Fault}
use Rattle.index_model.specs.declared.range.Range.{Range}
use Rattle.page_action.specs.Causes.{nothing_wrong, has_failed, is_at_end}
use Rattle.page_action.specs.States.{State}
use Rattle.page_action.specs.declared.page_store.PageStore.{Ghosts}
use Rattle.tree_acts.specs.StepEffects.{is_out_of_blocks}
use Rattle.tree_acts.specs.Levels.{root_level}
use Rattle.session_calls.specs.Ops.{asks_vacuum, IsFaultCaused, IsCaused}
use Rattle.session_calls.specs.Sessions.{start_number, is_busy}
use Rattle.session_calls.specs.declared.answer.Answer.{Answer}
use Rattle.session_calls.specs.declared.op.Op.{Op}
use Rattle.session_calls.specs.declared.op.Op.TheVariants.{Insert, Scan, Bulk, Cleanup}
use Rattle.session_calls.specs.declared.request.Request.{Request}
use Rattle.session_calls.specs.declared.request.Request.TheVariants.{Insert as ToInsert}
use Rattle.session_calls.specs.Slots.{is_of_sets, slot_of, one_vacuums}
use Rattle.schedule.specs.TheoremMoments.{StoreAndSlots, Moment, IsRunningCall}
use Rattle.schedule.specs.MomentInvariants.{here_at}
use Rattle.vacuum.specs.BulkDeletes.{is_counted_out}
use Rattle.page_delete.specs.Ops.{cleanup_counted_out as is_cleanup_full}
use Rattle.whole_calls.specs.declared.inserted.Inserted.{Inserted}

-- one of these slots, which are those from this number on, runs a call, and is not the session's
abbrev pub others_run : ℕ → List (Option Op) → ℕ → Bool
others_run from [] session = false
others_run from (slot ∷ slots) session = (not (from == session) && is_busy slot) || others_run (suc from) slots session

-- another session runs a call, so that it may hold pages and frames
abbrev pub another_runs : List (Option Op) → ℕ → Bool
another_runs slots session = others_run 0 slots session

-- the session runs a bulk delete or a cleanup that has no room left to count one more page, or its entries
abbrev pub is_full_vacuum : Option Op → Bool
is_full_vacuum None = false
is_full_vacuum (Some (Insert op)) = false
is_full_vacuum (Some (Scan op)) = false
is_full_vacuum (Some (Bulk set op)) = is_counted_out op
is_full_vacuum (Some (Cleanup op)) = is_cleanup_full op

-- What may be the cause if a running call is refused between these moments, at a step or at the checkpoint
-- before it: a device call failed meanwhile; the log had failed before, or a counter is at its end; another
-- session runs a call, and may hold a page or a frame; there are fewer frames than one act needs. The log is
-- full only if less room is asked for than one image more than an act has.
abbrev pub causes_of_gone : {S : Type 0} → Ghosts S → ℕ → ℕ → Bool → StoreAndSlots S → S → Circumstances
causes_of_gone g session least_room counts_full old new = record nothing_wrong {
  device_failed = has_failed (g.backing old.store) (g.backing new);
  is_stopped = (g.backing old.store).stopped || (has_failed (g.backing old.store) (g.backing new) || (nat_le 18446744073709551615 (g.state new).acts || counts_full));
  is_held_by_another = λ b. another_runs old.slots session;
  log_is_full = nat_lt least_room 5;
  frames_are_pinned = another_runs old.slots session || nat_lt (g.state new).frames 4;
}

-- ... of an insert also these, as far as the arguments say so: its entry was there, or another row of its
-- key; no block can be had; the root is on level 31
abbrev pub causes_of_inserted : {S : Type 0} → Ghosts S → ℕ → ℕ → Bool → (Row → Bool) → Bool → Bool → StoreAndSlots S → S → Circumstances
causes_of_inserted g session least_room was_there key_was no_block tall old new = record (causes_of_gone g session least_room false old new) {
  entry_was_there = was_there;
  key_was_there = key_was;
  no_block_is_free = no_block;
  root_is_at_31 = tall;
}

-- with this start number, if any, of the session's call
abbrev pub with_number : ℕ → Option ℕ → State → State
with_number session number st = record st { running = slice_set st.running session number }

-- no block is unused, and none may be used again, while the session's call runs that has this start number
abbrev pub has_no_block : ℕ → Option ℕ → State → Bool
has_no_block session number st = is_out_of_blocks (with_number session number st)

-- the root is on level 31
abbrev pub is_tall : State → Bool
is_tall st = nat_le 31 (root_level st.pages)

-- What may be the cause if a call is refused that was asked this and has this start number, or leaves a split
-- unfinished. Of an insert it may also be one of these: its entry was there; on a unique index, its key was
-- there; no block can be had while it runs; the root is on level 31.
abbrev pub causes_of_asked : {S : Type 0} → Ghosts S → ℕ → ℕ → Option ℕ → Bool → Ask → StoreAndSlots S → S → Circumstances
causes_of_asked g session least_room number counts_full (AskInsert e) old new =
    causes_of_inserted g session least_room true (λ r. (g.state new).format.unique) (has_no_block session number (g.state new)) (is_tall (g.state new)) old new
causes_of_asked g session least_room number counts_full (AskScan range) old new = causes_of_gone g session least_room false old new
causes_of_asked g session least_room number counts_full (AskBulkDelete dead) old new = causes_of_gone g session least_room counts_full old new
causes_of_asked g session least_room number counts_full AskCleanup old new = causes_of_gone g session least_room counts_full old new

-- what the session's running call came to had its cause
abbrev pub CallIsCaused : {S : Type 0} → Ghosts S → ℕ → ℕ → Bool → Answer → Moment S → Moment S → Type 0
CallIsCaused g session least_room counts_full answer old new =
    (number : ℕ) (call : Call) → IsRunningCall old.calls session number call
    → IsCaused (causes_of_asked g session least_room (start_number (g.state old.store) session) counts_full call.ask (here_at old) new.store) answer

-- why a call is refused that is run from its beginning on: for one of these causes, or because it couldn't
-- begin: the log had failed or a counter was at its end; there is no such session, or no such set; the
-- session has a call; a bulk delete or a cleanup runs
abbrev pub causes_of_called : {S : Type 0} → Ghosts S → ℕ → Request → StoreAndSlots S → Circumstances → Circumstances
causes_of_called g session request old at = record at {
  is_stopped = at.is_stopped || is_at_end (g.state old.store).begun;
  vacuum_runs = asks_vacuum request && one_vacuums old.slots;
  no_such_session = not (is_of_sets old.sets request) || is_none (slice_get old.slots session);
  session_has_a_call = is_busy (slot_of old.slots session);
}

-- why an insert answers this that is run to its end in the session: a refusal has its cause, and so has the
-- fault in `unfinished`; the insert's start number was the count of calls begun before it
abbrev pub InsertCallIsCaused : {S : Type 0} → Ghosts S → ℕ → ℕ → Entry → StoreAndSlots S → S → Result Inserted Fault → Type 0
InsertCallIsCaused g session least_room entry old new (Ok inserted) =
    IsFaultCaused (causes_of_inserted g session least_room false (λ r. false) (has_no_block session (Some (g.state old.store).begun) (g.state new)) (is_tall (g.state new)) old new) inserted.unfinished
InsertCallIsCaused g session least_room entry old new (Err fault) =
    HasCause (causes_of_called g session (ToInsert entry) old
    (causes_of_inserted g session least_room true (λ r. (g.state new).format.unique) (has_no_block session (Some (g.state old.store).begun) (g.state new)) (is_tall (g.state new)) old new)) fault

-- what the session's running scan came to had its cause
abbrev pub ScanIsCaused : {S : Type 0} → Ghosts S → ℕ → ℕ → Answer → Moment S → Moment S → Type 0
ScanIsCaused g session least_room answer old new =
    (number : ℕ) (call : Call) (range : Range) → IsRunningCall old.calls session number call → call.ask ≡ AskScan range
    → IsCaused (causes_of_gone g session least_room false (here_at old) new.store) answer

-- why the session's running scan gives no entry that is asked for one
abbrev pub GiveIsCaused : {S : Type 0} → Ghosts S → ℕ → ℕ → StoreAndSlots S → S → Result (Option Entry) Fault → List Call → Type 0
GiveIsCaused g session least_room old new result calls =
    (number : ℕ) (call : Call) (range : Range) → IsRunningCall calls session number call → call.ask ≡ AskScan range → IfErr result (HasCause (causes_of_gone g session least_room false old new))
