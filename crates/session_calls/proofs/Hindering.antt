-- Why an insert that is due is refused.
use Rattle.std.proofs.Common.{◌≡◌, ℕ, suc, Bool, true, false, nat_le, sym, ap, subst}
use Rattle.insert_split.proofs.Roomy.{straight_takes_none}
use Rattle.session_calls.proofs.Imports.{and_parts, HasCause, Fault, NoMemory, Io, Stopped, Blocked, Exists, KeyTooLong, BadRow, IndexFull, LogFull, NoFrame, VacuumRunning, NoSession, SessionBusy}
use Rattle.session_calls.proofs.Imports.{BadSuper, BadVersion, LogDamaged, PageDamaged, BadLimits, TooTall, DeviceTooSmall, KeyExists, State, Backing, IsInOrder, is_out_of_blocks, root_level}
use Rattle.session_calls.proofs.Imports.{InsertInvariant, InsertStays, takes_block_at, splits_root_at, causes_of_inserting, InsertOp, InsertIsDue, IsHindered, slot_after, Refused, Insert}
use Rattle.session_calls.proofs.Meeting.{other_row_is}

-- what isn't so can't be so
not_so : {b : Bool} → b ≡ false → b ≡ true → ⊥
not_so is h = cc

-- an insert that is due is refused neither for what is on its leaf, nor for the want of a block, nor for a
-- root that can't be split
pub insert_hindered : (old new : State) (first second : Backing) (before after : InsertOp) (left : ℕ) (fault : Fault) → IsInOrder old → InsertInvariant old before → InsertIsDue old before (suc left)
    → InsertStays old new before after → HasCause (causes_of_inserting old first second before.session before.entry before.at) fault
    → IsHindered old new (slot_after (Refused fault) (Insert after)) (suc left) fault
insert_hindered old new first second before after left fault order fits due stays cause = by fault cause
  where
    none : (takes_block_at old before.at ≡ false) × (splits_root_at old before.at ≡ false)
    none = straight_takes_none old before order fits due.position due.room

    still : InsertIsDue new after (suc left)
    still = subst (λ (st : State). InsertIsDue st after (suc left)) (sym stays.state) (subst (λ (op : InsertOp). InsertIsDue old op (suc left)) (sym stays.op) due)

    by : (f : Fault) → HasCause (causes_of_inserting old first second before.session before.entry before.at) f → IsHindered old new (slot_after (Refused f) (Insert after)) (suc left) f
    by (Blocked b) h = record { pages = ap (λ (st : State). st.pages) stays.state; format = ap (λ (st : State). st.format) stays.state; due = still }
    by Io h = tt
    by Stopped h = tt
    by LogFull h = tt
    by NoFrame h = tt
    by IndexFull h = absurd (not_so none.0 (and_parts (takes_block_at old before.at) (is_out_of_blocks old) h).0)
    by TooTall h = absurd (not_so none.1 (and_parts (splits_root_at old before.at) (nat_le 31 (root_level old.pages)) h).0)
    by Exists h = absurd (not_so due.absent h)
    by (KeyExists r) h = absurd (let other = other_row_is old before.entry r h in not_so (due.key_absent other.0 r) other.2)
    by NoMemory h = absurd cc
    by VacuumRunning h = absurd cc
    by NoSession h = absurd cc
    by SessionBusy h = absurd cc
    by (PageDamaged b) h = absurd cc
    by KeyTooLong h = absurd h
    by BadRow h = absurd h
    by BadSuper h = absurd h
    by BadVersion h = absurd h
    by LogDamaged h = absurd h
    by BadLimits h = absurd h
    by DeviceTooSmall h = absurd h
