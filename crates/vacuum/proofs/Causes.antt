-- Why a step of a bulk delete is refused.
use Rattle.std.proofs.Common.{◌≡◌, ℕ, ◌<◌, ◌≤◌, inl, inr, Bool, true, false, ◌||◌, List, [], refl, arith}
use Rattle.page_action.specs.Causes.{is_at_end}
use Rattle.descent.proofs.Working.{no_room_later, room_for_none}
use Rattle.vacuum.proofs.Imports.{or_cases, ltb-true, lt-ltb, HasCause, Row, Fault, Io, Stopped, Blocked, LogFull, is_held_by_another, Shared, Exclusive, State, Backing, causes_of_working}
use Rattle.vacuum.proofs.Imports.{causes_of_taking, causes_of_deleting, is_counted_out, BulkDeleteOp}
use Rattle.vacuum.proofs.Holding.{held_for_cleanup}

pub or_more : (a b c : Bool) → (a || b) ≡ true → (a || (b || c)) ≡ true
or_more true b c h = refl
or_more false true c h = refl
or_more false false c h = absurd cc

or_later : (a b c : Bool) → (b ≡ true → a ≡ true) → (b || c) ≡ true → (a || c) ≡ true
or_later true b c f h = refl
or_later false true c f h = absurd (let k : false ≡ true = f refl in cc)
or_later false false c f h = h

or_there : (a b c : Bool) → c ≡ true → (a || (b || c)) ≡ true
or_there true b c h = refl
or_there false true c h = refl
or_there false false c h = h

-- a page isn't read
pub reading_cause : (dead : Row → Bool) (st : State) (old new : Backing) (op : BulkDeleteOp) (fault : Fault)
    → HasCause (causes_of_working st old new op.session [] 1 false false) fault → HasCause (causes_of_deleting dead st old new op) fault
reading_cause dead st old new op Io h = h
reading_cause dead st old new op Stopped h = or_more old.stopped (is_at_end st.acts) (is_counted_out op) h
reading_cause dead st old new op (Blocked b) h = elim (or_cases (is_held_by_another st.table op.session b Shared) (is_held_by_another st.table op.session b Exclusive) h) [
  | inl shared ↦ held_for_cleanup st.table op.session b Shared shared
  | inr alone ↦ held_for_cleanup st.table op.session b Exclusive alone
]
reading_cause dead st old new op LogFull h = absurd (room_for_none old new h)
reading_cause dead st old new op fault h = h

-- what is a cause if a page was read before is one from before that
pub taking_later : (images : List ℕ) (st : State) (first second third : Backing) (op : BulkDeleteOp) (fault : Fault) → first.failures ≤ second.failures → (second.stopped ≡ true → first.stopped ≡ true)
    → second.promised ≡ first.promised → HasCause (causes_of_taking images st second third op) fault → HasCause (causes_of_taking images st first third op) fault
taking_later images st first second third op Io le alive promised h =
    let k : second.failures < third.failures = ltb-true second.failures third.failures h in
    lt-ltb first.failures third.failures (omega (arith, le, k))
taking_later images st first second third op Stopped le alive promised h = or_later first.stopped second.stopped (is_at_end st.acts || is_counted_out op) alive h
taking_later images st first second third op LogFull le alive promised h = no_room_later first second third images promised h
taking_later images st first second third op fault le alive promised h = h
