-- What a bulk delete or a cleanup counts, step by step.
use Rattle.std.proofs.Common.{◌≡◌, ◌≢◌, if◌then◌else◌, ℕ, ◌+◌, ◌<◌, Bool, true, false, Option, Some, None, Ok, List, [], length, slice_get, refl, sym, ap, subst, ◌∙◌, arith, unwrap_or}
use Rattle.tree_shape.specs.Staying.{MustStay}
use Rattle.tree_acts.specs.Deletions.{StartsAreBelow}
use Rattle.whole_calls.proofs.Tellings.{runs_in_slot, one_runs}
use Rattle.whole_calls.proofs.Imports.{VacuumStats, entries_below, Live, HalfDead, nodes_of, AllIsCleaned, deleted_in, deleted_alike, IsAlone, OnlyNeededStay, Bulk, Cleanup, get_set_same}
use Rattle.whole_calls.proofs.Imports.{get_within, slot_found, Call, Entry, State, Ghosts, Page, DeadSets, asked_of, session_of, OpInvariant, CountsEntries, CountsPages, SparesLeaves, Answer}
use Rattle.whole_calls.proofs.Imports.{Going, Finished, Op, Moment, IsRunningCall, EventDoes, Fits, slot_of, SlotRuns, has_call, MovesCall, Steps, CallMoves, MovesOn, Followed, of_bulk_delete}
use Rattle.whole_calls.proofs.Imports.{of_cleanup, of_deleted, of_leaves, IsCountedAs, StatsCountAs, CountsThrough, IsInOrder, OthersRely, fits_after, running_of}
use Rattle.whole_calls.proofs.Imports.{Fault, Refused, RefusalChangesNothing, ends_call, op_after_call}
use Rattle.session_calls.specs.Sessions.{StepIsRefused}

-- nobody else holds a page, after a step of the session's call
pub alone_on : (session : ℕ) (old now : State) (one other : ℕ) → OthersRely session old now → one ≡ session → other ≡ session → IsAlone old one → IsAlone now other
alone_on session old now one other rely is_one is_other alone s differ =
    (rely s (λ e. differ (e ∙ sym is_other))).held ∙ alone s (λ e. differ (e ∙ is_one ∙ sym is_other))

-- what a step stands on, and what it does
record StepCounts (sets : DeadSets) (old now : State) (op : Op) (after : Option Op) (answer : Answer) : Type 0 where
  order : IsInOrder old
  starts : StartsAreBelow old
  fits : OpInvariant old op
  entries : CountsEntries sets old now (Some op) after answer
  deletes : CountsPages old now (Some op) after answer
  spares : SparesLeaves old now (Some op) after answer

-- a call that was asked the same runs the same, and counts on
counted_next : (what : Followed) (sets : DeadSets) (old now : State) (op next : Op) → (IsAlone old (session_of op) → IsAlone now (session_of next)) → asked_of sets next ≡ asked_of sets op
    → IsCountedAs what sets old (Some op) → StepCounts sets old now op (Some next) Going → IsCountedAs what sets now (Some next)
counted_next of_bulk_delete sets old now (Bulk set op) (Bulk place next) alone same counted h = (h.entries counted).0
counted_next of_cleanup sets old now (Cleanup op) (Cleanup next) alone same counted h = (h.entries h.fits counted).0
counted_next (of_deleted was) sets old now (Cleanup op) (Cleanup next) alone same counted h =
    (let d : deleted_in now + op.deleted ≡ deleted_in old + next.deleted = h.deletes in let c : deleted_in old ≡ was + op.deleted = counted in omega (arith, d, c))
counted_next of_leaves sets old now (Cleanup op) (Cleanup next) alone same counted h = (alone counted.0, (h.spares h.order h.starts h.fits counted.0 counted.1).0)
counted_next of_bulk_delete sets old now (Bulk set op) next alone same counted h = absurd cc
counted_next of_cleanup sets old now (Cleanup op) next alone same counted h = absurd cc
counted_next (of_deleted was) sets old now (Cleanup op) next alone same counted h = absurd cc
counted_next of_leaves sets old now (Cleanup op) next alone same counted h = absurd cc
counted_next what sets old now op next alone same counted h = absurd counted

-- ... and tells at its end
counted_last : (what : Followed) (sets : DeadSets) (old now : State) (op : Op) (after : Option Op) (stats : VacuumStats) → IsCountedAs what sets old (Some op)
    → StepCounts sets old now op after (Finished stats) → StatsCountAs what now (Ok stats)
counted_last of_bulk_delete sets old now (Bulk set op) after stats counted h = (h.entries counted).1
counted_last of_cleanup sets old now (Cleanup op) after stats counted h = (h.entries h.fits counted).1
counted_last (of_deleted was) sets old now (Cleanup op) after stats counted h =
    (let d : deleted_in now + op.deleted ≡ deleted_in old + stats.pages_newly_deleted = h.deletes in let c : deleted_in old ≡ was + op.deleted = counted in omega (arith, d, c))
counted_last of_leaves sets old now (Cleanup op) after stats counted h = (h.spares h.order h.starts h.fits counted.0 counted.1).1
counted_last what sets old now op after stats counted h = absurd counted

-- a step of the session's call
module _ {S : Type 0} (g : Ghosts S) (start : Entry → Bool) (session : ℕ) (x y : Moment S) (fits : Fits g start x) where
  abbrev old : State
  old = g.state x.store

  abbrev now : State
  now = g.state y.store

  -- what it runs fits the pages
  runs_fits : (op : Op) → slot_of x.slots session ≡ Some op → OpInvariant old op
  runs_fits op is =
      let runs : SlotRuns g start x session op = running_of fits session (Some op) (slot_found x.slots session op is) in
      runs.runs.fits

  -- what a step of it stands on, and does
  stands : (op : Op) (answer : Answer) → EventDoes g start (MovesCall session Steps) answer x y → slot_of x.slots session ≡ Some op → StepCounts x.sets old now op (slot_of y.slots session) answer
  stands op answer does is = record {
    order = fits.invariant.order;
    starts = fits.invariant.starts;
    fits = runs_fits op is;
    entries = subst (λ (o : Option Op). CountsEntries x.sets old now o (slot_of y.slots session) answer) is does.also.followed.each.entries;
    deletes = subst (λ (o : Option Op). CountsPages old now o (slot_of y.slots session) answer) is does.also.followed.each.deletes;
    spares = subst (λ (o : Option Op). SparesLeaves old now o (slot_of y.slots session) answer) is does.also.followed.each.spares;
  }

  -- ... that goes on
  goes_on : (what : Followed) (op : Op) → EventDoes g start (MovesCall session Steps) Going x y → slot_of x.slots session ≡ Some op
      → IsCountedAs what x.sets old (Some op) → IsCountedAs what x.sets now (slot_of y.slots session)
  goes_on what op does slot counted = of (has_call x.slots session) does.also.happens
    where
      on : CallMoves g start session Going x y → IsCountedAs what x.sets now (slot_of y.slots session)
      on c =
          let r = runs_in_slot g start x fits session c.number c.call c.is in
          let same : r.2.call ≡ c.call = (one_runs g start x fits session c.number r.2.number c.call r.2.call c.is r.2.is).1 in
          let was : slot_of x.slots session ≡ Some r.0 = ap (λ (o : Option (Option Op)). unwrap_or o None) r.1 in
          let op_is : r.0 ≡ op = cc in
          let ask : c.call.ask ≡ asked_of x.sets op = ap (λ (k : Call). k.ask) (sym same) ∙ r.2.runs.ask ∙ ap (λ (o : Op). asked_of x.sets o) op_is in
          let runs : IsRunningCall y.calls session c.number c.after = record {
            found = ap (λ (l : List Call). slice_get l c.number) c.calls_is ∙ get_set_same x.calls c.number c.after (get_within x.calls c.number c.call c.is.found);
            session_is = ap (λ (k : Call). k.session) c.told ∙ c.is.session_is;
            running = ap (λ (k : Call). k.ending) c.told ∙ c.is.running;
          } in
          let q = runs_in_slot g start y (fits_after does) session c.number c.after runs in
          let then_same : q.2.call ≡ c.after = (one_runs g start y (fits_after does) session c.number q.2.number c.after q.2.call runs q.2.is).1 in
          let is : slot_of y.slots session ≡ Some q.0 = ap (λ (o : Option (Option Op)). unwrap_or o None) q.1 in
          let asked : asked_of x.sets q.0 ≡ asked_of x.sets op =
          ap (λ (l : DeadSets). asked_of l q.0) (sym does.means.sets) ∙ sym q.2.runs.ask ∙ ap (λ (k : Call). k.ask) then_same ∙ ap (λ (k : Call). k.ask) c.told ∙ ask in
          subst (λ (o : Option Op). IsCountedAs what x.sets now o) (sym is)
          (counted_next what x.sets old now op q.0
          (alone_on session old now (session_of op) (session_of q.0) c.others (ap session_of (sym op_is) ∙ r.2.runs.session ∙ r.2.is.session_is) (q.2.runs.session ∙ q.2.is.session_is))
          asked counted (subst (λ (o : Option Op). StepCounts x.sets old now op o Going) is (stands op Going does slot)))

      of : (b : Bool) → MovesOn g start b session Going x y → IsCountedAs what x.sets now (slot_of y.slots session)
      of true c = on c
      of false s = absurd (let e = s.refused in cc)

  -- ... that is refused, and hasn't ended it
  stays : (what : Followed) (op : Op) (fault : Fault) → StepIsRefused old now op (slot_of y.slots session) fault → slot_of y.slots session ≢ None
      → IsCountedAs what x.sets old (Some op) → IsCountedAs what x.sets now (slot_of y.slots session)
  stays what op fault refused runs counted = of (ends_call fault) refused.state refused.slot_is
    where
      of : (ends : Bool) → now ≡ (if ends then op_after_call op old else old) → slot_of y.slots session ≡ (if ends then None else Some op) → IsCountedAs what x.sets now (slot_of y.slots session)
      of true state slot = absurd (runs slot)
      of false state slot = rw (state, slot) counted

  -- what is counted is what the session runs
  with_op : (what : Followed) (Then : Type 0) → ((op : Op) → slot_of x.slots session ≡ Some op → IsCountedAs what x.sets old (Some op) → Then)
      → (o : Option Op) → slot_of x.slots session ≡ o → IsCountedAs what x.sets old o → Then
  with_op what Then so None is counted = absurd counted
  with_op what Then so (Some op) is counted = so op is counted

  pub step_counts : (what : Followed) (answer : Answer) → EventDoes g start (MovesCall session Steps) answer x y
      → CountsThrough what x.sets old now (slot_of x.slots session) (slot_of y.slots session) answer
  step_counts what Going does = λ counted. with_op what (IsCountedAs what x.sets now (slot_of y.slots session)) (λ op is so. goes_on what op does is so) (slot_of x.slots session) refl counted
  step_counts what (Finished stats) does = λ counted.
      with_op what (StatsCountAs what now (Ok stats))
      (λ op is so. counted_last what x.sets old now op (slot_of y.slots session) stats so (stands op (Finished stats) does is)) (slot_of x.slots session) refl counted
  step_counts what (Refused fault) does = λ runs counted.
      with_op what (IsCountedAs what x.sets now (slot_of y.slots session))
      (λ op is so. stays what op fault (subst (λ (o : Option Op). RefusalChangesNothing old now o (slot_of y.slots session) (Refused fault)) is does.also.always.refused) runs so)
      (slot_of x.slots session) refl counted
  step_counts what answer does = tt

-- what was counted up to the step is counted on by it
pub counts_from : (what : Followed) (sets : DeadSets) (one two three : State) (before between after : Option Op) (answer : Answer)
    → (IsCountedAs what sets one before → IsCountedAs what sets two between) → CountsThrough what sets two three between after answer → CountsThrough what sets one three before after answer
counts_from what sets one two three before between after Going first last = λ so. last (first so)
counts_from what sets one two three before between after (Finished stats) first last = λ so. last (first so)
counts_from what sets one two three before between after (Refused fault) first last = λ runs so. last runs (first so)
counts_from what sets one two three before between after answer first last = tt

-- what is clean is of the pages alone
cleaned_on : (new last : State) (count : ℕ) → last.pages ≡ new.pages → AllIsCleaned new count → AllIsCleaned last count
cleaned_on new last count same h = record {
  counted = h.counted ∙ ap (λ (ps : List Page). entries_below ps (length ps)) (sym same);
  none_dead = λ block inside dead. h.none_dead block (subst (λ (ps : List Page). block < length ps) same inside) (subst (λ (ps : List Page). (nodes_of ps block).state ≡ HalfDead) same dead);
}

-- so are the leaves that have to stay
spared_on : (new last : State) → last.pages ≡ new.pages → OnlyNeededStay new → OnlyNeededStay last
spared_on new last same h block e = subst (λ (ps : List Page). MustStay (nodes_of ps) (length ps) block) (sym same) (h block (record {
  above = e.above;
  inside = subst (λ (ps : List Page). block < length ps) same e.inside;
  alive = subst (λ (ps : List Page). (nodes_of ps block).state ≡ Live) same e.alive;
  leaf = subst (λ (ps : List Page). (nodes_of ps block).level ≡ 0) same e.leaf;
  empty = subst (λ (ps : List Page). (nodes_of ps block).entries ≡ []) same e.empty;
}))

pub tells_on : (what : Followed) (new last : State) (stats : VacuumStats) → last.pages ≡ new.pages → StatsCountAs what new (Ok stats) → StatsCountAs what last (Ok stats)
tells_on of_bulk_delete new last stats same h = h ∙ ap (λ (ps : List Page). entries_below ps (length ps)) (sym same)
tells_on of_cleanup new last stats same h = cleaned_on new last stats.num_index_tuples same h
tells_on (of_deleted was) new last stats same h = deleted_alike new last same ∙ h
tells_on of_leaves new last stats same h = spared_on new last same h
