-- Steps that read and change nothing but the call, and those that act after their readings.
use Rattle.std.proofs.Common.{◌≡◌, ℕ, suc, ◌*◌, ◌<◌, ◌≤◌, ◌||◌, Bool, true, false, None, Result, Ok, Err, refl, sym, ap, subst, inl, ◌∙◌, arith}
use Rattle.index_model.specs.declared.fault.Fault.TheVariants.{NoMemory, Io, Stopped, Blocked, Exists, KeyTooLong, BadRow, IndexFull, LogFull, NoFrame, VacuumRunning, NoSession, SessionBusy, BadSuper, BadVersion, LogDamaged, PageDamaged, BadLimits, TooTall, DeviceTooSmall, KeyExists}
use Rattle.page_action.specs.Causes.{is_at_end}
use Rattle.split_finish.proofs.Imports.{ltb-true, lt-ltb, OnErr, HasCause, Fault, State, Backing, Continues, Ghosts, IsInOrder, IsOneActAtMost, is_incomplete, one_nothing, nothing_else}
use Rattle.split_finish.proofs.Imports.{no_room_later, walk_length, FinishInvariant, OnlyTargetsAreIncomplete, targets_of, finish_left, Turned, causes_of_turned, FinishSteps, FinishStays}
use Rattle.split_finish.proofs.Imports.{FinishStepped, finish_blocks, causes_of_finishing, Page, FinishActs, IsReadToChange, MeetsParent, FinishAt, FinishOp, FinishStep, Going, Done, Target}

-- a step that is refused before anything is changed
pub refuses : {S : Type 0} (g : Ghosts S) (op : FinishOp) (old new : S) (fault : Fault) → Continues g.follows old new → g.state new ≡ g.state old
    → ((g.backing old).stopped ≡ true → fault ≡ Stopped)
    → ((g.backing new).honest ≡ true → IsInOrder (g.state old) → FinishInvariant (g.state old) op
    → HasCause (causes_of_finishing (g.state old) (g.backing old) (g.backing new) op.session op.target op.at) fault)
    → FinishSteps g op op old new (Err fault)
refuses g op old new fault steps same stops cause = record {
  steps = steps;
  session = refl;
  kept = one_nothing (g.state old) (g.state new) same;
  table = ap (λ (st : State). st.table) same;
  refused = record { state = same; op = refl };
  stopped = λ h. ap Err (stops h);
  less = λ honest is. absurd cc;
  over = λ honest is. absurd cc;
  stepped = cause;
}

-- why a turn is refused, a step is
pub turn_cause : (st : State) (first third : Backing) (session : ℕ) (target : Target) (at : FinishAt) (fault : Fault) → HasCause (causes_of_turned st target at) fault
    → HasCause (causes_of_finishing st first third session target at) fault
turn_cause st first third session target at TooTall h = h
turn_cause st first third session target at NoMemory h = h
turn_cause st first third session target at Io h = absurd cc
turn_cause st first third session target at Stopped h = absurd cc
turn_cause st first third session target at (Blocked b) h = absurd cc
turn_cause st first third session target at Exists h = h
turn_cause st first third session target at KeyTooLong h = h
turn_cause st first third session target at BadRow h = h
turn_cause st first third session target at IndexFull h = absurd cc
turn_cause st first third session target at LogFull h = absurd cc
turn_cause st first third session target at NoFrame h = absurd cc
turn_cause st first third session target at VacuumRunning h = h
turn_cause st first third session target at NoSession h = h
turn_cause st first third session target at SessionBusy h = h
turn_cause st first third session target at BadSuper h = h
turn_cause st first third session target at BadVersion h = h
turn_cause st first third session target at LogDamaged h = h
turn_cause st first third session target at (PageDamaged b) h = h
turn_cause st first third session target at BadLimits h = h
turn_cause st first third session target at DeviceTooSmall h = h
turn_cause st first third session target at (KeyExists r) h = h

-- a step that reads, and turns
pub turns : {S : Type 0} (g : Ghosts S) (before after : FinishOp) (old new : S) (result : Result FinishStep Fault) → Continues g.follows old new → g.state new ≡ g.state old
    → after.session ≡ before.session → OnErr result (after ≡ before) → ((g.backing old).stopped ≡ true → ⊥)
    → ((g.backing new).honest ≡ true → Turned (g.state old) before after result)
    → FinishSteps g before after old new result
turns g before after old new (Ok Going) steps same session kept runs turned = record {
  steps = steps;
  session = session;
  kept = one_nothing (g.state old) (g.state new) same;
  table = ap (λ (st : State). st.table) same;
  refused = tt;
  stopped = λ h. absurd (runs h);
  less = λ honest is acts. subst (λ (st : State). finish_left st.format.pages st.pages after < finish_left (g.state old).format.pages (g.state old).pages before) (sym same) (turned honest).less;
  over = λ honest is. absurd cc;
  stepped = λ honest order fits. record {
    effect = None;
    shapes = inl refl;
    does = nothing_else before.session (g.state old) (g.state new) same order;
    table = ap (λ (st : State). st.table) same;
    fits = subst (λ (st : State). FinishInvariant st after) (sym same) ((turned honest).fits order.tree fits);
    flags = λ h. subst (λ (st : State). OnlyTargetsAreIncomplete st (targets_of after)) (sym same) ((turned honest).flags h);
  };
}
turns g before after old new (Ok Done) steps same session kept runs turned = record {
  steps = steps;
  session = session;
  kept = one_nothing (g.state old) (g.state new) same;
  table = ap (λ (st : State). st.table) same;
  refused = tt;
  stopped = λ h. absurd (runs h);
  less = λ honest is. absurd cc;
  over = λ honest is acts. (turned honest).over;
  stepped = λ honest order fits. record {
    effect = None;
    shapes = inl refl;
    does = nothing_else before.session (g.state old) (g.state new) same order;
    table = ap (λ (st : State). st.table) same;
    flags = λ h. subst (λ (st : State). (block : ℕ) → is_incomplete st block ≡ false) (sym same) ((turned honest).flags h);
  };
}
turns g before after old new (Err fault) steps same session kept runs turned = record {
  steps = steps;
  session = session;
  kept = one_nothing (g.state old) (g.state new) same;
  table = ap (λ (st : State). st.table) same;
  refused = record { state = same; op = kept };
  stopped = λ h. absurd (runs h);
  less = λ honest is. absurd cc;
  over = λ honest is. absurd cc;
  stepped = λ honest order fits. turn_cause (g.state old) (g.backing old) (g.backing new) before.session before.target before.at fault (turned honest order.tree fits);
}

or_first : (a b c : Bool) → (a ≡ true → c ≡ true) → (a || b) ≡ true → (c || b) ≡ true
or_first true b c f h = rw (f refl) refl
or_first false b true f h = refl
or_first false b false f h = h

-- a cause after the readings is one from the start
pub earlier_cause : (st : State) (first second third : Backing) (session : ℕ) (target : Target) (at : FinishAt) (fault : Fault)
    → first.failures ≤ second.failures → (second.stopped ≡ true → first.stopped ≡ true) → second.promised ≡ first.promised
    → HasCause (causes_of_finishing st second third session target at) fault → HasCause (causes_of_finishing st first third session target at) fault
earlier_cause st first second third session target at Io le alive promised h =
    (let k : second.failures < third.failures = ltb-true second.failures third.failures h in lt-ltb first.failures third.failures (omega arith))
earlier_cause st first second third session target at Stopped le alive promised h = or_first second.stopped (is_at_end st.acts) first.stopped alive h
earlier_cause st first second third session target at LogFull le alive promised h = no_room_later first second third (finish_blocks st target at) promised h
earlier_cause st first second third session target at NoFrame le alive promised h = h
earlier_cause st first second third session target at TooTall le alive promised h = h
earlier_cause st first second third session target at IndexFull le alive promised h = h
earlier_cause st first second third session target at (Blocked b) le alive promised h = h
earlier_cause st first second third session target at (PageDamaged b) le alive promised h = h
earlier_cause st first second third session target at NoMemory le alive promised h = h
earlier_cause st first second third session target at Exists le alive promised h = h
earlier_cause st first second third session target at KeyTooLong le alive promised h = h
earlier_cause st first second third session target at BadRow le alive promised h = h
earlier_cause st first second third session target at VacuumRunning le alive promised h = h
earlier_cause st first second third session target at NoSession le alive promised h = h
earlier_cause st first second third session target at SessionBusy le alive promised h = h
earlier_cause st first second third session target at BadSuper le alive promised h = h
earlier_cause st first second third session target at BadVersion le alive promised h = h
earlier_cause st first second third session target at LogDamaged le alive promised h = h
earlier_cause st first second third session target at BadLimits le alive promised h = h
earlier_cause st first second third session target at DeviceTooSmall le alive promised h = h
earlier_cause st first second third session target at (KeyExists r) le alive promised h = h

-- what a step did after its readings, it did from the start
earlier_stepped : (old new : State) (first second third : Backing) (before after : FinishOp) (result : Result FinishStep Fault)
    → first.failures ≤ second.failures → (second.stopped ≡ true → first.stopped ≡ true) → second.promised ≡ first.promised
    → FinishStepped old second new third before after result → FinishStepped old first new third before after result
earlier_stepped old new first second third before after (Ok Going) le alive promised h = h
earlier_stepped old new first second third before after (Ok Done) le alive promised h = h
earlier_stepped old new first second third before after (Err fault) le alive promised h =
    earlier_cause old first second third before.session before.target before.at fault le alive promised h

-- the readings before
pub record HasRead {S : Type 0} (g : Ghosts S) (old mid : S) : Type 0 where
  pub steps : Continues g.follows old mid
  pub same : g.state mid ≡ g.state old
  pub failures : (g.backing old).failures ≤ (g.backing mid).failures
  pub alive : (g.backing mid).stopped ≡ true → (g.backing old).stopped ≡ true
  pub promised : (g.backing mid).promised ≡ (g.backing old).promised

-- a further reading, and then the act
pub after_more : {S : Type 0} (g : Ghosts S) (before after : FinishOp) (old mid new : S) (result : Result FinishStep Fault) → HasRead g old mid
    → FinishActs g before after mid new result → FinishActs g before after old new result
after_more g before after old mid new result read acts = record {
  steps = λ first h. acts.steps first (read.steps first h);
  session = acts.session;
  kept = subst (λ (st : State). IsOneActAtMost st (g.state new)) read.same acts.kept;
  table = subst (λ (st : State). (g.state new).table ≡ st.table) read.same acts.table;
  refused = subst (λ (st : State). OnErr result (FinishStays st (g.state new) before after)) read.same acts.refused;
  less = λ honest is same. subst (λ (st : State). finish_left (g.state new).format.pages (g.state new).pages after < finish_left st.format.pages st.pages before) read.same
      (acts.less honest is (same ∙ ap (λ (st : State). st.acts) (sym read.same)));
  over = λ honest is same. subst (λ (st : State). 34 * suc (walk_length st.format.pages) ≤ finish_left st.format.pages st.pages before) read.same
      (acts.over honest is (same ∙ ap (λ (st : State). st.acts) (sym read.same)));
  stepped = λ honest order fits. earlier_stepped (g.state old) (g.state new) (g.backing old) (g.backing mid) (g.backing new) before after result read.failures read.alive read.promised
      (subst (λ (st : State). FinishStepped st (g.backing mid) (g.state new) (g.backing new) before after result) read.same
      (acts.stepped honest (subst IsInOrder (sym read.same) order) (subst (λ (st : State). FinishInvariant st before) (sym read.same) fits)));
}

-- the whole step, from its readings on
pub follows_read : {S : Type 0} (g : Ghosts S) (before after : FinishOp) (old mid new : S) (result : Result FinishStep Fault) → HasRead g old mid → ((g.backing old).stopped ≡ true → ⊥)
    → FinishActs g before after mid new result → FinishSteps g before after old new result
follows_read g before after old mid new result read runs acts =
    let all = after_more g before after old mid new result read acts in
    record {
      steps = all.steps;
      session = all.session;
      kept = all.kept;
      table = all.table;
      refused = all.refused;
      stopped = λ h. absurd (runs h);
      less = all.less;
      over = all.over;
      stepped = all.stepped;
    }

-- a step after its readings that is refused, with nothing changed
pub acts_not : {S : Type 0} (g : Ghosts S) (op : FinishOp) (old new : S) (fault : Fault) → Continues g.follows old new → g.state new ≡ g.state old
    → ((g.backing new).honest ≡ true → IsInOrder (g.state old) → FinishInvariant (g.state old) op
    → HasCause (causes_of_finishing (g.state old) (g.backing old) (g.backing new) op.session op.target op.at) fault)
    → FinishActs g op op old new (Err fault)
acts_not g op old new fault steps same cause = record {
  steps = steps;
  session = refl;
  kept = one_nothing (g.state old) (g.state new) same;
  table = ap (λ (st : State). st.table) same;
  refused = record { state = same; op = refl };
  less = λ honest is. absurd cc;
  over = λ honest is. absurd cc;
  stepped = cause;
}

-- a turn after its readings
pub turns_after : {S : Type 0} (g : Ghosts S) (before after : FinishOp) (old : S) (result : Result FinishStep Fault)
    → after.session ≡ before.session → OnErr result (after ≡ before)
    → ((g.backing old).honest ≡ true → Turned (g.state old) before after result)
    → FinishActs g before after old old result
turns_after g before after old (Ok Going) session kept turned = record {
  steps = λ first h. h;
  session = session;
  kept = one_nothing (g.state old) (g.state old) refl;
  table = refl;
  refused = tt;
  less = λ honest is acts. (turned honest).less;
  over = λ honest is. absurd cc;
  stepped = λ honest order fits. record {
    effect = None;
    shapes = inl refl;
    does = nothing_else before.session (g.state old) (g.state old) refl order;
    table = refl;
    fits = (turned honest).fits order.tree fits;
    flags = (turned honest).flags;
  };
}
turns_after g before after old (Ok Done) session kept turned = record {
  steps = λ first h. h;
  session = session;
  kept = one_nothing (g.state old) (g.state old) refl;
  table = refl;
  refused = tt;
  less = λ honest is. absurd cc;
  over = λ honest is acts. (turned honest).over;
  stepped = λ honest order fits. record {
    effect = None;
    shapes = inl refl;
    does = nothing_else before.session (g.state old) (g.state old) refl order;
    table = refl;
    flags = (turned honest).flags;
  };
}
turns_after g before after old (Err fault) session kept turned = record {
  steps = λ first h. h;
  session = session;
  kept = one_nothing (g.state old) (g.state old) refl;
  table = refl;
  refused = record { state = refl; op = kept };
  less = λ honest is. absurd cc;
  over = λ honest is. absurd cc;
  stepped = λ honest order fits. turn_cause (g.state old) (g.backing old) (g.backing old) before.session before.target before.at fault (turned honest order.tree fits);
}

-- a page as it was read, after a further reading
still_read : (old new : State) (first second : Backing) (session block : ℕ) (page : Page) → new ≡ old → (second.honest ≡ true → first.honest ≡ true)
    → IsReadToChange old first.honest session block page
    → IsReadToChange new second.honest session block page
still_read old new first second session block page same honest read = subst (λ (st : State). IsReadToChange st second.honest session block page) (sym same) (record {
  found = λ h. read.found (honest h);
  stored = read.stored;
  free = read.free;
})

pub still_meets : (old new : State) (first second : Backing) (op : FinishOp) (page parent : Page) → new ≡ old
    → (second.honest ≡ true → first.honest ≡ true) → MeetsParent old first.honest op page parent
    → MeetsParent new second.honest op page parent
still_meets old new first second op page parent same honest meets = record {
  position = meets.position;
  at = meets.at;
  read = still_read old new first second op.session op.target.block page same honest meets.read;
  read_parent = still_read old new first second op.session meets.position.block parent same honest meets.read_parent;
  ready = meets.ready;
}
