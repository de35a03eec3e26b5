-- Each step of a call that goes on leaves fewer, and there are fewer than 2^64 - 1.
use Rattle.std.proofs.Common.{◌≡◌, ℕ, zero, suc, ◌+◌, ◌*◌, ◌<◌, ◌≤◌, Bool, true, false, Option, Some, None, List, ◌++◌, length, slice_get, refl, sym, ap, subst, arith, ◌∙◌, unwrap_or}
use Rattle.tree_acts.specs.Weights.{weight_of, weight_up_to, weight}
use Rattle.whole_calls.proofs.Given.{owes}
use Rattle.whole_calls.proofs.Tellings.{runs_in_slot, one_runs}
use Rattle.whole_calls.proofs.Imports.{append-nil, Node, nodes_of, MovesFlags, Insert, Scan, Bulk, Cleanup, work_bounded, get_set_same, get_within, Effect, Add, Shape, Action, contents_after, Ask}
use Rattle.whole_calls.proofs.Imports.{AskInsert, AskScan, AskBulkDelete, AskCleanup, Call, Entry, Format, State, Ghosts, Page, DeadSets, acts_of, asked_of, add_of, IsAsked, MovesShape, add_after}
use Rattle.whole_calls.proofs.Imports.{work_in, OwesLess, Answer, Going, Op, Moment, IsRunningCall, EventDoes, Fits, slot_of, has_call, MovesCall, Steps, CallMoves, MovesOn, Laws, brought_by}
use Rattle.whole_calls.proofs.Imports.{acts_left, steps_left, TakesFewer, fits_after}

weight_low : (split : Bool) (level : ℕ) → weight_of split level ≤ 32
weight_low true level = omega arith
weight_low false level = omega arith

weights_low : (at : ℕ → Node) (n : ℕ) → weight_up_to at n ≤ n * 32
weights_low at zero = omega arith
weights_low at (suc n) =
    let a = weights_low at n in
    let b = weight_low (at n).split (at n).level in
    omega (arith, a, b)

brought_low : (added : Option ℕ) → brought_by added ≤ 33
brought_low None = omega arith
brought_low (Some a) = omega arith

acts_low : (st : State) (slot : Option Op) → acts_left st slot ≤ weight st + 33
acts_low st None = omega arith
acts_low st (Some (Insert op)) = (let b = brought_low op.added in omega (arith, b))
acts_low st (Some (Scan op)) = omega arith
acts_low st (Some (Bulk set op)) = omega arith
acts_low st (Some (Cleanup op)) = omega arith

-- there are fewer steps than are counted
pub steps_few : {S : Type 0} (g : Ghosts S) (laws : Laws g) (start : Entry → Bool) (now : Moment S) (session : ℕ) → Fits g start now → (g.state now.store).format.pages ≤ 65536
    → steps_left (g.state now.store) (slot_of now.slots session) < 18446744073709551615
steps_few g laws start now session fits low =
    let work = work_bounded g start now fits low session in
    let few = laws.few now.store in
    let heavy = weights_low (nodes_of (g.state now.store).pages) (length (g.state now.store).pages) in
    let acts = acts_low (g.state now.store) (slot_of now.slots session) in
    omega (arith, work, few, low, heavy, acts)

-- how many actions a call may append, by what it was asked and by its Add
abbrev left_by : State → Ask → Option ℕ → ℕ
left_by st (AskInsert e) added = weight st + brought_by added
left_by st (AskScan range) added = weight st
left_by st (AskBulkDelete dead) added = 0
left_by st AskCleanup added = 0

left_is : (st : State) (sets : DeadSets) (op : Op) → acts_left st (Some op) ≡ left_by st (asked_of sets op) (add_of op)
left_is st sets (Insert op) = refl
left_is st sets op = refl

-- what the session runs may append what its running call may
slot_left : {S : Type 0} (g : Ghosts S) (start : Entry → Bool) (now : Moment S) (session number : ℕ) (call : Call) (st : State) → Fits g start now → IsRunningCall now.calls session number call
    → acts_left st (slot_of now.slots session) ≡ left_by st call.ask call.added
slot_left g start now session number call st fits is =
    let r = runs_in_slot g start now fits session number call is in
    let same : r.2.call ≡ call = (one_runs g start now fits session number r.2.number call r.2.call is r.2.is).1 in
    let slot : slot_of now.slots session ≡ Some r.0 = ap (λ (o : Option (Option Op)). unwrap_or o None) r.1 in
    ap (acts_left st) slot ∙ left_is st now.sets r.0 ∙ ap (λ (a : Ask). left_by st a (add_of r.0)) (sym r.2.runs.ask) ∙ ap (λ (o : Option ℕ). left_by st r.2.call.ask o) (sym r.2.runs.added)
    ∙ ap (λ (c : Call). left_by st c.ask c.added) same

-- the steps between its actions are counted anew
abbrev IsCountedAnew : Op → Type 0
IsCountedAnew (Insert op) = Unit {0}
IsCountedAnew (Scan op) = Unit {0}
IsCountedAnew (Bulk set op) = ⊥
IsCountedAnew (Cleanup op) = ⊥

-- an event that appends an action leaves fewer to be appended
acts_fewer : (was_there : Entry → Bool) (sets : DeadSets) (op : Op) (added : Option ℕ) (count : ℕ) (effect : Effect) (old new : State)
    → IsCountedAnew op → IsAsked was_there (asked_of sets op) added (Some effect) → MovesFlags (Some effect) old new
    → left_by new (asked_of sets op) (add_after added (suc count) (Some effect)) < left_by old (asked_of sets op) added
acts_fewer was_there sets (Insert op) None count (Add e) old new anew asked flags = (let m = flags.most in omega (arith, m))
acts_fewer was_there sets (Insert op) (Some a) count (Add e) old new anew asked flags = absurd (let n : Some a ≡ None = asked.0.1 in cc)
acts_fewer was_there sets (Insert op) added count Shape old new anew asked flags = (let l = flags.less in omega (arith, l))
acts_fewer was_there sets (Bulk set op) added count effect old new anew asked flags = absurd anew
acts_fewer was_there sets (Cleanup op) added count effect old new anew asked flags = absurd anew
acts_fewer was_there sets op added count effect old new anew asked flags = absurd asked.0

-- pages that weigh the same leave as much
same_left : (old new : State) (ask : Ask) (added : Option ℕ) → weight new ≡ weight old → left_by new ask added ≡ left_by old ask added
same_left old new (AskInsert e) added same = ap (λ (n : ℕ). n + brought_by added) same
same_left old new (AskScan range) added same = same
same_left old new ask added same = refl

-- a step that goes on leaves fewer
module _ {S : Type 0} (g : Ghosts S) (start : Entry → Bool) (session : ℕ) (x y : Moment S) (honest : (g.backing y.store).honest ≡ true)
    (fits : Fits g start x) (does : EventDoes g start (MovesCall session Steps) Going x y)
    (low : (g.state x.store).format.pages ≤ 65536) where
  abbrev old : State
  old = g.state x.store

  abbrev now : State
  now = g.state y.store

  abbrev fewer_left : Type 0
  fewer_left = steps_left now (slot_of y.slots session) < steps_left old (slot_of x.slots session)

  low_now : now.format.pages ≤ 65536
  low_now = subst (λ (l : Format). l.pages ≤ 65536) (sym does.also.quiet.format) low

  -- the step leaves less
  less_by : OwesLess (slot_of x.slots session) old now → work_in now (slot_of y.slots session) < work_in old (slot_of x.slots session)
  less_by owed = does.also.always.less honest owed

  goes_by : (c : CallMoves g start session Going x y) (op : Op) (effect : Option Effect) → IsCountedAnew op → c.call.ask ≡ asked_of x.sets op → y.history ≡ x.history ++ acts_of c.number effect
      → IsAsked (contents_after start x.history) c.call.ask c.call.added effect → MovesFlags effect old now
      → acts_left old (slot_of x.slots session) ≡ left_by old c.call.ask c.call.added
      → acts_left now (slot_of y.slots session) ≡ left_by now c.call.ask (add_after c.call.added (suc (length x.history)) effect)
      → fewer_left
  goes_by c op None anew ask history asked flags before then_left =
      let same : y.history ≡ x.history = history ∙ append-nil x.history in
      let acts : now.acts ≡ old.acts = does.means.explains.count ∙ ap (λ (l : List Action). length l) same ∙ sym fits.explains.count in
      let weighs : weight now ≡ weight old = ap (λ (ps : List Page). weight_up_to (nodes_of ps) (length ps)) (does.also.quiet.pages same) in
      let left : left_by now c.call.ask c.call.added ≡ left_by old c.call.ask c.call.added = same_left old now c.call.ask c.call.added weighs in
      let less = less_by (owes (slot_of x.slots session) old now acts) in
      omega (arith, left, less, before, then_left)
  goes_by c op (Some e) anew ask history asked flags before then_left =
      let fewer = acts_fewer (contents_after start x.history) x.sets op c.call.added (length x.history) e old now anew
      (subst (λ (a : Ask). IsAsked (contents_after start x.history) a c.call.added (Some e)) ask asked) flags in
      let was : acts_left old (slot_of x.slots session) ≡ left_by old (asked_of x.sets op) c.call.added = before ∙ ap (λ (a : Ask). left_by old a c.call.added) ask in
      let is : acts_left now (slot_of y.slots session) ≡ left_by now (asked_of x.sets op) (add_after c.call.added (suc (length x.history)) (Some e)) =
      then_left ∙ ap (λ (a : Ask). left_by now a (add_after c.call.added (suc (length x.history)) (Some e))) ask in
      let work = work_bounded g start y (fits_after does) low_now session in
      omega (arith, fewer, was, is, work)

  goes_on : CallMoves g start session Going x y → fewer_left
  goes_on c =
      let runs : IsRunningCall y.calls session c.number c.after = record {
        found = ap (λ (l : List Call). slice_get l c.number) c.calls_is ∙ get_set_same x.calls c.number c.after (get_within x.calls c.number c.call c.is.found);
        session_is = ap (λ (k : Call). k.session) c.told ∙ c.is.session_is;
        running = ap (λ (k : Call). k.ending) c.told ∙ c.is.running;
      } in
      let r = runs_in_slot g start x fits session c.number c.call c.is in
      let same : r.2.call ≡ c.call = (one_runs g start x fits session c.number r.2.number c.call r.2.call c.is r.2.is).1 in
      let ask : c.call.ask ≡ asked_of x.sets r.0 = ap (λ (k : Call). k.ask) (sym same) ∙ r.2.runs.ask in
      let slot : slot_of x.slots session ≡ Some r.0 = ap (λ (o : Option (Option Op)). unwrap_or o None) r.1 in
      let before : acts_left old (slot_of x.slots session) ≡ left_by old c.call.ask c.call.added = slot_left g start x session c.number c.call old fits c.is in
      let then_left : acts_left now (slot_of y.slots session) ≡ left_by now c.call.ask (add_after c.call.added (suc (length x.history)) c.effect) =
      slot_left g start y session c.number c.after now (fits_after does) runs ∙ ap (λ (k : Call). left_by now k.ask k.added) c.told in
      by r.0 slot ask before then_left
    where
      by : (op : Op) → slot_of x.slots session ≡ Some op → c.call.ask ≡ asked_of x.sets op → acts_left old (slot_of x.slots session) ≡ left_by old c.call.ask c.call.added
          → acts_left now (slot_of y.slots session) ≡ left_by now c.call.ask (add_after c.call.added (suc (length x.history)) c.effect) → fewer_left
      by (Insert op) slot ask before then_left = goes_by c (Insert op) c.effect tt ask c.history_is c.asked (subst (λ (a : Ask). MovesShape a c.effect old now) ask c.shape) before then_left
      by (Scan op) slot ask before then_left = goes_by c (Scan op) c.effect tt ask c.history_is c.asked (subst (λ (a : Ask). MovesShape a c.effect old now) ask c.shape) before then_left
      by op slot ask before then_left =
          let none : acts_left now (slot_of y.slots session) ≡ 0 = then_left ∙ ap (λ (a : Ask). left_by now a (add_after c.call.added (suc (length x.history)) c.effect)) ask in
          let less = less_by (subst (λ (o : Option Op). OwesLess o old now) (sym slot) tt) in
          omega (arith, none, less)

  goes_or_not : (b : Bool) → MovesOn g start b session Going x y → fewer_left
  goes_or_not true c = goes_on c
  goes_or_not false s = absurd (let e = s.refused in cc)

  step_fewer : fewer_left
  step_fewer = goes_or_not (has_call x.slots session) does.also.happens

-- so does each step
pub takes_fewer : {S : Type 0} (g : Ghosts S) (start : Entry → Bool) (session : ℕ) (answer : Answer) (x y : Moment S)
    → (g.backing y.store).honest ≡ true → Fits g start x → EventDoes g start (MovesCall session Steps) answer x y
    → TakesFewer (g.state x.store) (g.state y.store) (slot_of x.slots session) (slot_of y.slots session) answer
takes_fewer g start session answer x y honest fits does low going =
    step_fewer g start session x y honest fits (subst (λ (a : Answer). EventDoes g start (MovesCall session Steps) a x y) going does) low
