-- Steps of an insert that change nothing but where it stands.
use Rattle.std.proofs.Common.{◌≡◌, ℕ, ◌<◌, Bool, true, false, Option, None, Result, Ok, Err, refl, sym, subst}
use Rattle.insert_split.proofs.Imports.{OnOk, OnErr, IfOk, HasCause, Fault, State, Continues, Ghosts, IsInOrder, one_nothing, nothing_else, NoneIsIncomplete, OnlyTargetsAreIncomplete, IsStraight}
use Rattle.insert_split.proofs.Imports.{CountsDown, InsertInvariant, InsertSteps, insert_left, targets_at, causes_of_inserting, InsertOp, InsertStep, Going, Added}

pub runs_no_more : (b : Bool) {A : Type 0} → b ≡ false → b ≡ true → A
runs_no_more b alive stopped = absurd cc

-- a step that is refused before anything is changed
pub refuses : {S : Type 0} (g : Ghosts S) (op : InsertOp) (old new : S) (fault : Fault) → Continues g.follows old new → g.state new ≡ g.state old
    → (g.backing old).stopped ≡ false
    → ((g.backing new).honest ≡ true → IsInOrder (g.state old) → InsertInvariant (g.state old) op
    → HasCause (causes_of_inserting (g.state old) (g.backing old) (g.backing new) op.session op.entry op.at) fault)
    → InsertSteps g op op old new (Err fault)
refuses g op old new fault steps same alive cause = record {
  steps = steps;
  session = refl;
  entry = refl;
  kept = one_nothing (g.state old) (g.state new) same;
  refused = record { state = same; op = refl };
  stopped = λ h. runs_no_more (g.backing old).stopped alive h;
  less = λ honest is. absurd cc;
  stepped = cause;
  straight = λ honest order fits whole on room. tt;
}

-- where it stands after such a step
pub record StandsNow (st : State) (before after : InsertOp) : Type 0 where
  pub fits : InsertInvariant st after
  pub added : after.added ≡ before.added
  pub flags : OnlyTargetsAreIncomplete st (targets_at before.at) → OnlyTargetsAreIncomplete st (targets_at after.at)

-- a step that reads, and goes on
pub goes_on : {S : Type 0} (g : Ghosts S) (before after : InsertOp) (old new : S) → Continues g.follows old new → g.state new ≡ g.state old
    → after.session ≡ before.session → after.entry ≡ before.entry → (g.backing old).stopped ≡ false
    → ((g.backing new).honest ≡ true → insert_left (g.state old).format.pages (g.state old).pages after.at < insert_left (g.state old).format.pages (g.state old).pages before.at)
    → ((g.backing new).honest ≡ true → IsInOrder (g.state old) → InsertInvariant (g.state old) before → StandsNow (g.state old) before after)
    → ((g.backing new).honest ≡ true → IsInOrder (g.state old) → NoneIsIncomplete (g.state old).pages → IsStraight (g.state old) before.entry before.at
    → CountsDown (g.state old) (g.state old) before after (Ok Going))
    → InsertSteps g before after old new (Ok Going)
goes_on g before after old new steps same session entry alive less stands straight = record {
  steps = steps;
  session = session;
  entry = entry;
  kept = one_nothing (g.state old) (g.state new) same;
  refused = tt;
  stopped = λ h. runs_no_more (g.backing old).stopped alive h;
  less = λ honest is acts. subst (λ (st : State). insert_left st.format.pages st.pages after.at < insert_left (g.state old).format.pages (g.state old).pages before.at) (sym same) (less honest);
  stepped = λ honest order fits.
      let now = stands honest order fits in
      record {
        effect = None;
        does = nothing_else before.session (g.state old) (g.state new) same order;
        noted = now.added;
        fits = subst (λ (st : State). InsertInvariant st after) (sym same) now.fits;
        flags = λ only. subst (λ (st : State). OnlyTargetsAreIncomplete st (targets_at after.at)) (sym same) (now.flags only);
      };
  straight = λ honest order fits whole on room. subst (λ (st : State). CountsDown (g.state old) st before after (Ok Going)) (sym same) (straight honest order whole on);
}

pub on_ok : {A E : Type 0} (r : Result A E) (x : A) (P : Type 0) → OnOk r P → r ≡ Ok x → P
on_ok (Ok y) x P h is = h
on_ok (Err e) x P h is = absurd cc

pub on_err : {A E : Type 0} (r : Result A E) (x : E) (P : Type 0) → OnErr r P → r ≡ Err x → P
on_err (Ok y) x P h is = absurd cc
on_err (Err e) x P h is = h

pub only_going : (r : Result InsertStep Fault) (action : ℕ) (unfinished : Option Fault) → IfOk r (λ step. step ≡ Going) → r ≡ Ok (Added action unfinished) → ⊥
only_going (Ok Going) action unfinished h is = cc
only_going (Ok (Added a u)) action unfinished h is = cc
only_going (Err fault) action unfinished h is = cc
