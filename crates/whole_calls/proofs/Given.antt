-- What a scan gives tells.
use Rattle.std.proofs.Common.{◌≡◌, ◌⊎◌, ℕ, ◌<◌, ◌≤◌, arith, Bool, false, Option, Some, None, Result, Ok, List, [], ◌∷◌, ◌++◌, length, slice_get, slice_set, refl, sym, ap, subst, inl, inr, ◌∙◌, IfErr}
use Rattle.whole_calls.proofs.Imports.{append-nil, is_last, cases_eq, EndsFinished, Range, Bulks, Cleanups, get_set_same, get_set_other, get_within, Effect, Add, Remove, Shape, Action, AskScan, Running}
use Rattle.whole_calls.proofs.Imports.{Call, Circumstances, HasCause, Entry, Fault, State, Ghosts, IsCaused, OwesLess, work_in, noted, given_one, ended, Answer, Going, Ready, Done, Gave, Refused}
use Rattle.whole_calls.proofs.Imports.{Op, StoreAndSlots, Moment, IsRunningCall, Fits, IsOutcomeOf, IsMadeOf, Answered, ComesTo, LessIsLeft, AnswersSeek, given_of, given_outcome, Becomes}
use Rattle.whole_calls.proofs.Imports.{GivenMeans, SessionScanMeans, ScanIsUnanswered, SessionGivenMeans, IsSameHistory, acts_by, noted_after, AreOwnEffects, IsOwnEffect, CallAnswers, StepMeans}
use Rattle.whole_calls.proofs.Imports.{SessionStepMeans, HasNone, EndMeans}
use Rattle.whole_calls.proofs.Made.{made_told}
use Rattle.whole_calls.proofs.Gone.{set_same, same_ask, gone_nowhere, gone_runs, gone_then, whole_told}
use Rattle.whole_calls.proofs.Tellings.{one_runs, was_told}

-- if no act is done, every step owes to leave less
pub owes : (slot : Option Op) (old new : State) → new.acts ≡ old.acts → OwesLess slot old new
owes (Some (Bulks set op)) old new calm = tt
owes (Some (Cleanups op)) old new calm = tt
owes slot old new calm = calm

-- what a scan gives is what it came to
pub give_comes : (came : Answer) (answers : List Answer) → AnswersSeek came → IsOutcomeOf answers (Some came) → IsOutcomeOf answers (given_outcome (given_of came))
give_comes (Gave (Some e)) answers kind h = h
give_comes Done answers kind h = h
give_comes (Refused f) answers kind h = h
give_comes came answers kind h = absurd kind

-- ... by what was answered
give_answered : (came : Answer) (answers : List Answer) → AnswersSeek came → Answered came answers → ComesTo (given_outcome (given_of came)) answers
give_answered (Gave (Some e)) answers kind h = h
give_answered Done answers kind h = h
give_answered (Refused f) answers kind h = h
give_answered came answers kind h = absurd kind

-- ... told of its events
pub give_made : {S : Type 0} {g : Ghosts S} {session least_room : ℕ} (came : Answer) (given : Result (Option Entry) Fault) {a b : StoreAndSlots S} → AnswersSeek came → given_of came ≡ given
    → IsMadeOf g session least_room (Answered came) a b → IsMadeOf g session least_room (ComesTo (given_outcome given)) a b
give_made came given kind is made = made_told made (λ xs so. rw is at (give_answered came xs kind so))

-- what came to an entry isn't the last answer
pub gives_goes : (came : Answer) (entry : Entry) → AnswersSeek came → given_of came ≡ Ok (Some entry) → is_last came ≡ false
gives_goes (Gave (Some e)) entry kind is = refl
gives_goes Done entry kind is = absurd cc
gives_goes (Refused f) entry kind is = absurd cc
gives_goes came entry kind is = absurd kind

-- why it gives nothing
pub given_caused : (at : Circumstances) (came : Answer) → AnswersSeek came → IsCaused at came → IfErr (given_of came) (HasCause at)
given_caused at (Gave (Some e)) kind h = tt
given_caused at Done kind h = tt
given_caused at (Refused fault) kind h = h
given_caused at came kind h = absurd kind

-- a scan does nothing to the pages
scan_own : (call : Call) (range : Range) (count : ℕ) (effects : List Effect) → call.ask ≡ AskScan range → AreOwnEffects call count effects → effects ≡ []
scan_own call range count [] ask own = refl
scan_own call range count (Add x ∷ effects) ask own = absurd (rw ask at own.0)
scan_own call range count (Remove es ∷ effects) ask own = absurd (rw ask at own.0)
scan_own call range count (Shape ∷ effects) ask own = absurd (rw ask at own.0)

-- ... so its history is as it was, and so is its call before the last step
scan_silent : {S : Type 0} (number : ℕ) (call : Call) (range : Range) (answer : Answer) (x y : Moment S) → call.ask ≡ AskScan range → (t : CallAnswers number call answer x y)
    → (y.history ≡ x.history) × (noted_after call (length x.history) t.before ≡ call) × (length (x.history ++ acts_by number t.before) ≡ length x.history)
scan_silent number call range answer x y ask t =
    let w = whole_told number call answer x y t in
    let all : w.effects ≡ [] = scan_own call range (length x.history) w.effects ask w.own in
    let front : t.before ≡ [] = scan_own call range (length x.history) t.before ask t.own in (
      w.history_is ∙ ap (λ (l : List Effect). x.history ++ acts_by number l) all ∙ append-nil x.history,
      ap (λ (l : List Effect). noted_after call (length x.history) l) front,
      ap (λ (l : List Effect). length (x.history ++ acts_by number l)) front ∙ ap (λ (l : List Action). length l) (append-nil x.history),
    )

-- what is told of a session's running call is told of its scan
pub scan_told : {S : Type 0} (session : ℕ) (answer : Answer) (x y : Moment S) → SessionStepMeans session answer x y → SessionScanMeans session answer x y
scan_told session answer x y tells number call range is ask = tells number call is

-- a scan of which nothing is told, and then this
pub scan_then : {S : Type 0} (session : ℕ) (answer : Answer) (x y z : Moment S) → ScanIsUnanswered session x y → SessionScanMeans session answer y z → SessionScanMeans session answer x z
scan_then session answer x y z stays tells number call range is ask =
    let gone = gone_nowhere session number call x y is (stays number call range is ask) in
    gone_then number call [] x y z gone answer (tells number call range (gone_runs number call [] x y z gone session is) ask)

-- nothing is told, and then again
pub stays_then : {S : Type 0} (session : ℕ) (x y z : Moment S) → ScanIsUnanswered session x y → ScanIsUnanswered session y z → ScanIsUnanswered session x z
stays_then session x y z one two number call range is ask =
    let s : IsSameHistory x y = one number call range is ask in
    let gone = gone_nowhere session number call x y is s in
    let t : IsSameHistory y z = two number call range (gone_runs number call [] x y z gone session is) ask in
    record { history_is = t.history_is ∙ s.history_is; calls_is = t.calls_is ∙ s.calls_is }

-- what leaves a scan's call as it was
unchanged : {S : Type 0} (session number : ℕ) (call : Call) (range : Range) (answer : Answer) (x y : Moment S)
    → IsRunningCall x.calls session number call → call.ask ≡ AskScan range → (t : CallAnswers number call answer x y)
    → t.after ≡ noted_after call (length x.history) t.before → IsSameHistory x y
unchanged session number call range answer x y is ask t after =
    let s = scan_silent number call range answer x y ask t in
    record { history_is = s.0; calls_is = t.calls_is ∙ ap (λ (c : Call). slice_set x.calls number c) (after ∙ s.1) ∙ set_same x.calls number call is.found }

-- a scan that goes on
pub going_stays : {S : Type 0} (session : ℕ) (x y : Moment S) → SessionScanMeans session Going x y → ScanIsUnanswered session x y
going_stays session x y tells number call range is ask =
    let t = was_told number call Going x y (λ fault e. cc) (tells number call range is ask) in
    let last : t.last ≡ None = no_last (noted_after call (length x.history) t.before) t.last (same_ask call (length x.history) t.before ∙ ask) t.own_last in
    unchanged session number call range Going x y is ask t
    (t.told ∙ ap (λ (o : Option Effect). noted (noted_after call (length x.history) t.before) (length (x.history ++ acts_by number t.before)) o) last)
  where
    no_last : (c : Call) (o : Option Effect) → c.ask ≡ AskScan range → IsOwnEffect c o → o ≡ None
    no_last c None ask h = refl
    no_last c (Some (Add e)) ask h = absurd (rw ask at h)
    no_last c (Some (Remove es)) ask h = absurd (rw ask at h)
    no_last c (Some Shape) ask h = absurd (rw ask at h)

-- one that has entries ready
pub ready_stays : {S : Type 0} (session count : ℕ) (x y : Moment S) → SessionScanMeans session (Ready count) x y → ScanIsUnanswered session x y
ready_stays session count x y tells number call range is ask =
    let t = was_told number call (Ready count) x y (λ fault e. cc) (tells number call range is ask) in unchanged session number call range (Ready count) x y is ask t t.told.after_is

-- a `next` that gives none
pub none_stays : {S : Type 0} (session : ℕ) (x y : Moment S) → SessionScanMeans session (Gave None) x y → ScanIsUnanswered session x y
none_stays session x y tells number call range is ask =
    let t = was_told number call (Gave None) x y (λ fault e. cc) (tells number call range is ask) in unchanged session number call range (Gave None) x y is ask t t.told.after_is

-- an entry that is given
pub some_given : {S : Type 0} (session : ℕ) (came : Answer) (entry : Entry) (x y : Moment S) → AnswersSeek came → given_of came ≡ Ok (Some entry)
    → SessionScanMeans session came x y → SessionGivenMeans session (Ok (Some entry)) x y
some_given {S} session came entry x y kind is tells number call range running ask = of came kind is (tells number call range running ask)
  where
    of : (a : Answer) → AnswersSeek a → given_of a ≡ Ok (Some entry) → StepMeans number call a x y → Becomes number (given_one call entry) x y
    of (Gave (Some e)) kind is told =
        let same : e ≡ entry = cc in
        let t = was_told number call (Gave (Some e)) x y (λ fault e. cc) told in
        record {
          history_is = (scan_silent number call range (Gave (Some e)) x y ask t).0;
          calls_is = t.calls_is
              ∙ ap (λ (c : Call). slice_set x.calls number c)
              (t.told.after_is ∙ ap (λ (k : Call). given_one k e) ((scan_silent number call range (Gave (Some e)) x y ask t).1) ∙ ap (λ (g : Entry). given_one call g) same);
        }
    of Done kind is t = absurd cc
    of (Refused f) kind is t = absurd cc
    of a kind is t = absurd kind

-- a call that was changed so runs no more
none_after : {S : Type 0} (g : Ghosts S) (start : Entry → Bool) (x y : Moment S) (session number : ℕ) (call after : Call) → Fits g start x → IsRunningCall x.calls session number call
    → y.calls ≡ slice_set x.calls number after → (after.ending ≡ Running → ⊥) → HasNone session y
none_after g start x y session number call after fits running calls over other c is =
    elim (cases_eq other number) [
      | inl same ↦ (
          let found : slice_get y.calls number ≡ Some after = ap (λ (l : List Call). slice_get l number) calls ∙ get_set_same x.calls number after (get_within x.calls number call running.found) in
          let also : slice_get y.calls number ≡ Some c = subst (λ (n : ℕ). slice_get y.calls n ≡ Some c) same is.found in
          let e : c ≡ after = cc in
          over (ap (λ (k : Call). k.ending) (sym e) ∙ is.running))
      | inr apart ↦ (
          let old : slice_get x.calls other ≡ Some c = sym (get_set_other x.calls number other after apart) ∙ ap (λ (l : List Call). slice_get l other) (sym calls) ∙ is.found in
          apart (one_runs g start x fits session number other call c running (record { found = old; session_is = is.session_is; running = is.running })).0)
    ]

-- what is given at the end, and then an end
pub end_given : {S : Type 0} (g : Ghosts S) (start : Entry → Bool) (session : ℕ) (came : Answer) (x y z : Moment S) → Fits g start x
    → AnswersSeek came → ((entry : Entry) → given_of came ≡ Ok (Some entry) → ⊥)
    → SessionScanMeans session came x y → EndMeans session y z → SessionGivenMeans session (given_of came) x z
end_given {S} g start session came x y z fits kind no_entry tells end number call range running ask = of came kind no_entry (tells number call range running ask)
  where
    of : (a : Answer) → AnswersSeek a → ((entry : Entry) → given_of a ≡ Ok (Some entry) → ⊥) → StepMeans number call a x y → GivenMeans number call (given_of a) x z
    of (Gave (Some e)) kind some t = absurd (some e refl)
    of Done kind some told =
        let t = was_told number call Done x y (λ fault e. cc) told in
        let s = scan_silent number call range Done x y ask t in
        let calls : y.calls ≡ slice_set x.calls number (ended call EndsFinished (length x.history)) = t.calls_is
        ∙ ap (λ (c : Call). slice_set x.calls number c)
        (t.told.after_is ∙ ap (λ (c : Call). ended c EndsFinished (length (x.history ++ acts_by number t.before))) s.1 ∙ ap (λ (n : ℕ). ended call EndsFinished n) s.2) in
        record {
          history_is = end.history_is ∙ s.0;
          calls_is = end.calls_is (none_after g start x y session number call (ended call EndsFinished (length x.history)) fits running calls (λ e. cc)) ∙ calls;
        }
    of (Refused f) kind some (inl t) = end.history_is ∙ (scan_silent number call range (Refused f) x y ask t).0
    of (Refused f) kind some (inr t) = end.history_is ∙ t.gone.history_is
        ∙ ap (λ (l : List Effect). x.history ++ acts_by number l) (scan_own call range (length x.history) t.before ask t.gone.own) ∙ append-nil x.history
    of a kind some t = absurd kind

-- after steps that left no more to do, what leaves less than then leaves less than before them
pub down_after : (old mid new : State) (before between after : Option Op) (answer : Answer) → work_in mid between ≤ work_in old before
    → LessIsLeft mid new between after answer → LessIsLeft old new before after answer
down_after old mid new before between after Going most down = omega (arith, most, down)
down_after old mid new before between after (Ready r) most down = omega (arith, most, down)
down_after old mid new before between after (Gave (Some e)) most down = omega (arith, most, down)
down_after old mid new before between after answer most down = tt

-- an answer with which the scan goes on leaves less to do
pub down_on : (old new : State) (before after : Option Op) (answer : Answer) → (answer ≡ Going) ⊎ ((count : ℕ) × (answer ≡ Ready count))
    → LessIsLeft old new before after answer → work_in new after < work_in old before
down_on old new before after Going on down = down
down_on old new before after (Ready count) on down = down
down_on old new before after answer on down = absurd (elim on [ inl is ↦ cc | inr is ↦ (let e = is.1 in cc) ])
