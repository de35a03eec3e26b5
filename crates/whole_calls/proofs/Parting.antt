-- What a part of a session's call comes to, by the answer of its last step.
use Rattle.std.proofs.Common.{◌≡◌, ◌≢◌, ◌<◌, ℕ, suc, Bool, Option, Some, None, List, ◌++◌, refl, sym, subst}
use Rattle.whole_calls.proofs.Imports.{Answer, Going, Entry, Ghosts, Moment, StoreAndSlots, StepComesTo, CallIsRunFrom, HasReached, SessionStepMeans}
use Rattle.whole_calls.specs.Parts.{OneStepMore, PartComesTo, PartMeans, PartIsRun, StepsGoOn, part_outcome}

-- an answer that isn't the one of going on is what the part came to
came_last : (answer : Answer) → answer ≢ Going → part_outcome answer ≡ Some answer
came_last Going over = absurd (over refl)
came_last answer over = refl

pub part_came : {S : Type 0} {g : Ghosts S} {session : ℕ} {answer : Answer} {Tells : (Entry → Bool) → Moment S → Moment S → Type 0} {a b : StoreAndSlots S} → answer ≢ Going
    → CallIsRunFrom g session Tells (Some answer) a b → CallIsRunFrom g session Tells (part_outcome answer) a b
part_came {g = g} {session} {answer} {Tells} {a} {b} over goes = subst (λ (o : Option Answer). CallIsRunFrom g session Tells o a b) (sym (came_last answer over)) goes

-- one step more
one_more : {Before : List Answer → Type 0} {answer : Answer} (xs ys : List Answer) → Before xs → StepComesTo answer ys → OneStepMore Before answer (xs ++ ys)
one_more xs ys begins ends = record { before = xs; last = ys; begins = begins; ends = ends; answers_are = refl }

-- ... after which the call goes on
pub steps_more : (gone : ℕ) (answer : Answer) (xs ys : List Answer) → answer ≡ Going → StepsGoOn gone xs → StepComesTo answer ys → StepsGoOn (suc gone) (xs ++ ys)
steps_more gone answer xs ys going begins ends = one_more xs ys begins (subst (λ (a : Answer). StepComesTo a ys) going ends)

-- ... which ends a part
pub part_comes : (count gone : ℕ) (answer : Answer) (xs ys : List Answer) → answer ≢ Going → gone < count → StepsGoOn gone xs → StepComesTo answer ys → PartComesTo count answer (xs ++ ys)
part_comes count gone Going xs ys over below begins ends = absurd (over refl)
part_comes count gone answer xs ys over below begins ends = (gone, below, one_more xs ys begins ends)

pub part_told : {S : Type 0} (session : ℕ) (answer : Answer) (x y : Moment S) → answer ≢ Going → SessionStepMeans session answer x y → PartMeans session answer x y
part_told session Going x y over told = absurd (over refl)
part_told session answer x y over told = told

-- a part that goes on
pub part_goes_on : {S : Type 0} (g : Ghosts S) (session least_room : ℕ) (start : Entry → Bool) (x y : Moment S) → HasReached g session x y → PartIsRun g session least_room Going start x y
part_goes_on g session least_room start x y gone = record { told = gone.far; going = λ is. gone; ends = λ over. absurd (over refl); counts = gone.counted }
