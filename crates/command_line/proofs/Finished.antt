-- What is printed of a run that is done.
use Rattle.std.proofs.Common.{◌≡◌, ◌++◌, ◌∷◌, ℕ, List, [], Option, refl, subst}
use Rattle.shared_world.specs.Doing.{IsEventDone}
use Rattle.sessions.specs.declared.outcome.Finished.{Finished}
use Rattle.command_line.proofs.Imports.{Result, Ok, Err, IfOk, OnOk, Appends, DeviceGhosts, SetGhosts, Fault, Ghosts, Checkpoint, Answer, NotMade, Store, Job, inside, World, answer_text, run_text}
use Rattle.command_line.proofs.Imports.{PrintsDone, PrintsRun, end_after, last_text, IsWorldOfFile, PrintsRunOnFile, End, Done}

-- after a checkpoint that isn't refused
pub not_refused : (answer : Answer) → ((fault : Fault) → answer ≡ NotMade fault → ⊥) → (Done ≡ end_after answer) × (last_text answer ≡ answer_text answer ++ 10 ∷ [])
not_refused (NotMade fault) h = absurd (h fault refl)
not_refused answer h = (refl, refl)

-- unless the print failed, the run is printed
pub prints_done : {S T E : Type 0} (g : Ghosts S) (rows : SetGhosts T) (done : Finished S T) (after : World S T) (old new : Option (List ℕ)) (r : Result End E) (answer : Answer)
    → IsEventDone g Checkpoint answer (inside rows done.world) (inside rows after) → IfOk r (λ end. end ≡ end_after answer)
    → OnOk r (Appends old new (run_text done.history.items done.receipts.items done.calls.items ++ last_text answer)) → IfOk r (PrintsDone g rows done after old new)
prints_done g rows done after old new (Ok end) answer made is printed = record { answer = answer; checkpointed = made; printed = printed; end_is = is }
prints_done g rows done after old new (Err fault) answer made is printed = tt

-- the print of a run on a world that was opened from a file is that of one on the file
pub prints_on_file : {D T E : Type 0} (d : DeviceGhosts D) (g : Ghosts (Store D d)) (rows : SetGhosts T) (bytes : ℕ → List ℕ) (frames workers : ℕ) (jobs shown : List Job) (sets : List T)
    (before after : World (Store D d) T) (old new : Option (List ℕ)) (r : Result End E) → shown ≡ jobs → IsWorldOfFile d g rows bytes frames workers sets before
    → IfOk r (PrintsRun g rows shown workers before after old new) → IfOk r (PrintsRunOnFile d g rows bytes frames workers jobs sets after old new)
prints_on_file d g rows bytes frames workers jobs shown sets before after old new (Ok end) same opened printed = record {
  before = before;
  opened = opened;
  prints = subst (λ (l : List Job). PrintsRun g rows l workers before after old new end) same printed;
}
prints_on_file d g rows bytes frames workers jobs shown sets before after old new (Err fault) same opened printed = tt
