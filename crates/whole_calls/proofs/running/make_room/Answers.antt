use Rattle.std.proofs.Common.{◌≡◌, ℕ, Option, Some, List, refl, subst, arith, inl, inr}
use Rattle.whole_calls.proofs.Imports.{AnswersUpkeep, Checkpoint, DeadSets, Op, Answer, Fault, Refused, Checkpointed, Checkpoints, MaintainsStore, here_with, IsOutcomeOf, CallIsRun, IsRoomTried}
use Rattle.whole_calls.proofs.Imports.{RoomMeans}
use Rattle.whole_calls.proofs.Composing.{goes_nowhere, goes_once, goes_told}
use Rattle.whole_calls.proofs.Tellings.{keeps_silent}
use Rattle.whole_calls.proofs.Made.{made_nowhere, made_told, made_once}
use Rattle.whole_calls.proofs.running.make_room.Given.{Over}
use Rattle.whole_calls.proofs.running.make_room.Goals.{After-checkpoint}
use Rattle.whole_calls.proofs.running.make_room.Goals as goal

-- a checkpoint that isn't refused is made
checkpointed : (answer : Answer) → AnswersUpkeep Checkpoints answer → ((fault : Fault) → answer ≡ Refused fault → ⊥) → (count : ℕ) × (answer ≡ Checkpointed count)
checkpointed (Checkpointed count) h never = (count, refl)
checkpointed (Refused fault) h never = absurd (never fault refl)
checkpointed answer h never = absurd h

pub returns-then-room-least_room-clause-goes : goal.returns-then-room-least_room-clause-goes
returns-then-room-least_room-clause-goes g c session slots sets =
    goes_nowhere g.met.S.PageStore.laws (λ x. record { silent = record { history_is = refl; calls_is = refl }; state_is = refl; slots_are = refl; sets_are = refl })

-- a checkpoint
kept : (g : Over) (c : After-checkpoint g) (session : ℕ) (slots : List (Option Op)) (sets : DeadSets)
    → CallIsRun g.S.PageStore session (RoomMeans g.S.PageStore) (Some c.checkpoint.result) (here_with c.args.store.now slots sets) (here_with c.checkpoint.new.store slots sets)
kept g c session slots sets =
    goes_once g.met.S.PageStore.laws Checkpoint tt (c.checkpoint.ensures.makes slots sets) (λ start h hc k kc honest fits does. record {
      silent = keeps_silent g.S.PageStore start Checkpoints c.checkpoint.result _ _ does;
      state_is = c.checkpoint.ensures.kept.state_is;
      slots_are = refl;
      sets_are = refl;
    })

pub returns-in-Refused-clause-goes : goal.returns-in-Refused-clause-goes
returns-in-Refused-clause-goes g c session slots sets =
    goes_told _ (kept g ((goal.at.returns-in-Refused-clause-goes g c).After-checkpoint) session slots sets)
    (λ start h hc k kc answers fits came told. (subst (λ (a : Answer). IsOutcomeOf answers (Some a)) c.in-Refused.is came, told))

pub returns-in_default-clause-goes : goal.returns-in_default-clause-goes
returns-in_default-clause-goes g c session slots sets =
    goes_told _ (kept g ((goal.at.returns-in_default-clause-goes g c).After-checkpoint) session slots sets) (λ start h hc k kc answers fits came told. (tt, told))

pub returns-then-room-least_room-clause-made : goal.returns-then-room-least_room-clause-made
returns-then-room-least_room-clause-made g c session slots sets = made_nowhere tt

-- it is tried if the log has too little room
short : (g : Over) (c : After-checkpoint g) (slots : List (Option Op)) (sets : DeadSets)
    → IsRoomTried g.S.PageStore c.args.least_room c.checkpoint.result (here_with c.args.store.now slots sets) (here_with c.checkpoint.new.store slots sets)
short g c slots sets =
    let less = c.if-room-least_room.false in
    let room = c.room.ensures in
    record { short = omega (arith, less, room); makes = c.checkpoint.ensures.makes slots sets }

pub returns-in-Refused-clause-made : goal.returns-in-Refused-clause-made
returns-in-Refused-clause-made g c session slots sets =
    let tried = short g ((goal.at.returns-in-Refused-clause-made g c).After-checkpoint) slots sets in
    made_told (made_once Checkpoint (MaintainsStore Checkpoints) refl tt tried.short tried.makes) (λ xs so. rw c.in-Refused.is at so)

pub returns-in_default-clause-made : goal.returns-in_default-clause-made
returns-in_default-clause-made g c session slots sets =
    let tried = short g ((goal.at.returns-in_default-clause-made g c).After-checkpoint) slots sets in
    made_told (made_once Checkpoint (MaintainsStore Checkpoints) refl tt tried.short tried.makes) (λ xs so. tt)

pub returns-then-room-least_room-clause-tried : goal.returns-then-room-least_room-clause-tried
returns-then-room-least_room-clause-tried g c slots sets = inl refl

pub returns-in-Refused-clause-tried : goal.returns-in-Refused-clause-tried
returns-in-Refused-clause-tried g c slots sets = rw c.in-Refused.is at (short g ((goal.at.returns-in-Refused-clause-tried g c).After-checkpoint) slots sets)

pub returns-in_default-clause-tried : goal.returns-in_default-clause-tried
returns-in_default-clause-tried g c slots sets =
    let counted = checkpointed c.checkpoint.result c.checkpoint.ensures.answers c.in_default.not-Refused in
    inr (counted.0, rw counted.1 at (short g ((goal.at.returns-in_default-clause-tried g c).After-checkpoint) slots sets))
