-- What an event of a session that has no call makes: it is refused.
use Rattle.std.proofs.Common.{◌≡◌, ℕ, Bool, true, false, Option, Some, None, List, slice_get, refl, sym, ap, subst, inl, ◌∙◌}
use Rattle.schedule.proofs.Imports.{unwrap_or, HasCause, Fault, Stopped, NoSession, State, Ghosts, StepAnswerMeans, DeadSets, causes_of_slot_stepped_any, RunsOn, StoppedAnswersFirst, no_call}
use Rattle.schedule.proofs.Imports.{slot_add, after_slot, GivesLess, AnswersStep, AnswersNext, AnswersEnd, RefusalChangesNothing, RunsUntilLast, OnlyWritersAct, Answer, Refused, Op, snapshot_of}
use Rattle.schedule.proofs.Imports.{slot_of, slot_has_call, has_call, here_with, Move, Steps, Takes, GivesUp, MovesCall, MovesOn, causes_of_moving, EventAlways, DoesOneAct, EventEffect}
use Rattle.schedule.proofs.Events.{stays_on, refused_stay}
use Rattle.schedule.proofs.Keeping.{Laws}

-- a session without a call runs nothing
runs_none : (o : Option (Option Op)) → slot_has_call o ≡ false → unwrap_or o None ≡ None
runs_none None h = refl
runs_none (Some None) h = refl
runs_none (Some (Some op)) h = absurd cc

-- nothing is changed
nothing_done : (st : State) → DoesOneAct st st
nothing_done st = record { acts = inl refl; quiet = λ same. refl; format = refl; frames = refl }

module _ {S : Type 0} (g : Ghosts S) (laws : Laws g) (store : S) (slots : List (Option Op)) (sets : DeadSets) (session : ℕ) (idle : has_call slots session ≡ false) where
  none : slot_of slots session ≡ None
  none = runs_none (slice_get slots session) idle

  -- a move with its cause changes nothing
  stays : (move : Move) (fault : Fault) → EventAlways g (MovesCall session move) (Refused fault) (here_with store slots sets) (here_with store slots sets)
      → HasCause (causes_of_moving g sets store store move (slice_get slots session)) fault
      → EventEffect g (MovesCall session move) (Refused fault) (here_with store slots sets) (here_with store slots sets)
  stays move fault always cause = record {
    sessions = refl;
    always = always;
    does = λ honest start history calls fits.
        (let snap = snapshot_of (here_with store slots sets) history calls in
        let follows = laws.follows_same store in
        let later = laws.follows_later store store follows in
        stays_on g start snap store fault fits refl follows later (MovesCall session move)
        (subst (λ (b : Bool). MovesOn g start b session (Refused fault) snap snap) (sym idle) (refused_stay g start snap store fault fits refl follows later))
        always cause (λ s e. none));
  }

  no_step : (o : Option (Option Op)) → slot_has_call o ≡ false → (g.backing store).stopped ≡ false → HasCause (causes_of_moving g sets store store Steps o) NoSession
  no_step None h alive = refl
  no_step (Some None) h alive = refl
  no_step (Some (Some op)) h alive = absurd cc

  stopped_step : (o : Option (Option Op)) → slot_has_call o ≡ false → (g.backing store).stopped ≡ true → HasCause (causes_of_moving g sets store store Steps o) Stopped
  stopped_step None h is = is
  stopped_step (Some None) h is = is
  stopped_step (Some (Some op)) h is = absurd cc

  no_next : (o : Option (Option Op)) → slot_has_call o ≡ false → HasCause (causes_of_moving g sets store store Takes o) NoSession
  no_next None h = refl
  no_next (Some None) h = refl
  no_next (Some (Some op)) h = absurd cc

  no_end : (o : Option (Option Op)) → slot_has_call o ≡ false → HasCause (causes_of_moving g sets store store GivesUp o) NoSession
  no_end None h = refl
  no_end (Some None) h = refl
  no_end (Some (Some op)) h = absurd cc

  step_always : (fault : Fault) → ((g.backing store).stopped ≡ true → Refused fault ≡ Refused Stopped) → HasCause (causes_of_slot_stepped_any (g.state store).format.unique None) fault
      → EventAlways g (MovesCall session Steps) (Refused fault) (here_with store slots sets) (here_with store slots sets)
  step_always fault stopped cause = record {
    answers = subst (λ (x : Option Op). AnswersStep x x (Refused fault)) (sym none) tt;
    until_last = subst (λ (x : Option Op). RunsUntilLast x x (Refused fault)) (sym none) refl;
    stands = tt;
    tells = subst (λ (x : Option Op). StepAnswerMeans (g.backing store).stopped (g.state store) (g.state store) x x (Refused fault)) (sym none)
        (record { faults = cause; logged = tt; unfinished = tt; stats = tt; waits = λ alive some. absurd (some tt); starts = λ on. refl });
    refused = subst (λ (x : Option Op). RefusalChangesNothing (g.state store) (g.state store) x x (Refused fault)) (sym none) (refl, refl);
    stopped = λ h. subst (λ (x : Option Op). StoppedAnswersFirst (slot_add x) (Refused fault)) (sym none) (stopped h);
    less = λ honest. tt;
    kept = nothing_done (g.state store);
    calm = subst (λ (x : Option Op). OnlyWritersAct x (g.state store) (g.state store)) (sym none) refl;
    others = λ s of other apart. refl;
    left = tt;
    causes = tt;
    order = tt;
    fresh = tt;
    numbered = tt;
    upkept = tt;
    keeps_up = tt;
    runs_on = subst (λ (x : Option Op). RunsOn x x) (sym none) tt;
  }

  -- a step is refused with `Stopped` on a stopped log, and with `NoSession` else
  idle_steps : (is_stopped : Bool) (answer : Answer) → answer ≡ no_call is_stopped → is_stopped ≡ (g.backing store).stopped
      → EventEffect g (MovesCall session Steps) answer (here_with store slots sets) (here_with store slots sets)
  idle_steps true answer is same =
      subst (λ (a : Answer). EventEffect g (MovesCall session Steps) a (here_with store slots sets) (here_with store slots sets)) (sym is)
      (stays Steps Stopped (step_always Stopped (λ h. refl) refl) (stopped_step (slice_get slots session) idle (sym same)))
  idle_steps false answer is same =
      subst (λ (a : Answer). EventEffect g (MovesCall session Steps) a (here_with store slots sets) (here_with store slots sets)) (sym is)
      (stays Steps NoSession (step_always NoSession (λ h. absurd (let both : false ≡ true = same ∙ h in cc)) refl) (no_step (slice_get slots session) idle (sym same)))

  -- nothing is given
  idle_takes : (answer : Answer) → answer ≡ Refused NoSession → EventEffect g (MovesCall session Takes) answer (here_with store slots sets) (here_with store slots sets)
  idle_takes answer is =
      subst (λ (a : Answer). EventEffect g (MovesCall session Takes) a (here_with store slots sets) (here_with store slots sets)) (sym is)
      (stays Takes NoSession always (no_next (slice_get slots session) idle))
    where
      always : EventAlways g (MovesCall session Takes) (Refused NoSession) (here_with store slots sets) (here_with store slots sets)
      always = record {
        answers = subst (λ (x : Option Op). AnswersNext x (Refused NoSession)) (sym none) tt;
        until_last = subst (λ (x : Option Op). RunsUntilLast x x (Refused NoSession)) (sym none) refl;
        stands = refl;
        tells = tt;
        refused = λ fault h. record { state_is = refl; slots_is = refl };
        stopped = tt;
        less = subst (λ (x : Option Op). GivesLess x x (Refused NoSession)) (sym none) (refl, tt);
        kept = nothing_done (g.state store);
        calm = refl;
        others = λ s of other apart. refl;
        left = refl;
        causes = tt;
        order = tt;
        fresh = tt;
        numbered = tt;
        upkept = tt;
        keeps_up = tt;
        runs_on = subst (λ (x : Option Op). RunsOn x x) (sym none) tt;
      }

  -- nothing is given up
  idle_gives_up : (answer : Answer) → answer ≡ Refused NoSession → EventEffect g (MovesCall session GivesUp) answer (here_with store slots sets) (here_with store slots sets)
  idle_gives_up answer is =
      subst (λ (a : Answer). EventEffect g (MovesCall session GivesUp) a (here_with store slots sets) (here_with store slots sets)) (sym is)
      (stays GivesUp NoSession always (no_end (slice_get slots session) idle))
    where
      always : EventAlways g (MovesCall session GivesUp) (Refused NoSession) (here_with store slots sets) (here_with store slots sets)
      always = record {
        answers = subst (λ (x : Option Op). AnswersEnd x (Refused NoSession)) (sym none) refl;
        until_last = subst (λ (x : Option Op). RunsUntilLast x x (Refused NoSession)) (sym none) refl;
        stands = tt;
        tells = tt;
        refused = λ fault h. record { state_is = refl; slots_is = refl };
        stopped = tt;
        less = tt;
        kept = nothing_done (g.state store);
        calm = refl;
        others = λ s of other apart. refl;
        left = record { over = none; backing = refl; begun = refl; state_is = sym (ap (λ (o : Option Op). after_slot o (g.state store)) none) };
        causes = tt;
        order = tt;
        fresh = tt;
        numbered = tt;
        upkept = tt;
        keeps_up = tt;
        runs_on = subst (λ (x : Option Op). RunsOn x x) (sym none) tt;
      }

  -- whether a move of a session without a call is refused for a stopped log
  abbrev stops : Move → Bool
  stops Steps = (g.backing store).stopped
  stops Takes = false
  stops GivesUp = false

  -- a move of a session without a call is refused: a step with `Stopped` on a stopped log, all else with
  -- `NoSession`
  pub idle_makes : (move : Move) (answer : Answer) → answer ≡ no_call (stops move) → EventEffect g (MovesCall session move) answer (here_with store slots sets) (here_with store slots sets)
  idle_makes Steps answer is = idle_steps (g.backing store).stopped answer is refl
  idle_makes Takes answer is = idle_takes answer is
  idle_makes GivesUp answer is = idle_gives_up answer is
