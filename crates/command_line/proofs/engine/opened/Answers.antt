use Rattle.std.proofs.Common.{refl, ap}
use Rattle.page_action.specs.States.{State}
use Rattle.command_line.proofs.engine.opened.Goals as goal

pub returns-in-Ok : goal.returns-in-Ok
returns-in-Ok c = record {
  frames = ap (λ (st : State). st.frames) c.in-Ok.ensures.frames.is;
  sessions = c.in-Ok.ensures.sessions;
  sets = c.in-Ok.ensures.sets;
  begins = λ allowed format pages index tree.
      c.in-Ok.ensures.begins refl (allowed.frames_from, allowed.frames_to) allowed.sessions_from allowed.sessions_to format pages index tree;
}

pub returns-in-Err-clause-begins : goal.returns-in-Err-clause-begins
returns-in-Err-clause-begins c allowed format pages index tree =
    c.in-Err.ensures.begins refl (allowed.frames_from, allowed.frames_to) allowed.sessions_from allowed.sessions_to format pages index tree
