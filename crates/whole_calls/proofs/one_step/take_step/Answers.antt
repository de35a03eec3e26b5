use Rattle.std.proofs.Common.{ℕ, Option, ◌∙◌, ap, inl, inr}
use Rattle.whole_calls.specs.OneStep.{OneStepIsRun, cut_short}
use Rattle.whole_calls.proofs.Blocks.{leaves_all}
use Rattle.whole_calls.proofs.Composing.{joined, goes_told, among_left}
use Rattle.whole_calls.proofs.Made.{made_then, made_told}
use Rattle.whole_calls.proofs.OneSteps.{room_goes, steps_after, is_step_made, room_made, after_room, given_up_goes, always_steps, always_given_up, short_comes}
use Rattle.whole_calls.proofs.one_step.take_step.Goals as goal

pub returns-in-Ok-clause-goes : goal.returns-in-Ok-clause-goes
returns-in-Ok-clause-goes g c =
    goes_told _
    (room_goes g.met.S.PageStore.laws {Both = OneStepIsRun g.S.PageStore c.args.session c.args.least_room c.step.result} c.make_room.ensures.steps c.step.ensures.steps
    (c.make_room.ensures.goes _ _ _) c.in-Ok.ensures.promise c.step.ensures.makes (λ x y z first later one two. steps_after c.args.session c.args.least_room one first later two))
    (λ start h hc k kc answers fits came told. (tt, told))

pub returns-in-Err-clause-goes : goal.returns-in-Err-clause-goes
returns-in-Err-clause-goes g c =
    let end = c.give_up.ensures in
    rw c.cut_short.ensures
    (joined g.met.S.PageStore.laws _ c.make_room.ensures.steps end.steps (c.make_room.ensures.goes _ _ _) end.goes (λ xs ys one two. tt)
    (λ start h hc k kc l lc fx fy fz one two.
    given_up_goes c.args.session c.args.least_room one c.in-Err.fault c.added-added.result fy c.in-Err.ensures.cause c.added-added.ensures (leaves_all fy end.backing end.state) two))

pub returns-in-Ok-clause-made : goal.returns-in-Ok-clause-made
returns-in-Ok-clause-made g c =
    made_told (room_made (c.make_room.ensures.made _ _ _) (is_step_made c.make_room.ensures.state c.in-Ok.ensures.room c.step.ensures.makes)) (λ xs so. inl so)

pub returns-in-Err-clause-made : goal.returns-in-Err-clause-made
returns-in-Err-clause-made g c =
    rw c.cut_short.ensures
    (made_then (c.make_room.ensures.made _ _ _) (c.give_up.ensures.made c.args.least_room)
    (λ xs ys came none. short_comes c.added-added.result c.in-Err.fault _ (among_left xs ys _ (rw c.in-Err.is at came))))

pub returns-in-Ok-clause-always : goal.returns-in-Ok-clause-always
returns-in-Ok-clause-always g c = always_steps g.S.PageStore c.args.session c.make_room.ensures.state c.step.ensures.makes

pub returns-in-Err-clause-always : goal.returns-in-Err-clause-always
returns-in-Err-clause-always g c =
    rw c.cut_short.ensures
    (always_given_up g.S.PageStore c.args.session c.make_room.ensures.state c.in-Err.fault c.added-added.result c.in-Err.ensures.cause c.added-added.ensures
    c.give_up.ensures.state c.give_up.ensures.others.others c.give_up.ensures.over)

pub returns-in-Ok-clause-events : goal.returns-in-Ok-clause-events
returns-in-Ok-clause-events g c = after_room (c.in-Ok.ensures.tried _ _) (is_step_made c.make_room.ensures.state c.in-Ok.ensures.room c.step.ensures.makes)

pub returns-in-Err-clause-events : goal.returns-in-Err-clause-events
returns-in-Err-clause-events g c =
    inr (inr (record {
      fault = c.in-Err.fault;
      between = _;
      checkpoint = c.in-Err.ensures.tried _ _;
      gave_up = c.give_up.ensures.ends.0;
      makes = c.give_up.ensures.ends.1;
      told = c.cut_short.ensures ∙ ap (λ (a : Option ℕ). cut_short a c.in-Err.fault) c.added-added.ensures;
    }))
