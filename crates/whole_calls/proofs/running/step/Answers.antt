use Rattle.std.proofs.Common.{map}
use Rattle.whole_calls.proofs.Imports.{slot_of}
use Rattle.whole_calls.proofs.Composing.{goes_told}
use Rattle.whole_calls.proofs.Lasting.{room_then, held_goes}
use Rattle.whole_calls.proofs.OneSteps.{room_goes, is_step_made, runs_unless, step_made, step_short}
use Rattle.whole_calls.proofs.running.step.Goals as goal

pub returns-in-Ok-clause-goes : goal.returns-in-Ok-clause-goes
returns-in-Ok-clause-goes g c =
    room_goes g.met.S.PageStore.laws c.make_room.ensures.steps c.step.ensures.steps (c.make_room.ensures.goes _ _ _) c.in-Ok.ensures.promise c.step.ensures.makes
    (λ x y z first later one two. room_then first later one two.goes)

pub returns-in-Err-clause-goes : goal.returns-in-Err-clause-goes
returns-in-Err-clause-goes g c =
    goes_told _ (c.make_room.ensures.goes _ _ _) (λ start h hc k kc answers fits came room. (rw c.in-Err.is at came, held_goes room c.in-Err.ensures.cause))

pub returns-in-Ok-clause-made : goal.returns-in-Ok-clause-made
returns-in-Ok-clause-made g c = step_made (c.in-Ok.ensures.tried _ _) (is_step_made c.make_room.ensures.state c.in-Ok.ensures.room c.step.ensures.makes)

pub returns-in-Ok-clause-lasts : goal.returns-in-Ok-clause-lasts
returns-in-Ok-clause-lasts g c =
    runs_unless (slot_of c.args.calls.now.slots.items c.args.session) (slot_of c.step.new.calls.slots.items c.args.session) c.step.result c.step.ensures.makes.always.until_last

pub returns-in-Err-clause-lasts : goal.returns-in-Err-clause-lasts
returns-in-Err-clause-lasts g c last runs = runs

pub returns-in-Err-clause-made : goal.returns-in-Err-clause-made
returns-in-Err-clause-made g c = step_short (c.in-Err.ensures.tried c.args.calls.now.slots.items (map g.T.DeadRows.is_in c.args.sets.now))
