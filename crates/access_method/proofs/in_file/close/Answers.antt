use Rattle.std.proofs.Common.{ℕ, List, sym, ap, subst, ◌∙◌}
use Rattle.std.proofs.lemmas.Result.{IfErr-weaker}
use Rattle.page_action.specs.States.{Continues}
use Rattle.page_store.specs.StoreLaws.{follows_by}
use Rattle.page_store.specs.Crashing.{left_now}
use Rattle.page_store.specs.Following.{follows_same}
use Rattle.access_method.proofs.Imports.{MayCrashTo, Action, Format, state_of, held_by, left_index}
use Rattle.device.specs.declared.device.Device.{Ghosts as DeviceGhosts}
use Rattle.page_store.specs.declared.store.Store.{Store}
use Rattle.world.specs.Reopening.{IsIndexAfterPrefix}
use Rattle.access_method.proofs.Closing.{both_told, both_ok}
use Rattle.access_method.proofs.in_file.close.Goals as goal

-- nothing was done but to make durable, so a crash leaves all of the same actions; the device is that of the
-- index after it
pub returns-clause-stands : goal.returns-clause-stands
returns-clause-stands g c =
    let d = g.D.Device in
    let old = c.args.index.store in
    let store = c.checkpoint-written.new.self.store in
    let device = c.into_device.ensures in
    both_told c.checkpoint-written.result _ _ _
    (λ n number durable honest start history calls fits keeps image may.
    let run = c.checkpoint-written.ensures.runs (sym (ap (λ x. d.is_honest x) device) ∙ honest) start history calls fits in
    let kept = (run.ran.crash keeps).keeps in
    let on = (c.checkpoint-written.ensures.steps old (follows_same (held_by d old))).grows keeps.own in
    let same = sym store.held.log_format ∙ on.format ∙ old.held.log_format in
    let there = subst (λ x. MayCrashTo (d.trace x).now image) device may in
    let left = left_index d store store kept.own (follows_same (held_by d store)) start run.then_history run.ran.fits.explains.count kept.parts image (left_now (held_by d store) image there) in
    subst (λ (format : Format). IsIndexAfterPrefix format start history n image) same
    (subst (λ (m : ℕ). IsIndexAfterPrefix (state_of d store).format start history m image) (durable ∙ sym number)
    (subst (λ (actions : List Action). IsIndexAfterPrefix (state_of d store).format start actions (held_by d store).durable image) run.tells.history_is left)))
    c.checkpoint-written.ensures.number c.checkpoint-written.ensures.durable

-- the index after the checkpoint came from it by calls of its own
followed : {D : Type 0} (d : DeviceGhosts D) (old new : Store D d) → Continues (follows_by d) old new → follows_by d old new
followed d old new steps = steps old (follows_same (held_by d old))

pub returns-clause-empties : goal.returns-clause-empties
returns-clause-empties g c =
    let new = c.checkpoint-written.new.self.store in
    let follows = followed g.D.Device c.args.index.store new c.checkpoint-written.ensures.steps in
    both_ok c.checkpoint-written.result (λ alive room. (new, c.into_device.ensures, follows, (alive, room))) c.checkpoint-written.ensures.alive c.checkpoint-written.ensures.room

pub returns-clause-cause : goal.returns-clause-cause
returns-clause-cause g c =
    let new = c.checkpoint-written.new.self.store in
    let follows = followed g.D.Device c.args.index.store new c.checkpoint-written.ensures.steps in
    IfErr-weaker c.checkpoint-written.result _ _ (λ fault has. (new, c.into_device.ensures, follows, has)) c.checkpoint-written.ensures.cause
