use Rattle.std.proofs.Common.{ℕ, List, sym, subst, ◌∙◌}
use Rattle.ledger_lines.proofs.Imports.{Action, left_now, follows_same, state_of, held_by, left_index, IsIndexAfterPrefix}
use Rattle.ledger_lines.proofs.calls.checkpoint.Goals as goal

-- nothing was done but to make durable, so a crash leaves a prefix of the same actions
pub returns-in-Ok-clause-stands : goal.returns-in-Ok-clause-stands
returns-in-Ok-clause-stands g c honest start history calls fits keeps image may =
    let d = g.D.Device in
    let store = c.checkpoint.new.self.store in
    let run = c.checkpoint.ensures.runs honest start history calls fits in
    let kept = (run.ran.crash keeps).keeps in
    let format = (state_of d store).format in
    let left = left_index d store store kept.own (follows_same (held_by d store)) start run.then_history run.ran.fits.explains.count kept.parts image (left_now (held_by d store) image may) in
    subst (λ (n : ℕ). IsIndexAfterPrefix format start history n image) (c.in-Ok.ensures.durable ∙ sym c.in-Ok.ensures.number)
    (subst (λ (actions : List Action). IsIndexAfterPrefix format start actions (held_by d store).durable image) run.tells.history_is left)
