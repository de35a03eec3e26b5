use Rattle.std.specs.Prelude.{length}
use Rattle.std.proofs.Common.{arith, inl, inr, sym, ap, subst, ◌∙◌, ⊎_elim, IsTrue}
use Rattle.device.specs.Moments.{AtEachMoment}
use Rattle.page_store.specs.Restart.{CrashesToPages}
use Rattle.page_action.specs.States.{State}
use Rattle.page_store.specs.Stores.{state_of, device_of}
use Rattle.recovery.specs.Opening.{IsFreshlyOpened}
use Rattle.schedule.specs.MomentInvariants.{IsUnused}
use Rattle.world.proofs.Opened.{freshly_unused, tree_opened, same_start, same_kept}
use Rattle.world.proofs.opening.World+Store+D+T.open.Goals as goal

pub returns-in-Err-new-clause-begins : goal.returns-in-Err-new-clause-begins
returns-in-Err-new-clause-begins g c honest frames from to format pages index tree =
    ⊎_elim (λ bad. absurd (⊎_elim (λ none. omega (arith, none, from)) (λ many. omega (arith, many, to)) (c.in-Err-new.ensures.limits bad)))
    (λ memory. inl memory)
    c.in-Err-new.ensures.memory

pub returns-in-Err-new-clause-cause : goal.returns-in-Err-new-clause-cause
returns-in-Err-new-clause-cause g c =
    ⊎_elim (λ bad. inl (bad, c.in-Err-new.ensures.limits bad)) (λ memory. inr (inl memory)) c.in-Err-new.ensures.memory

pub returns-in-Ok-new-clause-begins : goal.returns-in-Ok-new-clause-begins
returns-in-Ok-new-clause-begins g c honest frames from to format pages index tree =
    let store = c.in-Ok.store in
    let st = state_of g.D.Device store in
    let same = c.in-Ok.ensures.same (subst (λ (d : g.row.D.Denot). IsTrue (g.D.Device.is_honest d)) (ap (device_of g.D.Device) c.in-Ok-new.ensures.store) honest) frames format pages index in
    let unused : IsUnused st = freshly_unused c.args.frames st c.in-Ok.ensures.opened (tree_opened format st.format pages st.pages same.format_is same.pages_are tree) in
    record {
      format_is = ap (λ s. (state_of g.D.Device s).format) c.in-Ok-new.ensures.store ∙ same.format_is;
      fits = same_start _ _ c.in-Ok-new.world st.pages pages same.pages_are (c.in-Ok-new.ensures.fits unused);
      keeps = same_kept _ _ c.in-Ok-new.world st.pages pages same.pages_are (c.in-Ok-new.ensures.keeps unused same.own);
    }

pub returns-in-Err-clause-begins : goal.returns-in-Err-clause-begins
returns-in-Err-clause-begins g c honest frames from to format pages index tree =
    c.in-Err.ensures.same honest frames format pages index

pub returns-in-Err-clause-cause : goal.returns-in-Err-clause-cause
returns-in-Err-clause-cause g c =
    ⊎_elim (λ failed. inr (inr (inl failed))) (λ refused. inr (inr (inr refused.0))) c.in-Err.ensures.cause

pub returns-in-Ok-new-clause-moments : goal.returns-in-Ok-new-clause-moments
returns-in-Ok-new-clause-moments g c honest format pages index =
    let same = ap (device_of g.D.Device) c.in-Ok-new.ensures.store in
    subst (λ (d : g.row.D.Denot). AtEachMoment (CrashesToPages format pages) (g.D.Device.trace c.args.device) (g.D.Device.trace d)) (sym same)
    (c.in-Ok.ensures.moments (subst (λ (d : g.row.D.Denot). IsTrue (g.D.Device.is_honest d)) same honest) format pages index)

pub returns-in-Err-new-clause-moments : goal.returns-in-Err-new-clause-moments
returns-in-Err-new-clause-moments g c honest format pages index =
    let same = c.into_device.ensures ∙ ap (device_of g.D.Device) c.in-Err-new.ensures.given_back in
    subst (λ (d : g.row.D.Denot). AtEachMoment (CrashesToPages format pages) (g.D.Device.trace c.args.device) (g.D.Device.trace d)) (sym same)
    (c.in-Ok.ensures.moments (subst (λ (d : g.row.D.Denot). IsTrue (g.D.Device.is_honest d)) same honest) format pages index)

pub returns-in-Ok-new-clause-frames : goal.returns-in-Ok-new-clause-frames
returns-in-Ok-new-clause-frames g c =
    subst (λ (st : State). IsFreshlyOpened c.args.frames st) (ap (state_of g.D.Device) (sym c.in-Ok-new.ensures.store)) c.in-Ok.ensures.opened

pub returns-in-Ok-new-clause-len : goal.returns-in-Ok-new-clause-len
returns-in-Ok-new-clause-len g c =
    ap (λ d. length (g.D.Device.trace d).now.seen) (ap (device_of g.D.Device) c.in-Ok-new.ensures.store) ∙ c.in-Ok.ensures.len

pub returns-in-Err-new-clause-len : goal.returns-in-Err-new-clause-len
returns-in-Err-new-clause-len g c =
    ap (λ d. length (g.D.Device.trace d).now.seen) (c.into_device.ensures ∙ ap (device_of g.D.Device) c.in-Err-new.ensures.given_back) ∙ c.in-Ok.ensures.len
