use Rattle.std.proofs.Common.{◌≡◌, inl, inr, ap, sym, subst, ◌∙◌, IsTrue}
use Rattle.access_method.proofs.Imports.{State, state_of, device_of, IsUnused}
use Rattle.world.proofs.Opened.{freshly_unused, tree_opened}
use Rattle.access_method.specs.Files.{IsOpenFault}
use Rattle.access_method.proofs.Opened.{open_fault}
use Rattle.access_method.proofs.Seats.{same_start, same_kept}
use Rattle.access_method.proofs.index.Index+Store+D.open.Goals as goal

pub returns-in-Ok-new-clause-begins : goal.returns-in-Ok-new-clause-begins
returns-in-Ok-new-clause-begins g c honest frames format pages index tree =
    let store = c.in-Ok.store in
    let st = state_of g.D.Device store in
    let same = c.in-Ok.ensures.same (subst (λ (d : g.row.D.Denot). IsTrue (g.D.Device.is_honest d)) (ap (device_of g.D.Device) c.in-Ok-new.ensures.store) honest) frames format pages index in
    let unused : IsUnused st = freshly_unused c.args.frames st c.in-Ok.ensures.opened (tree_opened format st.format pages st.pages same.format_is same.pages_are tree) in
    record {
      format_is = ap (λ s. (state_of g.D.Device s).format) c.in-Ok-new.ensures.store ∙ same.format_is;
      fits = same_start _ c.in-Ok-new.index st.pages pages same.pages_are (c.in-Ok-new.ensures.fits unused);
      keeps = same_kept _ c.in-Ok-new.index st.pages pages same.pages_are (c.in-Ok-new.ensures.keeps unused same.own);
      closed = c.in-Ok-new.ensures.closed;
    }

pub returns-in-Err-new-clause-begins : goal.returns-in-Err-new-clause-begins
returns-in-Err-new-clause-begins g c honest frames format pages index tree = inl c.in-Err-new.ensures.fault

-- there was no room for the calls of its sessions after an index that was opened
pub returns-in-Err-new-clause-cause : goal.returns-in-Err-new-clause-cause
returns-in-Err-new-clause-cause g c =
    let same : c.into_device.result ≡ device_of g.D.Device c.in-Ok.store = c.into_device.ensures ∙ ap (device_of g.D.Device) c.in-Err-new.ensures.given_back in
    inr (
      inr (
        (state_of g.D.Device c.in-Ok.store).format,
        c.in-Ok.ensures.frames,
        (λ honest. (c.in-Ok.ensures.read (subst (λ (d : g.row.D.Denot). IsTrue (g.D.Device.is_honest d)) same honest)).front),
        inl c.in-Err-new.ensures.fault,
      ),
      ap (λ (d : g.row.D.Denot). g.D.Device.failures d) same ∙ c.in-Ok.ensures.done,
    )

pub returns-in-Err-clause-begins : goal.returns-in-Err-clause-begins
returns-in-Err-clause-begins g c honest frames format pages index tree = c.in-Err.ensures.same honest frames format pages index

pub returns-in-Ok-new-clause-frames : goal.returns-in-Ok-new-clause-frames
returns-in-Ok-new-clause-frames g c = ap (λ s. (state_of g.D.Device s).frames) c.in-Ok-new.ensures.store ∙ ap (λ (st : State). st.frames) c.in-Ok.ensures.opened.is

pub returns-in-Err-new-clause-fault : goal.returns-in-Err-new-clause-fault
returns-in-Err-new-clause-fault g c = subst IsOpenFault (sym c.in-Err-new.ensures.fault) tt

pub returns-in-Err-clause-fault : goal.returns-in-Err-clause-fault
returns-in-Err-clause-fault g c = open_fault _ _ _ _ _ _ _ c.in-Err.ensures.cause
