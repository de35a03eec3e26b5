-- What fitted a moment fits it with a store that follows, with the same pages and calls.
use Rattle.std.proofs.Common.{◌≡◌, Bool, ap}
use Rattle.schedule.specs.Staying.{SameStateFits}
use Rattle.schedule.proofs.Imports.{Entry, Format, State, Ghosts, Moment, Fits}
use Rattle.schedule.proofs.Events.{fits_still}
use Rattle.schedule.proofs.Fitting.{matches_of}
use Rattle.schedule.proofs.Keeping.{Laws, safe, keeps_on, no_growth}

pub same_state_fits : {S : Type 0} (g : Ghosts S) (laws : Laws g) → SameStateFits g
same_state_fits {S} g laws start old store follows same fits =
    let still : Fits g start (record old { store = store }) = fits_still g start old store same fits in
    let format : (g.state store).format ≡ (g.state old.store).format = ap (λ (st : State). st.format) same in (
      still,
      λ keeps. safe g laws start old (record old { store = store }) follows keeps.own (matches_of still)
          (keeps_on g laws start old (record old { store = store }) follows format (no_growth old.history) fits.explains.count (matches_of still) keeps),
    )
