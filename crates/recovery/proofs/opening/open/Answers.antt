use Rattle.std.proofs.Common.{◌≡◌, ◌∙◌, ℕ, Bool, true, IsTrue, List, sym, ap, subst}
use Rattle.page_action.specs.States.{State}
use Rattle.page_store.specs.Stores.{state_of}
use Rattle.recovery.proofs.Blocks.{seen_of}
use Rattle.recovery.proofs.Imports.{Format, Page, StandsOpened, format_of_room, pages_of_room, AreSeen, DiskMoment, IsFound, IsFront, HasGroups, StandsOnDevice, AreInUse, Parts}
use Rattle.recovery.proofs.opening.open.Goals as goal

pub returns-in-Ok-clause-same : goal.returns-in-Ok-clause-same
returns-in-Ok-clause-same g c = λ honest frames format pages index.
    let here = (g.D.Device.trace c.read_index-read.new.device).now in
    let same = c.in-Ok.ensures.same (subst (λ d. IsTrue (g.D.Device.is_honest d)) c.new.ensures.device honest) frames format pages index in
    record {
      format_is = ap (λ (st : State). st.format) c.new.ensures.state ∙ same.0;
      pages_are = ap (λ (st : State). st.pages) c.new.ensures.state ∙ same.1.pages_are;
      own = c.new.ensures.own (subst (λ (ps : List Page). StandsOpened c.in-Ok.field-0.log here ps) (sym same.1.pages_are) same.1.stands);
    }

-- what was found and is shown, stands on the device
stands_on : (honest : Bool) (st : State) (old new : List ℕ) (parts : Parts) → IsTrue honest → IsFound honest old new parts
    → st.format ≡ format_of_room parts.found.room → st.pages ≡ pages_of_room parts.found.room → StandsOnDevice st old new
stands_on honest st old new parts is found format_is pages_are =
    let all = found.restored.read in
    let same : st.format ≡ found.format = format_is ∙ all.read.format_is in
    record {
      front = subst (λ (format : Format). IsFront format old) (sym same) (found.front is);
      undamaged = subst (λ (format : Format). HasGroups format old) (sym same) (found.undamaged is);
      in_use = subst (λ (format : Format). AreInUse format st.pages new) (sym same)
          (subst (λ (pages : List Page). AreInUse found.format pages new) (sym pages_are)
          (record { stored = all.read.stored; few = all.few; stand = all.read.stand is; end = all.end is }));
    }

pub returns-in-Ok-clause-read : goal.returns-in-Ok-clause-read
returns-in-Ok-clause-read g c = λ honest.
    subst (λ d. StandsOnDevice (state_of g.D.Device c.new.result) (g.D.Device.trace c.args.device).now.seen (g.D.Device.trace d).now.seen) (sym c.new.ensures.device)
    (stands_on _ (state_of g.D.Device c.new.result) _ _ c.in-Ok.field-0 (subst (λ d. IsTrue (g.D.Device.is_honest d)) c.new.ensures.device honest) c.in-Ok.ensures.found
    (ap (λ (st : State). st.format) c.new.ensures.state) (ap (λ (st : State). st.pages) c.new.ensures.state))

-- what was read stands on the device
seen_on : (honest : Bool) (old : List ℕ) (m : DiskMoment) (parts : Parts) → honest ≡ true → IsFound honest old m.seen parts
    → AreSeen (format_of_room parts.found.room) (pages_of_room parts.found.room) m
seen_on honest old m parts is found =
    let all = found.restored.read in
    subst (λ (format : Format). AreSeen format (pages_of_room parts.found.room) m) (sym all.read.format_is)
    (seen_of found.format (pages_of_room parts.found.room) m all.read.stored all.few found.long (all.read.stand is))

pub new-requires-clause-seen : goal.new-requires-clause-seen
new-requires-clause-seen g c honest = seen_on _ _ (g.D.Device.trace c.read_index-read.new.device).now c.in-Ok.field-0 honest c.in-Ok.ensures.found
