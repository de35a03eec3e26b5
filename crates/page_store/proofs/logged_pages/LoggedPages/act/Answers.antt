use Rattle.std.proofs.Common.{◌≡◌, ◌≤◌, ◌∙◌, ℕ, suc, Err, List, ap, subst, sym, length, get_or, arith}
use Rattle.std.proofs.lemmas.Option.{slice_get-get_or}
use Rattle.index_model.specs.declared.format.Format.{Format}
use Rattle.page_codec.specs.declared.page.Page.{Page}
use Rattle.page_action.specs.States.{with_pages}
use Rattle.page_action.specs.Stored.{AreStored, AreActable}
use Rattle.redo_log.specs.Groups.{AreImages}
use Rattle.redo_log.specs.Kept.{end_with, waiting_blocks}
use Rattle.page_store.specs.Changing.{AreActed, used_after}
use Rattle.page_store.specs.Histories.{pages_now}
use Rattle.page_store.specs.Logged.{held_of}
use Rattle.page_store.specs.Writing.{HoldsPages, HoldsWaiting}
use Rattle.page_store.proofs.Holding.{waits_acted}
use Rattle.page_store.proofs.Acting.{are_images, alive_of}
use Rattle.page_store.proofs.ActFollows.{follows_act}
use Rattle.page_store.proofs.Acts.{pages_acted, length_acted}
use Rattle.page_store.proofs.Frames.{actable_at}
use Rattle.page_store.proofs.Images.{stored-with_pages}
use Rattle.page_store.proofs.Keeping.{holds_acted}
use Rattle.page_store.proofs.Misfits.{room_left}
use Rattle.page_store.proofs.FollowLaws.{follows_log}
use Rattle.page_store.proofs.Logging.{blocks_changed, no_room, alive_full, full_is}
use Rattle.page_store.proofs.logged_pages.LoggedPages.act.Given.{Over}
use Rattle.page_store.proofs.logged_pages.LoggedPages.act.Goals.{After-reckon-self}
use Rattle.page_store.proofs.logged_pages.LoggedPages.act.Goals as goal

pub append-requires : goal.append-requires
append-requires g c = record {
  images = subst (λ (l : Format). AreImages l c.args.pages.now) (sym c.args.self.now.log_format) (are_images c.args.self.now.format _ c.args.pages.now c.requires.actable);
}

pub returns-in_err-number-clause-steps : goal.returns-in_err-number-clause-steps
returns-in_err-number-clause-steps g c = follows_log (held_of g.D.Device c.args.self.now) c.append.new.self c.in_err-number.ensures.err

pub used_after-self-requires : goal.used_after-self-requires
used_after-self-requires g c = record {
  few = λ k d lt.
      let page = get_or c.args.pages.now k d in
      let below = (actable_at c.args.self.now.format _ c.args.pages.now k page c.requires.actable (slice_get-get_or c.args.pages.now k d lt)).1 in
      omega (arith, below, c.args.self.now.allowed.pages_to);
}

-- the pages after the act
pages_are : (g : Over) (c : After-reckon-self g) → pages_now c.reckon-self.result.value ≡ with_pages (pages_now c.args.self.now.history.value) c.args.pages.now
pages_are g c = ap pages_now c.reckon-self.ensures ∙ pages_acted c.args.self.now.history.value c.args.pages.now

number_is : (g : Over) (c : After-reckon-self g) → c.in_ok-number.number ≡ suc c.args.self.now.acts
number_is g c = c.in_ok-number.ensures.number ∙ ap suc (sym c.args.self.now.counted)

-- they are stored, and not too many
stored : (g : Over) (c : After-reckon-self g) → AreStored c.args.self.now.format 0 (with_pages (pages_now c.args.self.now.history.value) c.args.pages.now)
    × (length (with_pages (pages_now c.args.self.now.history.value) c.args.pages.now) ≤ c.args.self.now.format.pages)
stored g c =
    let held = c.args.self.now in
    stored-with_pages held.format (length (pages_now held.history.value)) (pages_now held.history.value) c.args.pages.now c.requires.actable (omega arith)
    held.stored (subst (λ (n : ℕ). n ≤ held.format.pages) held.used_is held.few)

used : (g : Over) (c : After-reckon-self g) → c.used_after-self.result ≡ length (with_pages (pages_now c.args.self.now.history.value) c.args.pages.now)
used g c =
    let held = c.args.self.now in
    let pages = pages_now held.history.value in
    c.used_after-self.ensures ∙ (ap (λ (n : ℕ). used_after n c.args.pages.now) held.used_is ∙ sym (length_acted held.format (length pages) pages c.args.pages.now c.requires.actable (omega arith)))

pub invariant_of-self-2-clause-log_format : goal.invariant_of-self-2-clause-log_format
invariant_of-self-2-clause-log_format g c = c.in_ok-number.ensures.format ∙ c.args.self.now.log_format

pub invariant_of-self-2-clause-stored : goal.invariant_of-self-2-clause-stored
invariant_of-self-2-clause-stored g c =
    let here = (goal.at.invariant_of-self-2-clause-stored g c).After-reckon-self in
    subst (AreStored c.args.self.now.format 0) (sym (pages_are g here)) (stored g here).0

pub invariant_of-self-2-clause-used_is : goal.invariant_of-self-2-clause-used_is
invariant_of-self-2-clause-used_is g c =
    let here = (goal.at.invariant_of-self-2-clause-used_is g c).After-reckon-self in
    used g here ∙ sym (ap length (pages_are g here))

pub invariant_of-self-2-clause-few : goal.invariant_of-self-2-clause-few
invariant_of-self-2-clause-few g c =
    let here = (goal.at.invariant_of-self-2-clause-few g c).After-reckon-self in
    subst (λ (n : ℕ). n ≤ c.args.self.now.format.pages) (sym (used g here)) (stored g here).1

pub invariant_of-self-2-clause-holds : goal.invariant_of-self-2-clause-holds
invariant_of-self-2-clause-holds g c =
    let here = (goal.at.invariant_of-self-2-clause-holds g c).After-reckon-self in
    let held = c.args.self.now in
    let pages = pages_now held.history.value in
    let pool = c.change_all.new.pool in
    let m = (g.D.Device.trace held.device).now in
    let honest = g.D.Device.is_honest held.device in
    subst (λ (ps : List Page). HoldsPages held.format ps c.in_ok-number.number pool honest m) (sym (pages_are g here))
    (subst (λ (n : ℕ). HoldsPages held.format (with_pages pages c.args.pages.now) n pool honest m) (sym (number_is g here))
    (holds_acted held.format pages held.acts held.pool pool honest m c.args.pages.now held.holds held.stored (subst (λ (n : ℕ). n ≤ held.format.pages) held.used_is held.few) c.requires.actable
    (subst (λ (n : ℕ). AreActed held.pool pool c.args.pages.now n) (number_is g here) c.change_all.ensures)))

pub invariant_of-self-2-clause-waits : goal.invariant_of-self-2-clause-waits
invariant_of-self-2-clause-waits g c =
    let here = (goal.at.invariant_of-self-2-clause-waits g c).After-reckon-self in
    let held = c.args.self.now in
    subst (λ (l : List Page). HoldsWaiting l held.durable c.change_all.new.pool) (sym c.in_ok-number.ensures.images)
    (waits_acted held.log c.args.pages.now held.durable c.in_ok-number.number held.pool c.change_all.new.pool (omega (arith, number_is g here, held.not_ahead)) held.waits c.change_all.ensures)

pub returns-clause-steps : goal.returns-clause-steps
returns-clause-steps g c =
    let here = (goal.at.returns-clause-steps g c).After-reckon-self in
    let held = c.args.self.now in
    follows_act (held_of g.D.Device held) c.append.new.self c.args.pages.now c.room-self.result c.room-self.result c.append.ensures.format c.append.ensures.stopped
    (λ m acts forced k. c.in_ok-number.ensures.keeps m acts forced k)
    (subst (λ (l : Format). AreActable l (length (pages_now held.history.value)) c.args.pages.now) (sym held.log_format) c.requires.actable)
    _ _ (λ block named. c.change_all.ensures.acted block named ∙ number_is g here) (λ block none. c.change_all.ensures.before block none)
    c.in_ok-number.number c.reckon-self.result.value (number_is g here) c.reckon-self.ensures

pub returns-clause-room : goal.returns-clause-room
returns-clause-room g c =
    let own = c.args.self.now in
    let format = sym (c.append.ensures.format ∙ own.log_format) in
    room_left own.log c.append.new.self (length c.args.pages.now) own.room c.room-self.result
    (λ some. subst (λ (l : Format). end_with own.log own.room ≤ l.log_bytes) format (own.fits (alive_of c.append.result _ _ c.in_ok-number.was c.append.ensures.stopped_first) some))
    c.in_ok-number.ensures.room c.room-self.ensures.no_more

pub returns-clause-pages : goal.returns-clause-pages
returns-clause-pages g c = pages_are g (goal.at.returns-clause-pages g c).After-reckon-self

pub returns-clause-waiting : goal.returns-clause-waiting
returns-clause-waiting g c = c.in_ok-number.ensures.blocks ∙ blocks_changed (waiting_blocks c.args.self.now.log) c.args.pages.now

pub returns-in_err-number-clause-full : goal.returns-in_err-number-clause-full
returns-in_err-number-clause-full g c is =
    let own = c.args.self.now in
    let refused = c.in_err-number.was ∙ ap Err (full_is c.from_residual.result _ c.from_residual.ensures.1 is) in
    no_room own.log own.room c.args.pages.now
    (λ some. subst (λ (l : Format). end_with own.log own.room ≤ l.log_bytes) (sym own.log_format) (own.fits (alive_full c.append.result _ refused c.append.ensures.stopped_first) some))
    (c.append.ensures.some refused) (c.append.ensures.full refused)
