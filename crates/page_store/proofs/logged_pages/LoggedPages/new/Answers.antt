use Rattle.std.proofs.Common.{◌<◌, ◌≤◌, ◌∙◌, ℕ, List, length, refl, subst, sym, ap, arith}
use Rattle.page_store.proofs.Imports.{end_with, waiting_count, Format, Page, AreStored, place, HoldsPages}
use Rattle.page_store.proofs.Opened.{is_own, room_is}
use Rattle.redo_log.proofs.Standing.{waits_none}
use Rattle.page_store.proofs.Holding.{waits_nothing}
use Rattle.page_store.proofs.Keeping.{holds_opened, none_changed, pages_opened}
use Rattle.page_store.proofs.logged_pages.LoggedPages.new.Goals as goal

pub returns-clause-own : goal.returns-clause-own
returns-clause-own g c =
    let log_format = sym c.requires.log_format in
    is_own _ (subst (λ (l : Format). AreStored l 0 c.args.history.value.start) log_format c.requires.stored)
    (subst (λ (l : Format). length c.args.history.value.start ≤ l.pages) log_format (subst (λ n. n ≤ c.args.format.pages) c.requires.used c.requires.few))
    (subst (λ (l : Format). place l l.pages ≤ length (g.D.Device.trace c.args.device).now.seen) log_format c.requires.sized)
    (none_changed c.args.pool c.law.ensures c.requires.empty) c.requires.begun refl refl

pub invariant_of-result-clause-stored : goal.invariant_of-result-clause-stored
invariant_of-result-clause-stored g c = subst (λ (ps : List Page). AreStored c.args.format 0 ps) (sym (pages_opened c.args.history.value c.requires.begun)) c.requires.stored

pub invariant_of-result-clause-used_is : goal.invariant_of-result-clause-used_is
invariant_of-result-clause-used_is g c = c.requires.used ∙ ap length (sym (pages_opened c.args.history.value c.requires.begun))

pub invariant_of-result-clause-holds : goal.invariant_of-result-clause-holds
invariant_of-result-clause-holds g c =
    subst (λ (ps : List Page). HoldsPages c.args.format ps 0 c.args.pool (g.D.Device.is_honest c.args.device) (g.D.Device.trace c.args.device).now) (sym (pages_opened c.args.history.value c.requires.begun))
    (holds_opened c.args.format c.args.history.value.start c.args.pool (g.D.Device.is_honest c.args.device) (g.D.Device.trace c.args.device).now c.law.ensures c.requires.empty c.requires.seen)

pub invariant_of-result-clause-waits : goal.invariant_of-result-clause-waits
invariant_of-result-clause-waits g c = waits_nothing _ 0 c.args.pool (waits_none c.args.log c.requires.idle)

pub invariant_of-result-clause-fits : goal.invariant_of-result-clause-fits
invariant_of-result-clause-fits g c =
    λ alive some. subst (λ (l : Format). end_with c.args.log c.room-room.result ≤ l.log_bytes) c.requires.log_format (c.room-room.ensures.fit c.room-room.result some (omega arith))

pub returns-clause-closed : goal.returns-clause-closed
returns-clause-closed g c = λ empty.
    let log = c.args.log in
    let fits = subst (λ (l : Format). (n : ℕ) → 0 < n → n ≤ c.room-room.result → end_with log n ≤ l.log_bytes) c.requires.log_format c.room-room.ensures.fit in
    let room = room_is log.at (waiting_count log) c.room-room.result c.args.format.log_bytes empty c.requires.idle fits
    (subst (λ (l : Format). (n : ℕ) → c.room-room.result < n → end_with log n ≤ l.log_bytes → ⊥) c.requires.log_format c.room-room.ensures.no_more) in
    record { room = room; promised = room }
