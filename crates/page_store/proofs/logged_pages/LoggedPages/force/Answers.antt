use Rattle.std.proofs.Common.{rules, List, ◌≡◌, ◌∙◌, ◌+◌, ◌<◌, [], inl, inr, refl, ap, subst, sym, arith}
use Rattle.page_store.proofs.Logging.{none_waits}
use Rattle.page_store.proofs.Misfits.{misfit, promise_left}
use Rattle.page_store.proofs.Acting.{failures_rise, stop_fails}
use Rattle.page_store.proofs.ForceFollows.{follows_failed_force, follows_force}
use Rattle.page_store.proofs.Imports.{is_err, Format, WaitsOn, end_with, waiting_blocks, held_of, backing_of, LoggedPages, Follows, follows_same, ChangesOnly, goes_now, same_only}
use Rattle.page_store.proofs.Holding.{waits_changed, waits_nothing}
use Rattle.page_store.specs.Writing.{HoldsWaiting}
use Rattle.page_codec.specs.declared.page.Page.{Page}
use Rattle.page_store.proofs.Keeping.{holds_logged}
use Rattle.page_store.proofs.logged_pages.LoggedPages.force.Given.{Over}
use Rattle.page_store.proofs.logged_pages.LoggedPages.force.Goals.{After-force, then-self+in_ok-force, else-self}
use Rattle.page_store.proofs.logged_pages.LoggedPages.force.Goals as goal

-- only the log's range changes
only : (g : Over) (c : After-force g) → ChangesOnly 4096 c.args.self.now.format.log_bytes (g.D.Device.trace c.args.self.now.device).now (g.D.Device.trace c.force.new.device).now
only g c =
    subst (λ (l : Format). ChangesOnly 4096 l.log_bytes (g.D.Device.trace c.args.self.now.device).now (g.D.Device.trace c.force.new.device).now) c.args.self.now.log_format
    (goes_now _ (g.D.Device.trace c.args.self.now.device) (g.D.Device.trace c.force.new.device) c.force.ensures.outside (same_only 4096 _ _))

pub invariant_of-self : goal.invariant_of-self
invariant_of-self g c =
    let held = c.args.self.now in
    record {
      allowed = held.allowed;
      log_format = c.force.ensures.same.format ∙ held.log_format;
      sized = search rules;
      stored = held.stored;
      used_is = held.used_is;
      few = held.few;
      reach = held.reach;
      holds = holds_logged held.format _ held.acts held.pool _ (g.D.Device.trace held.device).now (g.D.Device.trace c.force.new.device).now held.holds
          _ c.force.ensures.honest (only g (goal.at.invariant_of-self g c).After-force);
      waits = subst (λ (l : List Page). HoldsWaiting l held.durable held.pool) (sym c.in_err-force.ensures.images) held.waits;
      counted = search rules;
      not_ahead = held.not_ahead;
      forced = search rules;
      fits = search rules;
      kept_promise = held.kept_promise;
      new_promise = held.new_promise;
      promise = held.promise;
    }

pub invariant_of-self-then-self-clause-holds : goal.invariant_of-self-then-self-clause-holds
invariant_of-self-then-self-clause-holds g c =
    let held = c.args.self.now in
    holds_logged held.format _ held.acts held.pool _ (g.D.Device.trace held.device).now (g.D.Device.trace c.force.new.device).now held.holds _
    c.force.ensures.honest (only g (goal.at.invariant_of-self-then-self-clause-holds g c).After-force)

pub force-requires-clause-held : goal.force-requires-clause-held
force-requires-clause-held g c = waits_changed _ c.args.self.now.durable c.args.self.now.pool c.args.self.now.waits

pub invariant_of-self-then-self-clause-waits : goal.invariant_of-self-then-self-clause-waits
invariant_of-self-then-self-clause-waits g c = waits_nothing _ _ _ c.in_ok-force.ensures.none

pub returns-in_err-force-clause-steps : goal.returns-in_err-force-clause-steps
returns-in_err-force-clause-steps g c =
    follows_failed_force (held_of g.D.Device c.args.self.now) c.force.new.log (g.D.Device.trace c.force.new.device) (g.D.Device.is_honest c.force.new.device) (g.D.Device.failures c.force.new.device)
    c.force.ensures.same.format (sym c.is_stopped.ensures ∙ c.if-is_stopped.false) c.force.ensures.moments c.force.ensures.outside c.force.ensures.len c.force.ensures.honest
    (failures_rise c.force.result _ _ _ c.force.ensures.cause) (c.force.ensures.stopped ∙ ap is_err c.in_err-force.was)
    (stop_fails c.force.result _ _ _ c.force.ensures.cause (sym c.is_stopped.ensures ∙ c.if-is_stopped.false) (ap is_err c.in_err-force.was))

pub invariant_of-self-then-self-clause-log_format : goal.invariant_of-self-then-self-clause-log_format
invariant_of-self-then-self-clause-log_format g c = c.force.ensures.same.format ∙ c.args.self.now.log_format

pub invariant_of-self-then-self-clause-kept_promise : goal.invariant_of-self-then-self-clause-kept_promise
invariant_of-self-then-self-clause-kept_promise g c =
    let held = c.args.self.now in
    let left = c.room.result in
    let most = promise_left held.log c.force.new.log held.format.log_bytes held.room left (held.fits (sym c.is_stopped.ensures ∙ c.if-is_stopped.false)) (c.in_ok-force.ensures.room (left + 1))
    (subst (λ (l : Format). l.log_bytes < end_with c.force.new.log (left + 1)) (c.force.ensures.same.format ∙ held.log_format)
    (misfit c.force.new.log (left + 1) (c.room.ensures.no_more (left + 1) (omega arith)))) in
    omega (arith, most, held.new_promise c.if-self.true, c.min-self.ensures)

pub returns-clause-steps : goal.returns-clause-steps
returns-clause-steps g c =
    let start = held_of g.D.Device c.args.self.now in
    elim c.if-self.branch [
      | then-self+in_ok-force w ↦ subst (λ s. Follows start (held_of g.D.Device s)) (sym w.self-is)
          (follows_force start w.force.new.log (g.D.Device.trace w.force.new.device) (g.D.Device.is_honest w.force.new.device) (g.D.Device.failures w.force.new.device)
          w.force.ensures.same.format (sym c.is_stopped.ensures ∙ c.if-is_stopped.false) w.force.ensures.moments w.force.ensures.outside w.force.ensures.len w.force.ensures.honest
          (failures_rise w.force.result _ _ _ w.force.ensures.cause) w.in_ok-force.ensures.keeps c.args.self.now.not_ahead w.min-self.result (w.force.ensures.stopped ∙ ap is_err w.in_ok-force.was))
      | else-self w ↦ subst (λ s. Follows start (held_of g.D.Device s)) (sym w.self-is) (follows_same start)
    ]

pub returns-clause-waits : goal.returns-clause-waits
returns-clause-waits g c =
    let held = c.args.self.now in
    let start = backing_of (held_of g.D.Device held) in
    elim c.if-self.branch [
      | then-self+in_ok-force w ↦ subst (λ s. WaitsOn held.acts start (backing_of (held_of g.D.Device s))) (sym w.self-is) (inr (none_waits _ w.in_ok-force.ensures.written, refl))
      | else-self w ↦ subst (λ s. WaitsOn held.acts start (backing_of (held_of g.D.Device s))) (sym w.self-is) (inl refl)
    ]

pub returns-clause-none : goal.returns-clause-none
returns-clause-none g c =
    let held = c.args.self.now in
    elim c.if-self.branch [
      | then-self+in_ok-force w ↦ subst (λ (s : LoggedPages _ g.D.Device). waiting_blocks s.log ≡ []) (sym w.self-is) (none_waits _ w.in_ok-force.ensures.written)
      | else-self w ↦ subst (λ (s : LoggedPages _ g.D.Device). waiting_blocks s.log ≡ []) (sym w.self-is)
          (none_waits _ (held.forced (sym c.is_stopped.ensures ∙ c.if-is_stopped.false) (let few = held.not_ahead in omega (arith, few, w.if-self.false))))
    ]
