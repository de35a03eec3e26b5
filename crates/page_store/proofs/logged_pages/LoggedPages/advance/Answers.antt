use Rattle.std.proofs.Common.{rules, List, ◌≡◌, ◌∙◌, sym, subst}
use Rattle.page_store.proofs.Acting.{failures_rise, stop_fails}
use Rattle.page_store.proofs.ForceFollows.{follows_advanced}
use Rattle.page_store.proofs.Imports.{Format, held_of, ChangesOnly, goes_now, same_only}
use Rattle.page_store.proofs.Holding.{waits_changed}
use Rattle.page_store.specs.Writing.{HoldsWaiting}
use Rattle.page_codec.specs.declared.page.Page.{Page}
use Rattle.page_store.proofs.Keeping.{holds_logged}
use Rattle.page_store.proofs.logged_pages.LoggedPages.advance.Given.{Over}
use Rattle.page_store.proofs.logged_pages.LoggedPages.advance.Goals.{After-advance}
use Rattle.page_store.proofs.logged_pages.LoggedPages.advance.Goals as goal

-- only the log's range changes
only : (g : Over) (c : After-advance g) → ChangesOnly 4096 c.args.self.now.format.log_bytes (g.D.Device.trace c.args.self.now.device).now (g.D.Device.trace c.advance.new.device).now
only g c =
    subst (λ (l : Format). ChangesOnly 4096 l.log_bytes (g.D.Device.trace c.args.self.now.device).now (g.D.Device.trace c.advance.new.device).now) c.args.self.now.log_format
    (goes_now _ (g.D.Device.trace c.args.self.now.device) (g.D.Device.trace c.advance.new.device) c.advance.ensures.outside (same_only 4096 _ _))

pub invariant_of-self : goal.invariant_of-self
invariant_of-self g c =
    let held = c.args.self.now in
    record {
      allowed = held.allowed;
      log_format = c.advance.ensures.same.format ∙ held.log_format;
      sized = search rules;
      stored = held.stored;
      used_is = held.used_is;
      few = held.few;
      reach = held.reach;
      holds = holds_logged held.format _ held.acts held.pool _ (g.D.Device.trace held.device).now (g.D.Device.trace c.advance.new.device).now held.holds
          _ c.advance.ensures.honest (only g (goal.at.invariant_of-self g c).After-advance);
      waits = subst (λ (l : List Page). HoldsWaiting l held.durable held.pool) (sym c.advance.ensures.images) held.waits;
      counted = search rules;
      not_ahead = held.not_ahead;
      forced = search rules;
      fits = search rules;
      kept_promise = held.kept_promise;
      new_promise = held.new_promise;
      promise = held.promise;
    }

pub advance-requires-clause-held : goal.advance-requires-clause-held
advance-requires-clause-held g c = waits_changed _ c.args.self.now.durable c.args.self.now.pool c.args.self.now.waits

pub returns-clause-steps : goal.returns-clause-steps
returns-clause-steps g c =
    follows_advanced (held_of g.D.Device c.args.self.now) c.advance.new.log (g.D.Device.trace c.advance.new.device) (g.D.Device.is_honest c.advance.new.device) (g.D.Device.failures c.advance.new.device)
    c.advance.ensures.same.format (sym c.is_stopped.ensures ∙ c.if-is_stopped.false) c.advance.ensures.moments c.advance.ensures.outside c.advance.ensures.len c.advance.ensures.honest
    (failures_rise c.advance.result _ _ _ c.advance.ensures.cause) c.advance.result c.advance.ensures.stopped c.advance.ensures.keeps
    (λ failed. stop_fails c.advance.result _ _ _ c.advance.ensures.cause (sym c.is_stopped.ensures ∙ c.if-is_stopped.false) failed)
