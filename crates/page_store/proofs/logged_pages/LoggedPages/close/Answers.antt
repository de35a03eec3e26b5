use Rattle.std.proofs.Common.{rules, List, ◌≡◌, ◌≤◌, ◌∙◌, true, false, subst, sym, ap, arith}
use Rattle.page_store.proofs.Imports.{is_err, ChangesOnly, goes_now, same_only, Format, whole_room, is_stopped, format_of, forgets_all, pages_now, held_of}
use Rattle.page_store.proofs.Misfits.{whole_left}
use Rattle.page_store.proofs.Acting.{failures_rise, stop_fails}
use Rattle.page_store.proofs.CloseFollows.{IsClosing, follows_closed, home_firm}
use Rattle.page_store.specs.Writing.{HoldsWaiting}
use Rattle.page_codec.specs.declared.page.Page.{Page}
use Rattle.page_store.proofs.Keeping.{holds_logged}
use Rattle.page_store.proofs.logged_pages.LoggedPages.close.Given.{Over}
use Rattle.page_store.proofs.logged_pages.LoggedPages.close.Goals.{After-reset}
use Rattle.page_store.proofs.logged_pages.LoggedPages.close.Goals as goal

-- what is so after the closing of the log, or after one that failed
closing : (g : Over) (c : After-reset g)
    → IsClosing (held_of g.D.Device c.args.self.now) c.reset.new.self (g.D.Device.trace c.reset.new.device) (g.D.Device.is_honest c.reset.new.device) (g.D.Device.failures c.reset.new.device)
closing g c =
    let held = c.args.self.now in
    record {
      alive = c.requires.alive;
      all = c.requires.all;
      format = c.reset.ensures.same.format;
      home = λ own. home_firm (held_of g.D.Device held) own c.requires.alive c.requires.all c.requires.clean c.requires.firm;
      moments = c.reset.ensures.moments;
      outside = c.reset.ensures.outside;
      same = c.reset.ensures.honest;
      more = failures_rise c.reset.result _ _ _ c.reset.ensures.cause;
      failed = λ s. stop_fails c.reset.result _ _ _ c.reset.ensures.cause c.requires.alive (sym c.reset.ensures.stopped ∙ s);
    }

-- only the log's range changes
only : (g : Over) (c : After-reset g) → ChangesOnly 4096 c.args.self.now.format.log_bytes (g.D.Device.trace c.args.self.now.device).now (g.D.Device.trace c.reset.new.device).now
only g c =
    subst (λ (l : Format). ChangesOnly 4096 l.log_bytes (g.D.Device.trace c.args.self.now.device).now (g.D.Device.trace c.reset.new.device).now) c.args.self.now.log_format
    (goes_now _ (g.D.Device.trace c.args.self.now.device) (g.D.Device.trace c.reset.new.device) c.reset.ensures.outside (same_only 4096 _ _))

pub invariant_of-self : goal.invariant_of-self
invariant_of-self g c =
    let held = c.args.self.now in
    record {
      allowed = held.allowed;
      log_format = c.reset.ensures.same.format ∙ held.log_format;
      sized = search rules;
      stored = held.stored;
      used_is = held.used_is;
      few = held.few;
      reach = held.reach;
      holds = holds_logged held.format (pages_now held.history.value) held.acts held.pool _ (g.D.Device.trace held.device).now
          (g.D.Device.trace c.reset.new.device).now held.holds _ c.reset.ensures.honest (only g (goal.at.invariant_of-self g c).After-reset);
      waits = subst (λ (l : List Page). HoldsWaiting l held.durable held.pool) (sym c.reset.ensures.images) held.waits;
      counted = search rules;
      not_ahead = held.not_ahead;
      forced = search rules;
      fits = search rules;
      kept_promise = held.kept_promise;
      new_promise = held.new_promise;
      promise = held.promise;
    }

pub returns-in_err-reset-clause-steps : goal.returns-in_err-reset-clause-steps
returns-in_err-reset-clause-steps g c =
    let held = c.args.self.now in
    let stopped : is_stopped c.reset.new.self ≡ true = c.reset.ensures.stopped ∙ ap is_err c.in_err-reset.was in
    follows_closed (held_of g.D.Device held) _ _ _ _ (closing g (goal.at.returns-in_err-reset-clause-steps g c).After-reset) held.room held.promised
    (λ still. c.requires.clean) (λ still. (let both : true ≡ false = sym stopped ∙ still in absurd cc))

pub invariant_of-self-2-clause-log_format : goal.invariant_of-self-2-clause-log_format
invariant_of-self-2-clause-log_format g c = c.reset.ensures.same.format ∙ c.args.self.now.log_format

pub invariant_of-self-2-clause-holds : goal.invariant_of-self-2-clause-holds
invariant_of-self-2-clause-holds g c =
    let held = c.args.self.now in
    holds_logged held.format (pages_now held.history.value) held.acts held.pool _ (g.D.Device.trace held.device).now
    (g.D.Device.trace c.reset.new.device).now held.holds _ c.reset.ensures.honest (only g (goal.at.invariant_of-self-2-clause-holds g c).After-reset)

pub invariant_of-self-2-clause-waits : goal.invariant_of-self-2-clause-waits
invariant_of-self-2-clause-waits g c =
    let held = c.args.self.now in
    subst (λ (l : List Page). HoldsWaiting l held.durable held.pool) (sym c.reset.ensures.images) held.waits

pub returns-clause-steps : goal.returns-clause-steps
returns-clause-steps g c =
    let held = c.args.self.now in
    follows_closed (held_of g.D.Device held) _ _ _ _ (closing g (goal.at.returns-clause-steps g c).After-reset) c.room-self.result c.room-self.result
    (λ still. c.requires.clean)
    (λ still. forgets_all held.log _ c.reset.new.self _ c.in_ok-reset.ensures.keeps c.reset.ensures.waiting (held.forced c.requires.alive c.requires.all))

pub returns-clause-room : goal.returns-clause-room
returns-clause-room g c =
    let own = c.args.self.now in
    let format = c.reset.ensures.same.format ∙ own.log_format in
    let bytes : 6 ≤ (format_of c.reset.new.self).log_bytes = subst (λ (l : Format). 6 ≤ l.log_bytes) (sym format) (omega (arith, own.allowed.log_from)) in
    let whole : c.room-self.result ≡ whole_room own.format =
    whole_left c.reset.new.self c.room-self.result (λ n. omega (arith, c.in_ok-reset.ensures.room n, own.forced c.requires.alive c.requires.all))
    c.room-self.ensures.fit c.room-self.ensures.no_more bytes
    ∙ ap whole_room format in
    record { room = whole; promised = whole }
