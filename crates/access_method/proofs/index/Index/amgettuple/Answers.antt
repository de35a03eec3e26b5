use Rattle.access_method.proofs.Refusals.{give_cause, run_unhindered, frames_stay}
use Rattle.std.proofs.Common.{◌∷◌, true, false, true≢false, Ok, Some, sym, ◌∙◌, rules}
use Rattle.access_method.proofs.Imports.{[], snapshot_of, here_with, runs_has_call, slots_within}
use Rattle.access_method.proofs.Results.{gives_right, run_fits}
use Rattle.access_method.proofs.Seats.{agree_over, not_refused}
use Rattle.access_method.specs.Rows.{is_row_in}
use Rattle.access_method.proofs.index.Index.amgettuple.Goals as goal

-- the token is not open
pub returns-in_default-clause-runs : goal.returns-in_default-clause-runs
returns-in_default-clause-runs g c is_open = absurd (c.in_default.not-Some (record { number = c.args.token.number; is_refused = false }) (c.find.ensures.value ∙ is_open))

pub returns-in_default-clause-made : goal.returns-in_default-clause-made
returns-in_default-clause-made g c is_open = absurd (c.in_default.not-Some (record { number = c.args.token.number; is_refused = false }) (c.find.ensures.value ∙ is_open))

pub returns-in_default-clause-cause : goal.returns-in_default-clause-cause
returns-in_default-clause-cause g c is_open = absurd (c.in_default.not-Some (record { number = c.args.token.number; is_refused = false }) (c.find.ensures.value ∙ is_open))

pub returns-in_default-clause-gives : goal.returns-in_default-clause-gives
returns-in_default-clause-gives g c is_open = absurd (c.in_default.not-Some (record { number = c.args.token.number; is_refused = false }) (c.find.ensures.value ∙ is_open))

pub returns-in_default-clause-over : goal.returns-in_default-clause-over
returns-in_default-clause-over g c is_open = absurd (c.in_default.not-Some (record { number = c.args.token.number; is_refused = false }) (c.find.ensures.value ∙ is_open))

pub returns-in_default-clause-ends : goal.returns-in_default-clause-ends
returns-in_default-clause-ends g c is_open = absurd (c.in_default.not-Some (record { number = c.args.token.number; is_refused = false }) (c.find.ensures.value ∙ is_open))

pub returns-in_default-clause-tokens : goal.returns-in_default-clause-tokens
returns-in_default-clause-tokens g c is_open = absurd (c.in_default.not-Some (record { number = c.args.token.number; is_refused = false }) (c.find.ensures.value ∙ is_open))

-- a fault was answered
pub returns-then-seat-clause-runs : goal.returns-then-seat-clause-runs
returns-then-seat-clause-runs g c is_open = absurd (not_refused c.find.result c.in-Some.seat c.args.token.number c.in-Some.is c.if-seat.true (c.find.ensures.value ∙ is_open))

pub returns-then-seat-clause-made : goal.returns-then-seat-clause-made
returns-then-seat-clause-made g c is_open = absurd (not_refused c.find.result c.in-Some.seat c.args.token.number c.in-Some.is c.if-seat.true (c.find.ensures.value ∙ is_open))

pub returns-then-seat-clause-cause : goal.returns-then-seat-clause-cause
returns-then-seat-clause-cause g c is_open = absurd (not_refused c.find.result c.in-Some.seat c.args.token.number c.in-Some.is c.if-seat.true (c.find.ensures.value ∙ is_open))

pub returns-then-seat-clause-gives : goal.returns-then-seat-clause-gives
returns-then-seat-clause-gives g c is_open = absurd (not_refused c.find.result c.in-Some.seat c.args.token.number c.in-Some.is c.if-seat.true (c.find.ensures.value ∙ is_open))

pub returns-then-seat-clause-over : goal.returns-then-seat-clause-over
returns-then-seat-clause-over g c is_open = absurd (not_refused c.find.result c.in-Some.seat c.args.token.number c.in-Some.is c.if-seat.true (c.find.ensures.value ∙ is_open))

pub returns-then-seat-clause-ends : goal.returns-then-seat-clause-ends
returns-then-seat-clause-ends g c is_open = absurd (not_refused c.find.result c.in-Some.seat c.args.token.number c.in-Some.is c.if-seat.true (c.find.ensures.value ∙ is_open))

pub returns-then-seat-clause-tokens : goal.returns-then-seat-clause-tokens
returns-then-seat-clause-tokens g c is_open = absurd (not_refused c.find.result c.in-Some.seat c.args.token.number c.in-Some.is c.if-seat.true (c.find.ensures.value ∙ is_open))

pub returns-then-not-is_running-clause-answers : goal.returns-then-not-is_running-clause-answers
returns-then-not-is_running-clause-answers g c honest start history calls fits number call range is ask =
    let session = c.args.token.session in
    absurd (true≢false (sym (runs_has_call g.S.PageStore start (snapshot_of (slots_within c.args.self.now) history calls) fits session number call is)
    ∙ sym c.is_running.ensures.value ∙ c.if-not-is_running.true))

pub returns-in-Ok-clause-runs : goal.returns-in-Ok-clause-runs
returns-in-Ok-clause-runs g c is_open busy = c.in-Ok.ensures.goes

pub returns-in-Ok-clause-answers : goal.returns-in-Ok-clause-answers
returns-in-Ok-clause-answers g c honest start history calls fits =
    gives_right g.S.PageStore c.args.token.session (Ok c.in-Ok.given) (slots_within c.args.self.now) (here_with c.give.new.store c.give.new.calls.slots.items (is_row_in c.args.self.now.rows ∷ [])) start history calls
    (c.in-Ok.ensures.goes honest start history calls fits)

pub invariant_of-self-in-Err : goal.invariant_of-self-in-Err
invariant_of-self-in-Err g c = record {
  sessions = c.give.ensures.others.sessions ∙ c.args.self.now.sessions;
  agree = agree_over c.args.self.now.calls.slots.items c.give.new.calls.slots.items c.args.self.now.seats c.args.token.session c.args.self.now.agree c.in-Some.ensures.low c.give.ensures.others.others
      (Some (record { number = c.args.token.number; is_refused = true })) (search rules) c.in-Err.ensures.over;
}

pub returns-in-Err-clause-cause : goal.returns-in-Err-clause-cause
returns-in-Err-clause-cause g c seat honest start history calls fits number call range is ask =
    give_cause g.S.PageStore c.args.token.session c.args.self.now c.give.new.store c.in-Err.fault (c.in-Err.ensures.cause honest start history calls fits number call range is ask)

pub returns-in-Err-clause-gives : goal.returns-in-Err-clause-gives
returns-in-Err-clause-gives g c seat honest start history calls fits number call range is ask un =
    let same = frames_stay g.S.PageStore c.args.token.session _ _ (slots_within c.args.self.now)
    (here_with c.give.new.store c.give.new.calls.slots.items (is_row_in c.args.self.now.rows ∷ [])) start history calls (c.in-Err.ensures.goes honest start history calls fits) in
    absurd (run_unhindered g.S.PageStore c.args.token.session c.args.self.now c.give.new.store un same c.in-Err.fault
    (give_cause g.S.PageStore c.args.token.session c.args.self.now c.give.new.store c.in-Err.fault (c.in-Err.ensures.cause honest start history calls fits number call range is ask)))

pub returns-in_default-clause-fits : goal.returns-in_default-clause-fits
returns-in_default-clause-fits g c honest start history calls fits = (history, calls, fits)

pub returns-then-seat-clause-fits : goal.returns-then-seat-clause-fits
returns-then-seat-clause-fits g c honest start history calls fits = (history, calls, fits)

pub returns-then-not-is_running-clause-fits : goal.returns-then-not-is_running-clause-fits
returns-then-not-is_running-clause-fits g c honest start history calls fits = (history, calls, fits)

pub returns-in-Ok-clause-fits : goal.returns-in-Ok-clause-fits
returns-in-Ok-clause-fits g c = run_fits c.in-Ok.ensures.goes

pub returns-in-Err-clause-fits : goal.returns-in-Err-clause-fits
returns-in-Err-clause-fits g c = run_fits c.in-Err.ensures.goes
