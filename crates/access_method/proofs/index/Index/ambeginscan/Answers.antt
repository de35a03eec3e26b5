use Rattle.std.proofs.Common.{rules, false, [], ◌∷◌, refl, sym, ap, ◌∙◌}
use Rattle.access_method.proofs.Imports.{ToScan, is_at_end, one_vacuums, slot_vacuums}
use Rattle.access_method.specs.Rows.{is_row_in}
use Rattle.access_method.proofs.Seats.{agree_taken, may_begin}
use Rattle.access_method.proofs.Results.{run_fits}
use Rattle.access_method.proofs.index.Index.ambeginscan.Goals as goal

pub invariant_of-self-2 : goal.invariant_of-self-2
invariant_of-self-2 g c = record {
  sessions = c.open.ensures.others.sessions ∙ c.args.self.now.sessions;
  agree = agree_taken c.args.self.now.calls.slots.items c.open.new.calls.slots.items c.args.self.now.seats c.in-Some.at c.args.self.now.agree
      (search rules) c.open.ensures.others.others (record { number = c.args.self.now.given; is_refused = false }) c.in-Some.ensures.low
      (ap slot_vacuums (rw c.in_ok-open.was at c.open.ensures.begins));
}

pub returns-clause-made : goal.returns-clause-made
returns-clause-made g c = rw c.in_ok-open.was at c.open.ensures.made 5

-- a free seat's session has no call, so that nothing hinders a scan there
pub returns-in_err-open : goal.returns-in_err-open
returns-in_err-open g c =
    let self = c.args.self.now in
    absurd (may_begin g.S.PageStore self.store self.store self.calls.slots.items c.in-Some.at c.in_err-open.field-0.0 (is_at_end self.given)
    (sym c.is_at_end.ensures.value ∙ c.if-is_at_end.false) refl refl (search rules) (self.agree.free c.in-Some.at c.in-Some.ensures.free)
    (one_vacuums self.calls.slots.items) (is_row_in self.rows ∷ []) (ToScan c.args.range) refl refl c.in_err-open.ensures.cause)

pub returns-then-is_at_end-clause-fits : goal.returns-then-is_at_end-clause-fits
returns-then-is_at_end-clause-fits g c honest start history calls fits = (history, calls, fits)

pub returns-in_default-clause-fits : goal.returns-in_default-clause-fits
returns-in_default-clause-fits g c honest start history calls fits = (history, calls, fits)

pub returns-clause-fits : goal.returns-clause-fits
returns-clause-fits g c = run_fits (rw c.in_ok-open.was at c.open.ensures.goes)
