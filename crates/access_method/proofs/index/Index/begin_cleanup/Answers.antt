use Rattle.std.proofs.Common.{◌∷◌, [], true, Some, Ok, refl, ap, inl, ◌∙◌, rules}
use Rattle.access_method.proofs.Imports.{Begun, ToCleanup, slot_vacuums, is_at_end, one_vacuums}
use Rattle.access_method.proofs.Partwise.{begins_told, calm_open, follows_begun}
use Rattle.access_method.proofs.Seats.{agree_begun, may_begin}
use Rattle.access_method.specs.Rows.{is_row_in}
use Rattle.whole_calls.proofs.Made.{made_told}
use Rattle.access_method.proofs.Results.{run_fits}
use Rattle.access_method.proofs.index.Index.begin_cleanup.Goals as goal

-- a free seat's session has no call, and none vacuums, so that nothing hinders a cleanup there
pub returns-in_err-begin : goal.returns-in_err-begin
returns-in_err-begin g c =
    let self = c.args.self.now in
    absurd (may_begin g.S.PageStore self.store self.store self.calls.slots.items c.in_ok-at.at c.in_err-begin.field-0.0 (is_at_end self.given)
    c.in_ok-at.ensures.may refl refl (search rules) (self.agree.free c.in_ok-at.at c.in_ok-at.ensures.free)
    (one_vacuums self.calls.slots.items) (is_row_in self.rows ∷ []) ToCleanup refl (calm_open self.calls.slots.items self.seats self.agree c.in_ok-at.ensures.none)
    c.in_err-begin.ensures.cause)

pub invariant_of-self-2 : goal.invariant_of-self-2
invariant_of-self-2 g c = record {
  sessions = c.begin.ensures.others.sessions ∙ c.args.self.now.sessions;
  agree = agree_begun c.args.self.now.calls.slots.items c.begin.new.calls.slots.items c.args.self.now.seats c.in_ok-at.at c.args.self.now.agree
      (search rules) c.begin.ensures.others.others c.in_ok-at.ensures.low c.in_ok-at.ensures.none (ap slot_vacuums (rw c.in_ok-begin.was at c.begin.ensures.begins));
}

pub returns-clause-opened : goal.returns-clause-opened
returns-clause-opened g c = record {
  session = c.in_ok-at.at;
  sits = record { was_free = c.in_ok-at.ensures.free; seats_is = refl; given_is = refl };
  rows_are = refl;
  begins = begins_told (rw c.in_ok-begin.was at c.begin.ensures.goes);
  made = made_told (rw c.in_ok-begin.was at (c.begin.ensures.made 5)) (λ xs came. inl came);
  follows = λ what may honest start history calls fits. follows_begun (rw c.in_ok-begin.was at c.begin.ensures.goes) honest start history calls fits what may;
}

pub returns-in_err-at-clause-fits : goal.returns-in_err-at-clause-fits
returns-in_err-at-clause-fits g c honest start history calls fits = (history, calls, fits)

pub returns-clause-fits : goal.returns-clause-fits
returns-clause-fits g c = run_fits (rw c.in_ok-begin.was at c.begin.ensures.goes)
