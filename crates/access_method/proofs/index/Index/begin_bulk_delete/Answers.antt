use Rattle.std.proofs.Common.{◌∷◌, [], ◌≡◌, true, Some, Ok, refl, ap, inl, ◌∙◌, arith, rules}
use Rattle.access_method.proofs.Imports.{Begun, ToBulk, snapshot_of, slots_within, here_with, slot_vacuums, fits_with, is_at_end, lt-ltb, one_vacuums}
use Rattle.access_method.proofs.BulkDeletions.{safe_within}
use Rattle.access_method.proofs.Partwise.{begins_told, calm_open, follows_begun}
use Rattle.access_method.proofs.Seats.{agree_begun, may_begin, none_runs}
use Rattle.access_method.specs.Rows.{is_row_in}
use Rattle.whole_calls.proofs.Made.{made_told}
use Rattle.access_method.proofs.index.Index.begin_bulk_delete.Goals as goal

-- a free seat's session has no call, and none vacuums, so that nothing hinders a bulk delete there
pub returns-in_err-begin : goal.returns-in_err-begin
returns-in_err-begin g c =
    let self = c.args.self.now in
    absurd (may_begin g.S.PageStore self.store self.store self.calls.slots.items c.in_ok-at.at c.in_err-begin.field-0.0 (is_at_end self.given)
    c.in_ok-at.ensures.may refl refl (search rules) (self.agree.free c.in_ok-at.at c.in_ok-at.ensures.free)
    (one_vacuums self.calls.slots.items) (is_row_in c.args.rows ∷ []) (ToBulk 0) (lt-ltb 0 1 (omega arith)) (calm_open self.calls.slots.items self.seats self.agree c.in_ok-at.ensures.none)
    c.in_err-begin.ensures.cause)

pub invariant_of-self-2 : goal.invariant_of-self-2
invariant_of-self-2 g c = record {
  sessions = c.begin.ensures.others.sessions ∙ c.args.self.now.sessions;
  agree = agree_begun c.args.self.now.calls.slots.items c.begin.new.calls.slots.items c.args.self.now.seats c.in_ok-at.at c.args.self.now.agree
      (search rules) c.begin.ensures.others.others c.in_ok-at.ensures.low c.in_ok-at.ensures.none (ap slot_vacuums (rw c.in_ok-begin.was at c.begin.ensures.begins));
}

pub returns-clause-opened : goal.returns-clause-opened
returns-clause-opened g c =
    let self = c.args.self.now in
    let dead = is_row_in c.args.rows in
    record {
      session = c.in_ok-at.at;
      sits = record { was_free = c.in_ok-at.ensures.free; seats_is = refl; given_is = refl };
      rows_are = refl;
      begins = λ honest start history calls fits. (
          let now = snapshot_of (slots_within self) history calls in
          let r = begins_told (rw c.in_ok-begin.was at c.begin.ensures.goes) honest start history calls
          (fits_with g.S.PageStore start now (dead ∷ []) (none_runs self.calls.slots.items self.seats self.agree c.in_ok-at.ensures.none) fits) in
          let then_here = snapshot_of (here_with c.begin.new.store c.begin.new.calls.slots.items (dead ∷ [])) r.then_history r.then_calls in
          record { begun = r; safe = λ keeps. safe_within g.S.PageStore start now then_here (dead ∷ []) (dead ∷ []) r.ran.crash keeps });
      made = made_told (rw c.in_ok-begin.was at (c.begin.ensures.made 5)) (λ xs came. inl came);
      follows = λ what may honest start history calls fits. (
          let now = snapshot_of (slots_within self) history calls in
          follows_begun (rw c.in_ok-begin.was at c.begin.ensures.goes) honest start history calls
          (fits_with g.S.PageStore start now (dead ∷ []) (none_runs self.calls.slots.items self.seats self.agree c.in_ok-at.ensures.none) fits) what may);
    }

pub returns-in_err-at-clause-fits : goal.returns-in_err-at-clause-fits
returns-in_err-at-clause-fits g c honest start history calls fits = (history, calls, fits)

pub returns-clause-fits : goal.returns-clause-fits
returns-clause-fits g c honest start history calls fits =
    let self = c.args.self.now in
    let now = snapshot_of (slots_within self) history calls in
    let r = begins_told (rw c.in_ok-begin.was at c.begin.ensures.goes) honest start history calls
    (fits_with g.S.PageStore start now (is_row_in c.args.rows ∷ []) (none_runs self.calls.slots.items self.seats self.agree c.in_ok-at.ensures.none) fits) in
    (r.then_history, r.then_calls, r.ran.fits)
