use Rattle.std.proofs.Common.{◌∷◌, [], ◌≡◌, None, Ok, refl, ap, ◌∙◌, rules}
use Rattle.access_method.proofs.Imports.{snapshot_of, slots_within, here_with, fits_with}
use Rattle.access_method.proofs.BulkDeletions.{safe_within}
use Rattle.access_method.proofs.Seats.{agree_over, none_runs_on}
use Rattle.access_method.proofs.Partwise.{ended_at}
use Rattle.access_method.specs.Rows.{is_row_in}
use Rattle.access_method.specs.declared.rows.RowSet.{RowSet}
use Rattle.access_method.proofs.index.Index.end_vacuum.Goals as goal

pub invariant_of-self-2 : goal.invariant_of-self-2
invariant_of-self-2 g c = record {
  sessions = c.give_up.ensures.others.sessions ∙ c.args.self.now.sessions;
  agree = agree_over c.args.self.now.calls.slots.items c.give_up.new.calls.slots.items c.args.self.now.seats c.in-Some.at c.args.self.now.agree
      (search rules) c.give_up.ensures.others.others None c.in-Some.ensures.low c.give_up.ensures.over;
}

pub returns-clause-ended : goal.returns-clause-ended
returns-clause-ended g c session seat =
    let self = c.args.self.now in
    let same : session ≡ c.in-Some.at = self.agree.one c.in-Some.at session c.in-Some.ensures.seat seat in (
      ap Ok c.replace.ensures.value,
      ended_at g.S.PageStore session c.in-Some.at same self _ (record {
        seats_is = refl;
        given_is = refl;
        rows_are = ap (λ (rows : RowSet). rows.rows) c.replace.ensures.after ∙ c.new.ensures;
        ends = λ honest start history calls fits. (
            let own = is_row_in self.rows in
            let now = snapshot_of (slots_within self) history calls in
            let r = c.give_up.ensures.goes honest start history calls fits in
            let then_here = snapshot_of (here_with c.give_up.new.store c.give_up.new.calls.slots.items (own ∷ [])) r.then_history r.then_calls in
            let none = none_runs_on self.calls.slots.items c.give_up.new.calls.slots.items self.seats c.in-Some.at self.agree c.give_up.ensures.others.others c.in-Some.ensures.seat c.give_up.ensures.over in
            record {
              ended = r;
              fits = fits_with g.S.PageStore start then_here (is_row_in c.replace.new.dest ∷ []) none r.ran.fits;
              safe = λ keeps. safe_within g.S.PageStore start now then_here (own ∷ []) (is_row_in c.replace.new.dest ∷ []) r.ran.crash keeps;
            });
        made = c.give_up.ensures.made 5;
      }),
    )

pub returns-in_default-clause-fits : goal.returns-in_default-clause-fits
returns-in_default-clause-fits g c honest start history calls fits = (history, calls, fits)

pub returns-clause-fits : goal.returns-clause-fits
returns-clause-fits g c honest start history calls fits =
    let self = c.args.self.now in
    let r = c.give_up.ensures.goes honest start history calls fits in
    let then_here = snapshot_of (here_with c.give_up.new.store c.give_up.new.calls.slots.items (is_row_in self.rows ∷ [])) r.then_history r.then_calls in
    let none = none_runs_on self.calls.slots.items c.give_up.new.calls.slots.items self.seats c.in-Some.at self.agree c.give_up.ensures.others.others c.in-Some.ensures.seat c.give_up.ensures.over in
    (r.then_history, r.then_calls, fits_with g.S.PageStore start then_here (is_row_in c.replace.new.dest ∷ []) none r.ran.fits)
