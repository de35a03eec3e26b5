use Rattle.std.proofs.Common.{◌∷◌, None, Some, false, Ok, refl, sym, ap, ◌∙◌, rules}
use Rattle.access_method.proofs.Imports.{[], slot_vacuums, is_at_end, one_vacuums, here_with, Begun, ToScan, EndMeans, BeginMeans, goes_then, slots_within, RescanMeans}
use Rattle.whole_calls.proofs.Made.{made_then, answered_right}
use Rattle.access_method.proofs.Seats.{agree_taken, rescan_told, may_begin}
use Rattle.access_method.specs.Rows.{is_row_in}
use Rattle.access_method.proofs.Results.{run_fits}
use Rattle.access_method.proofs.index.Index.amrescan.Goals as goal

pub returns-clause-runs : goal.returns-clause-runs
returns-clause-runs g c =
    let session = c.args.token.session in
    goes_then g.S.PageStore g.met.S.PageStore.laws session (EndMeans session) (BeginMeans session (ToScan c.args.range) (Ok tt)) (RescanMeans session c.args.range) None (Some Begun)
    (slots_within c.args.self.now) (here_with c.give_up.new.store c.give_up.new.calls.slots.items (is_row_in c.args.self.now.rows ∷ [])) (here_with c.open.new.store c.open.new.calls.slots.items (is_row_in c.args.self.now.rows ∷ []))
    c.give_up.ensures.steps c.open.ensures.steps c.give_up.ensures.goes (rw c.in_ok-open.was at c.open.ensures.goes)
    (λ start x y z at then_at fx fy fz one two. rescan_told session c.args.range tt x y z one two)

pub returns-clause-made : goal.returns-clause-made
returns-clause-made g c =
    made_then (c.give_up.ensures.made 5) (rw c.in_ok-open.was at c.open.ensures.made 5) (λ xs ys one two. answered_right xs ys Begun two)

-- the token's session has no call any more, so that nothing hinders a scan there
pub returns-in_err-open : goal.returns-in_err-open
returns-in_err-open g c =
    let self = c.args.self.now in
    absurd (may_begin g.S.PageStore self.store c.give_up.new.store c.give_up.new.calls.slots.items c.args.token.session c.in_err-open.field-0.0 (is_at_end self.given)
    (sym c.is_at_end.ensures.value ∙ c.if-is_at_end.false) c.give_up.ensures.backing c.give_up.ensures.begun
    (rw c.give_up.ensures.others.sessions (search rules)) c.give_up.ensures.over (one_vacuums c.give_up.new.calls.slots.items) (is_row_in self.rows ∷ []) (ToScan c.args.range) refl refl c.in_err-open.ensures.cause)

pub invariant_of-self-2 : goal.invariant_of-self-2
invariant_of-self-2 g c = record {
  sessions = c.open.ensures.others.sessions ∙ c.give_up.ensures.others.sessions ∙ c.args.self.now.sessions;
  agree = agree_taken c.args.self.now.calls.slots.items c.open.new.calls.slots.items c.args.self.now.seats c.args.token.session c.args.self.now.agree c.in-Some.ensures.low
      (λ other apart. c.open.ensures.others.others other apart ∙ c.give_up.ensures.others.others other apart)
      (record { number = c.args.token.number; is_refused = false }) (search rules) (ap slot_vacuums (rw c.in_ok-open.was at c.open.ensures.begins));
}

pub returns-in_default-clause-fits : goal.returns-in_default-clause-fits
returns-in_default-clause-fits g c honest start history calls fits = (history, calls, fits)

pub returns-then-is_at_end-clause-fits : goal.returns-then-is_at_end-clause-fits
returns-then-is_at_end-clause-fits g c honest start history calls fits = (history, calls, fits)

pub returns-clause-fits : goal.returns-clause-fits
returns-clause-fits g c honest start history calls fits =
    let session = c.args.token.session in
    let runs = goes_then g.S.PageStore g.met.S.PageStore.laws session (EndMeans session) (BeginMeans session (ToScan c.args.range) (Ok tt)) (RescanMeans session c.args.range) None (Some Begun)
    (slots_within c.args.self.now) (here_with c.give_up.new.store c.give_up.new.calls.slots.items (is_row_in c.args.self.now.rows ∷ [])) (here_with c.open.new.store c.open.new.calls.slots.items (is_row_in c.args.self.now.rows ∷ []))
    c.give_up.ensures.steps c.open.ensures.steps c.give_up.ensures.goes (rw c.in_ok-open.was at c.open.ensures.goes)
    (λ start x y z at then_at fx fy fz one two. rescan_told session c.args.range tt x y z one two) in
    run_fits runs honest start history calls fits
