use Rattle.std.proofs.Common.{◌∷◌, rules}
use Rattle.access_method.proofs.Imports.{[], snapshot_of, here_with, slots_within}
use Rattle.access_method.proofs.Cleanups.{cleaned_up}
use Rattle.access_method.proofs.Refusals.{all_alone, cleaned_cause, finishes, frames_stay}
use Rattle.access_method.specs.Rows.{is_row_in}
use Rattle.access_method.proofs.Results.{run_fits}
use Rattle.access_method.proofs.index.Index.amvacuumcleanup.Goals as goal

pub returns-clause-cleans : goal.returns-clause-cleans
returns-clause-cleans g c honest start history calls fits =
    let r = c.clean_up.ensures.goes honest start history calls fits in
    cleaned_up g.S.PageStore (slots_within c.args.self.now) (here_with c.clean_up.new.store c.clean_up.new.calls.slots.items (is_row_in c.args.self.now.rows ∷ [])) start history calls
    fits c.clean_up.result r (c.clean_up.ensures.entries honest start history calls fits)
    (c.clean_up.ensures.deleted honest start history calls fits) (c.clean_up.ensures.stats honest start history calls fits)

pub returns-clause-spares : goal.returns-clause-spares
returns-clause-spares g c honest start history calls fits calm =
    c.clean_up.ensures.spares honest start history calls fits (record {
      alone = all_alone g.S.PageStore start (snapshot_of (slots_within c.args.self.now) history calls) fits calm.alone;
      none_dead = calm.none_dead;
    })

pub returns-clause-cause : goal.returns-clause-cause
returns-clause-cause g c honest start history calls fits =
    let index = c.args.self.now in
    cleaned_cause g.S.PageStore index c.clean_up.new.store index.agree.inserts (search rules)
    c.clean_up.result (c.clean_up.ensures.cause honest start history calls fits)

pub returns-clause-finishes : goal.returns-clause-finishes
returns-clause-finishes g c honest start history calls fits un =
    let index = c.args.self.now in
    let same = frames_stay g.S.PageStore 63 _ _ (slots_within index) (here_with c.clean_up.new.store c.clean_up.new.calls.slots.items (is_row_in c.args.self.now.rows ∷ [])) start
    history calls (c.clean_up.ensures.goes honest start history calls fits) in
    finishes g.S.PageStore index c.clean_up.new.store c.clean_up.result index.agree.inserts un same
    (cleaned_cause g.S.PageStore index c.clean_up.new.store index.agree.inserts (search rules)
    c.clean_up.result (c.clean_up.ensures.cause honest start history calls fits))

pub returns-clause-fits : goal.returns-clause-fits
returns-clause-fits g c = run_fits c.clean_up.ensures.goes
