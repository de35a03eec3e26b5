use Rattle.std.proofs.Common.{[], ◌∷◌, refl, sym}
use Rattle.access_method.specs.Rows.{is_row_in}
use Rattle.access_method.proofs.Imports.{Forces, Force, makes_runs}
use Rattle.access_method.proofs.Results.{number_told, durable_told, cause_told, goes_told_kept, run_fits}
use Rattle.access_method.proofs.index.Index.commit.Goals as goal

pub returns-clause-runs : goal.returns-clause-runs
returns-clause-runs g c =
    goes_told_kept g.S.PageStore g.met.S.PageStore.laws Forces Force c.force.result _ _ _ c.count.ensures refl tt c.force.ensures.answers
    (makes_runs g.S.PageStore g.met.S.PageStore.laws _ _ _ _ (c.force.ensures.makes c.args.self.now.calls.slots.items (is_row_in c.args.self.now.rows ∷ [])))

pub returns-clause-made : goal.returns-clause-made
returns-clause-made g c = record { answer = c.force.result; handed_on = sym c.count.ensures; made = c.force.ensures.makes c.args.self.now.calls.slots.items (is_row_in c.args.self.now.rows ∷ []) }

pub returns-clause-number : goal.returns-clause-number
returns-clause-number g c = number_told g.S.PageStore Forces c.force.result _ _ _ c.count.ensures tt c.force.ensures.answers c.force.ensures.kept

pub returns-clause-durable : goal.returns-clause-durable
returns-clause-durable g c = durable_told g.S.PageStore Forces c.force.result _ _ _ c.count.ensures tt c.force.ensures.answers c.force.ensures.kept

pub returns-clause-cause : goal.returns-clause-cause
returns-clause-cause g c = cause_told g.S.PageStore Forces c.force.result _ _ _ c.count.ensures tt c.force.ensures.answers c.force.ensures.kept

pub returns-clause-fits : goal.returns-clause-fits
returns-clause-fits g c =
    run_fits (goes_told_kept g.S.PageStore g.met.S.PageStore.laws Forces Force c.force.result _ _ _ c.count.ensures refl tt c.force.ensures.answers
    (makes_runs g.S.PageStore g.met.S.PageStore.laws _ _ _ _ (c.force.ensures.makes c.args.self.now.calls.slots.items (is_row_in c.args.self.now.rows ∷ []))))
