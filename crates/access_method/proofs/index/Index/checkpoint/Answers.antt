use Rattle.std.proofs.Common.{[], ◌∷◌, refl, sym}
use Rattle.access_method.specs.Rows.{is_row_in}
use Rattle.access_method.proofs.Imports.{Checkpoints, Checkpoint, makes_runs}
use Rattle.access_method.proofs.Results.{number_told, durable_told, cause_told, goes_told_kept, room_told, run_fits}
use Rattle.access_method.proofs.index.Index.checkpoint.Goals as goal

pub returns-clause-runs : goal.returns-clause-runs
returns-clause-runs g c =
    goes_told_kept g.S.PageStore g.met.S.PageStore.laws Checkpoints Checkpoint c.checkpoint.result _ _ _ c.count.ensures refl tt
    c.checkpoint.ensures.answers (makes_runs g.S.PageStore g.met.S.PageStore.laws _ _ _ _ (c.checkpoint.ensures.makes c.args.self.now.calls.slots.items (is_row_in c.args.self.now.rows ∷ [])))

pub returns-clause-made : goal.returns-clause-made
returns-clause-made g c = record { answer = c.checkpoint.result; handed_on = sym c.count.ensures; made = c.checkpoint.ensures.makes c.args.self.now.calls.slots.items (is_row_in c.args.self.now.rows ∷ []) }

pub returns-clause-number : goal.returns-clause-number
returns-clause-number g c = number_told g.S.PageStore Checkpoints c.checkpoint.result _ _ _ c.count.ensures tt c.checkpoint.ensures.answers c.checkpoint.ensures.kept

pub returns-clause-durable : goal.returns-clause-durable
returns-clause-durable g c = durable_told g.S.PageStore Checkpoints c.checkpoint.result _ _ _ c.count.ensures tt c.checkpoint.ensures.answers c.checkpoint.ensures.kept

pub returns-clause-cause : goal.returns-clause-cause
returns-clause-cause g c = cause_told g.S.PageStore Checkpoints c.checkpoint.result _ _ _ c.count.ensures tt c.checkpoint.ensures.answers c.checkpoint.ensures.kept

pub returns-clause-room : goal.returns-clause-room
returns-clause-room g c = room_told _ c.checkpoint.result _ c.count.ensures c.checkpoint.ensures.answers c.checkpoint.ensures.room

pub returns-clause-alive : goal.returns-clause-alive
returns-clause-alive g c = room_told _ c.checkpoint.result _ c.count.ensures c.checkpoint.ensures.answers c.checkpoint.ensures.alive

pub returns-clause-fits : goal.returns-clause-fits
returns-clause-fits g c =
    run_fits (goes_told_kept g.S.PageStore g.met.S.PageStore.laws Checkpoints Checkpoint c.checkpoint.result _ _ _ c.count.ensures refl tt c.checkpoint.ensures.answers
    (makes_runs g.S.PageStore g.met.S.PageStore.laws _ _ _ _ (c.checkpoint.ensures.makes c.args.self.now.calls.slots.items (is_row_in c.args.self.now.rows ∷ []))))
