use Rattle.std.proofs.Common.{map, refl}
use Rattle.whole_calls.proofs.Imports.{ToCleanup, deleted_in, of_cleanup, of_deleted, of_leaves}
use Rattle.whole_calls.proofs.VacuumSteps.{vacuum_goes, sweep_counts, sweep_caused, vacuum_tells, sweep_made}
use Rattle.whole_calls.proofs.vacuuming.clean_up.Goals as goal

pub returns-clause-goes : goal.returns-clause-goes
returns-clause-goes g c = rw c.as_stats.ensures (vacuum_goes ToCleanup refl c.run_call.ensures.ended c.run_call.ensures.goes)

pub returns-clause-entries : goal.returns-clause-entries
returns-clause-entries g c honest start history calls fits =
    rw c.as_stats.ensures (sweep_counts ToCleanup refl c.run_call.ensures.ended of_cleanup (c.run_call.ensures.goes honest start history calls fits).tells tt)

pub returns-clause-deleted : goal.returns-clause-deleted
returns-clause-deleted g c honest start history calls fits =
    let before = of_deleted (deleted_in (g.S.PageStore.state c.args.store.now)) in
    rw c.as_stats.ensures (sweep_counts ToCleanup refl c.run_call.ensures.ended before (c.run_call.ensures.goes honest start history calls fits).tells refl)

pub returns-clause-spares : goal.returns-clause-spares
returns-clause-spares g c honest start history calls fits calm =
    rw c.as_stats.ensures (sweep_counts ToCleanup refl c.run_call.ensures.ended of_leaves (c.run_call.ensures.goes honest start history calls fits).tells calm)

pub returns-clause-cause : goal.returns-clause-cause
returns-clause-cause g c honest start history calls fits =
    rw c.as_stats.ensures (sweep_caused ToCleanup refl c.run_call.ensures.ended (c.run_call.ensures.goes honest start history calls fits).tells)

pub returns-clause-made : goal.returns-clause-made
returns-clause-made g c =
    rw c.as_stats.ensures (sweep_made (map g.T.DeadRows.is_in c.args.sets.now) ToCleanup refl c.run_call.ensures.ended c.run_call.ensures.kind c.run_call.ensures.made)

pub returns-clause-stats : goal.returns-clause-stats
returns-clause-stats g c honest start history calls fits =
    rw c.as_stats.ensures (vacuum_tells ToCleanup refl c.run_call.ensures.ended (c.run_call.ensures.goes honest start history calls fits).tells)
