use Rattle.std.proofs.Common.{map, refl}
use Rattle.whole_calls.proofs.Imports.{ToBulk, of_bulk_delete}
use Rattle.whole_calls.proofs.VacuumSteps.{vacuum_goes, sweep_counts, sweep_caused, vacuum_tells, sweep_made}
use Rattle.whole_calls.proofs.vacuuming.bulk_delete.Goals as goal

pub returns-clause-goes : goal.returns-clause-goes
returns-clause-goes g c = rw c.as_stats.ensures (vacuum_goes (ToBulk c.args.set) refl c.run_call.ensures.ended c.run_call.ensures.goes)

pub returns-clause-entries : goal.returns-clause-entries
returns-clause-entries g c honest start history calls fits =
    rw c.as_stats.ensures (sweep_counts (ToBulk c.args.set) refl c.run_call.ensures.ended of_bulk_delete (c.run_call.ensures.goes honest start history calls fits).tells tt)

pub returns-clause-cause : goal.returns-clause-cause
returns-clause-cause g c honest start history calls fits =
    rw c.as_stats.ensures (sweep_caused (ToBulk c.args.set) refl c.run_call.ensures.ended (c.run_call.ensures.goes honest start history calls fits).tells)

pub returns-clause-made : goal.returns-clause-made
returns-clause-made g c =
    rw c.as_stats.ensures (sweep_made (map g.T.DeadRows.is_in c.args.sets.now) (ToBulk c.args.set) refl c.run_call.ensures.ended c.run_call.ensures.kind c.run_call.ensures.made)

pub returns-clause-stats : goal.returns-clause-stats
returns-clause-stats g c honest start history calls fits =
    rw c.as_stats.ensures (vacuum_tells (ToBulk c.args.set) refl c.run_call.ensures.ended (c.run_call.ensures.goes honest start history calls fits).tells)
