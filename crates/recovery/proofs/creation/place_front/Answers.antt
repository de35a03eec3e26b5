use Rattle.std.proofs.Common.{rules}
use Rattle.recovery.proofs.Creating.{front_written, front_synced}
use Rattle.recovery.proofs.creation.place_front.Goals as goal

pub returns-in_err-write_at-clause-moments : goal.returns-in_err-write_at-clause-moments
returns-in_err-write_at-clause-moments g c = front_written c.args.bytes.now _ (search rules) c.requires.inside c.write_at.result _ c.write_at.ensures.trace

pub returns-clause-moments : goal.returns-clause-moments
returns-clause-moments g c = front_synced c.args.bytes.now _ (search rules) c.requires.inside c.sync.result _ _ c.in_ok-write_at.ensures.trace c.sync.ensures.trace
