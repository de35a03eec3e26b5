use Rattle.redo_log.proofs.Resetting.{byte_written, byte_synced, byte_on_disk}
use Rattle.redo_log.proofs.gate.shut.Goals as goal

pub returns-in_err-write_at-clause-moments : goal.returns-in_err-write_at-clause-moments
returns-in_err-write_at-clause-moments g c = byte_written c.args.gate _ c.requires.inside c.write_at.result _ c.write_at.ensures.trace

pub returns-clause-moments : goal.returns-clause-moments
returns-clause-moments g c = byte_synced c.args.gate _ c.requires.inside _ c.in_ok-write_at.ensures.trace c.sync.result _ c.sync.ensures.trace

pub returns-clause-ok : goal.returns-clause-ok
returns-clause-ok g c = byte_on_disk c.args.gate _ c.requires.inside _ c.in_ok-write_at.ensures.trace c.sync.result _ c.sync.ensures.trace
