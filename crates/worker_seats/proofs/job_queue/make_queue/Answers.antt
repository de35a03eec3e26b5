use Rattle.worker_seats.proofs.Queueing.{begins}
use Rattle.worker_seats.proofs.job_queue.make_queue.Goals as goal

pub ruled-requires-clause-rule : goal.ruled-requires-clause-rule
ruled-requires-clause-rule g c = begins
