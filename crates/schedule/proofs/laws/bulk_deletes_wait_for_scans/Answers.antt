use Rattle.schedule.proofs.Standing.{bulk_deletes_wait, begun_bulk_deletes_wait}
use Rattle.schedule.proofs.laws.bulk_deletes_wait_for_scans.Goals as goal

pub returns : goal.returns
returns g c = record { begun = begun_bulk_deletes_wait g.S.PageStore; running = bulk_deletes_wait g.S.PageStore }
