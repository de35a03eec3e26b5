use Rattle.std.proofs.Common.{sym}
use Rattle.shared_index.proofs.Batches.{scan_at}
use Rattle.shared_index.proofs.session.SharedSession.leave_scan.Goals as goal

pub end_scan-mine-requires : goal.end_scan-mine-requires
end_scan-mine-requires g c = let self = c.args.self.now in record { runs = scan_at self.scan self.seat c.in-Some.count c.in-Some-take.mine self.scans c.in-Some.is (sym c.in-Some-take.ensures.value) }
