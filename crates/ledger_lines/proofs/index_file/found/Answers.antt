use Rattle.device.specs.contracts.file.FileDeviceDevice.TheImpl as device
use Rattle.device.specs.contracts.file.Zeros as zeros
use Rattle.device.specs.contracts.file.ZerosStart.TheImpl as start
use Rattle.ledger_lines.proofs.Refused.{found_refused}
use Rattle.ledger_lines.proofs.index_file.found.Goals as goal

pub returns-in-Err-clause-cause : goal.returns-in-Err-clause-cause
returns-in-Err-clause-cause g c =
    found_refused _ (device.ghosts zeros.the_row start.ghosts start.dict) g.S.Start.bytes c.in-Err.field-0.fault c.found_left.result c.in-Err.field-0.device c.found_left.ensures c.in-Err.ensures.cause c.in-Err.ensures.untaken
