use Rattle.device.specs.contracts.file.FileDeviceDevice.TheImpl as device
use Rattle.device.specs.contracts.file.Zeros as zeros
use Rattle.device.specs.contracts.file.ZerosStart.TheImpl as start
use Rattle.ledger_lines.proofs.Refused.{nothing_refused}
use Rattle.ledger_lines.proofs.index_file.open.Goals as goal

pub returns-in-Err-clause-cause : goal.returns-in-Err-clause-cause
returns-in-Err-clause-cause g c = nothing_refused _ (device.ghosts zeros.the_row start.ghosts start.dict) g.S.Start.bytes c.nothing.result.fault c.nothing.result.left c.nothing.ensures.fault c.nothing.ensures.left
