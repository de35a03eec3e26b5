use Rattle.device.specs.contracts.file.FileDevice as file_device
use Rattle.device.specs.contracts.file.FileDeviceDevice.TheImpl as device
use Rattle.device.specs.contracts.file.Zeros as zeros
use Rattle.device.specs.contracts.file.ZerosStart.TheImpl as start
use Rattle.page_store.specs.contracts.store.StorePageStore.TheImpl as store
use Rattle.ledger_lines.specs.Opening.{BeginsFrom, BeginsNew}
use Rattle.ledger_lines.proofs.Ending.{begins_found, begins_made}
use Rattle.ledger_lines.proofs.program.run.Goals as goal

pub returns-in-Ok-Found-clause-serves : goal.returns-in-Ok-Found-clause-serves
returns-in-Ok-Found-clause-serves g c =
    let D = device.ghosts g.row.S g.S.Start g.S.Start-dict in
    let G = store.ghosts (file_device.the_row g.row.S g.S.Start) D (device.dict g.row.S g.S.Start g.S.Start-dict) in
    let N = device.ghosts zeros.the_row start.ghosts start.dict in
    let H = store.ghosts (file_device.the_row zeros.the_row start.ghosts) N (device.dict zeros.the_row start.ghosts start.dict) in
    record {
      opened = c.in-Ok-Found.index;
      begins = begins_found (BeginsFrom D G g.S.Start.bytes) (BeginsNew N H) c.in-Ok-Found.field-0 c.in-Ok-Found.index c.in-Ok-Found.ensures.begins c.in-Ok-Found.field-0-is;
      serves = c.serve.ensures;
    }

pub returns-in-Ok-Made-clause-serves : goal.returns-in-Ok-Made-clause-serves
returns-in-Ok-Made-clause-serves g c =
    let D = device.ghosts g.row.S g.S.Start g.S.Start-dict in
    let G = store.ghosts (file_device.the_row g.row.S g.S.Start) D (device.dict g.row.S g.S.Start g.S.Start-dict) in
    let N = device.ghosts zeros.the_row start.ghosts start.dict in
    let H = store.ghosts (file_device.the_row zeros.the_row start.ghosts) N (device.dict zeros.the_row start.ghosts start.dict) in
    record {
      opened = c.in-Ok-Made.index;
      begins = begins_made (BeginsFrom D G g.S.Start.bytes) (BeginsNew N H) c.in-Ok-Made.field-0 c.in-Ok-Made.index c.in-Ok-Made.ensures.begins c.in-Ok-Made.field-0-is;
      serves = c.serve-in-Ok-Made.ensures;
    }
