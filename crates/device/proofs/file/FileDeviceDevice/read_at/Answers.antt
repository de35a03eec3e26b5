use Rattle.device.proofs.Replaying.{read_noted}
use Rattle.device.proofs.file.FileDeviceDevice.read_at.Goals as goal

pub returns-in-Ok-clause-read : goal.returns-in-Ok-clause-read
returns-in-Ok-clause-read g c honest =
    ((read_noted (g.S.Start.bytes c.args.self.now.len) c.args.self.now.events.value c.reckon-self.result.value c.args.at _ c.args.buf.now
    c.read_exact_at.new.buf c.reckon-self.ensures c.read_exact_at.auto.buf).0 honest).1

pub returns-in-Ok-clause-honest : goal.returns-in-Ok-clause-honest
returns-in-Ok-clause-honest g c =
    read_noted (g.S.Start.bytes c.args.self.now.len) c.args.self.now.events.value c.reckon-self.result.value c.args.at _ c.args.buf.now c.read_exact_at.new.buf c.reckon-self.ensures c.read_exact_at.auto.buf
