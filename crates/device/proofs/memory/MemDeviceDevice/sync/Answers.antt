use Rattle.std.proofs.Common.{sym, ap, subst, ◌∙◌}
use Rattle.device.specs.Disk.{first}
use Rattle.device.specs.Record.{done}
use Rattle.device.specs.Past.{writes_of}
use Rattle.device.specs.declared.past.Past.{Past}
use Rattle.device.proofs.Noting.{AreDone, sync_trace, synced_done, since_inside}
use Rattle.device.proofs.memory.MemDeviceDevice.sync.Goals as goal

pub settle-requires : goal.settle-requires
settle-requires c =
    let m = c.args.self.now in
    since_inside m.past.value.start m.past.value.calls m.inside m.firm.items (writes_of m.since.items) m.firm_is m.since_is

pub invariant_of-self-2 : goal.invariant_of-self-2
invariant_of-self-2 c =
    let m = c.args.self.now in
    subst (λ (p : Past). AreDone p.start p.calls c.settle.new.firm.items m.bytes.items (writes_of c.settle.new.since.items)) (sym c.reckon-self.ensures)
    (synced_done m.past.value.start m.past.value.calls m.firm.items m.bytes.items c.settle.new.firm.items (writes_of m.since.items)
    (writes_of c.settle.new.since.items) c.settle.ensures.firm (ap writes_of c.settle.ensures.since)
    (record { replayed = m.replayed; inside = m.inside; sized = m.sized; small = m.small; firm_is = m.firm_is; since_is = m.since_is }))

pub returns-clause-trace : goal.returns-clause-trace
returns-clause-trace c = ap (λ (p : Past). done (first p.start) p.calls) c.reckon-self.ensures ∙ sync_trace (first c.args.self.now.past.value.start) c.args.self.now.past.value.calls
