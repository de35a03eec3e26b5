use Rattle.std.proofs.Common.{ap, subst, inl, inr, refl, length, ◌++◌, ◌∷◌, [], sym, ◌∙◌, arith}
use Rattle.device.specs.Disk.{first}
use Rattle.device.specs.Record.{Write, done}
use Rattle.device.specs.declared.past.Past.{Past}
use Rattle.device.specs.Past.{writes_of}
use Rattle.device.proofs.Noting.{AreDone, write_trace, written_done}
use Rattle.device.proofs.memory.MemDeviceDevice.write_at.Goals.{In-Ok}
use Rattle.device.proofs.memory.MemDeviceDevice.write_at.Goals as goal

-- what was written is noted
noted : (c : In-Ok) →
    AreDone c.args.self.now.past.value.start (c.args.self.now.past.value.calls ++ Write c.args.at c.args.bytes.now ∷ []) c.args.self.now.firm.items
    c.write_noted.new.bytes.items (writes_of c.write_noted.new.since.items)
noted c =
    let s = c.args.self.now in
    written_done s.past.value.start s.past.value.calls s.firm.items s.bytes.items _ _ c.args.at (writes_of s.since.items) _ c.in-Ok.ensures.noted
    (omega (arith, ap length s.replayed, c.requires.range)) c.in-Ok.ensures.bytes
    (record { replayed = s.replayed; inside = s.inside; sized = s.sized; small = s.small; firm_is = s.firm_is; since_is = s.since_is })

pub invariant_of-self-then-eq-2 : goal.invariant_of-self-then-eq-2
invariant_of-self-then-eq-2 c =
    subst (λ (p : Past). AreDone p.start p.calls c.args.self.now.firm.items c.write_noted.new.bytes.items (writes_of c.write_noted.new.since.items)) (sym c.reckon-self.ensures)
    (noted (goal.at.invariant_of-self-then-eq-2 c).In-Ok)

pub invariant_of-self-else-eq-2 : goal.invariant_of-self-else-eq-2
invariant_of-self-else-eq-2 c =
    subst (λ (p : Past). AreDone p.start p.calls c.args.self.now.firm.items c.write_noted.new.bytes.items (writes_of c.write_noted.new.since.items)) (sym c.reckon-self.ensures)
    (noted (goal.at.invariant_of-self-else-eq-2 c).In-Ok)

pub returns-then-eq-2-clause-trace : goal.returns-then-eq-2-clause-trace
returns-then-eq-2-clause-trace c =
    inr (c.args.bytes.now, refl, ap (λ (p : Past). done (first p.start) p.calls) c.reckon-self.ensures ∙ write_trace (first c.args.self.now.past.value.start) c.args.self.now.past.value.calls c.args.at c.args.bytes.now)

pub returns-then-eq-2-clause-kept : goal.returns-then-eq-2-clause-kept
returns-then-eq-2-clause-kept c =
    inl (ap (λ (p : Past). done (first p.start) p.calls) c.reckon-self.ensures ∙ write_trace (first c.args.self.now.past.value.start) c.args.self.now.past.value.calls c.args.at c.args.bytes.now)

pub returns-clause-trace : goal.returns-clause-trace
returns-clause-trace c = ap (λ (p : Past). done (first p.start) p.calls) c.reckon-self.ensures ∙ write_trace (first c.args.self.now.past.value.start) c.args.self.now.past.value.calls c.args.at c.args.bytes.now
