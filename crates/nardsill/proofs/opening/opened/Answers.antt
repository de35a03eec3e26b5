use Rattle.std.specs.Prelude.{ℕ, List, length}
use Rattle.std.proofs.Common.{ap, sym, subst, ◌∙◌}
use Rattle.device.specs.Disk.{Trace, first}
use Rattle.device.specs.Event.{Event, after_calls}
use Rattle.recovery.specs.Index.{HasIndex}
use Rattle.nardsill.proofs.opening.opened.Goals as goal

-- the file is as long as it was, so what it held when it was opened is what the device began with
pub returns-in-Ok-open-clause-begins : goal.returns-in-Ok-open-clause-begins
returns-in-Ok-open-clause-begins g c =
    let len = c.in-Ok-with_syncer.ensures.len in
    let held = ap (λ (n : ℕ). after_calls (g.S.Start.bytes n) c.in-Ok-with_syncer.device.events.value) len
    ∙ ap (λ (es : List Event). after_calls (g.S.Start.bytes c.in-Ok.device.len) es) c.in-Ok-with_syncer.ensures.calls
    ∙ c.in-Ok.ensures.held ∙ sym (ap (λ (n : ℕ). first (g.S.Start.bytes n)) len) in
    let seen = ap (λ (t : Trace). t.now.seen) held in
    let same = ap g.S.Start.bytes (c.in-Ok-open.ensures.len ∙ ap length seen ∙ g.S.Start.sized _) ∙ sym seen in
    λ honest format pages index tree.
    c.in-Ok-open.ensures.begins honest c.in-Ok-open.ensures.range format pages (subst (HasIndex format pages) same index) tree
