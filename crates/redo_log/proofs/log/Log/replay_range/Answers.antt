use Rattle.std.proofs.Common.{◌≡◌, ◌∙◌, ◌+◌, ◌≤◌, IsTrue, List, ℕ, length, get_or, refl, sym, subst, ap, arith, Vec}
use Rattle.std.specs.declared.alloc.Global.{Global}
use Rattle.redo_log.proofs.Imports.{with_items_is, SpellsGroups, log_range}
use Rattle.redo_log.proofs.Replaying.{range_read, replay_found}
use Rattle.redo_log.proofs.log.Log.replay_range.Given.{Over}
use Rattle.redo_log.proofs.log.Log.replay_range.Goals.{After-note_groups}
use Rattle.redo_log.proofs.log.Log.replay_range.Goals as goal

-- what was read is the log's range
read : (g : Over) (c : After-note_groups g) → IsTrue (g.D.Device.is_honest c.read_at.new.self) → c.deref.result.now ≡ log_range c.args.format (g.D.Device.trace c.args.device.now).now.seen
read g c honest =
    let is = c.deref.ensures.value ∙ with_items_is c.in-Ok.buffer c.read_at.new.buf (c.read_at.auto.buf ∙ c.deref_mut.ensures.len) in
    range_read (g.D.Device.trace c.args.device.now).now.seen c.read_at.new.buf c.deref.result.now (length c.deref_mut.result.now)
    c.args.format.log_bytes is (c.in-Ok-read_at.ensures.read honest) (omega (arith, c.in-Ok.ensures.len))

pub returns-in_default-note_groups-clause-damaged : goal.returns-in_default-note_groups-clause-damaged
returns-in_default-note_groups-clause-damaged g c = λ damaged honest groups spells.
    let bytes = read g (goal.at.returns-in_default-note_groups-clause-damaged g c).After-note_groups honest in
    c.in_default-note_groups.ensures.damaged refl groups (subst (λ (l : List ℕ). SpellsGroups c.args.format l groups) (sym bytes) spells)

-- places of equal lists, in bytes that are equal too
inside_same : (log log' lasts lasts' : List ℕ) → log ≡ log' → lasts' ≡ lasts → ((k : ℕ) → get_or lasts k 0 + 4096 ≤ length log) → (k : ℕ) → get_or lasts' k 0 + 4096 ≤ length log'
inside_same log log' lasts lasts' logs places inside k = omega (arith, ap length logs, ap (λ (l : List ℕ). get_or l k 0) places, inside k)

pub invariant_of-result : goal.invariant_of-result
invariant_of-result g c =
    let noted = c.in-Some.ensures.noted.noted in
    let lasts = with_items_is c.in-Ok-vec.lasts c.note_groups.new.lasts (c.note_groups.auto.lasts ∙ c.deref_mut-2.ensures.len) in
    record { inside = λ k lt. inside_same _ _ _ _ (c.deref.ensures.value ∙ sym (ap (λ (v : Vec ℕ Global). v.items) c.in_ok-opened.ensures.buffer)) lasts noted.inside k }

pub returns-clause-ok : goal.returns-clause-ok
returns-clause-ok g c =
    let lasts = with_items_is c.in-Ok-vec.lasts c.note_groups.new.lasts (c.note_groups.auto.lasts ∙ c.deref_mut-2.ensures.len) in
    replay_found c.args.format _ _ _ c.deref.result.now c.note_groups.new.lasts c.in-Some.at c.in-Some.ensures.noted (c.deref.ensures.value ∙ sym (ap (λ (v : Vec ℕ Global). v.items) c.in_ok-opened.ensures.buffer)) (sym lasts)
    (read g (goal.at.returns-clause-ok g c).After-note_groups) c.requires.range c.in_ok-opened.ensures.opened.format_is c.in_ok-opened.ensures.end c.in_ok-opened.ensures.idle
    c.in_ok-opened.ensures.opened.alive c.in_ok-opened.ensures.shut.0 c.in_ok-opened.ensures.shut.1
