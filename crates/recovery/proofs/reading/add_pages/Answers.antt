use Rattle.std.proofs.Common.{◌≡◌, ◌≤◌, ◌∙◌, ◌-◌, ◌*◌, ℕ, IsTrue, List, length, take, drop, inr, sym, ap, subst, arith, length-append, length-drop, length-take-le}
use Rattle.device.specs.Disk.{Trace}
use Rattle.recovery.proofs.Imports.{Format, format_of_room, IsIoOr, AreBlocks, HasReadPages, IsDamagedBlock}
use Rattle.recovery.proofs.Batches.{read_still, blocks_read}
use Rattle.recovery.proofs.Blocks.{refused}
use Rattle.recovery.proofs.reading.add_pages.Given.{Over}
use Rattle.recovery.proofs.reading.add_pages.Goals.{After-add_blocks}
use Rattle.recovery.proofs.reading.add_pages.Goals as goal

-- what is known once the blocks of a batch were judged
module _ (g : Over) (c : After-add_blocks g) where
  abbrev file : List ℕ
  file = (g.D.Device.trace c.args.device.now).now.seen

  room : format_of_room c.loop-used.found.room ≡ c.args.format
  room = c.loop-used.invariant.read.format_is

  before : HasReadPages (format_of_room c.loop-used.found.room) (g.D.Device.is_honest c.read_at.new.self) file c.loop-used.found
  before =
      subst (λ (l : Format). HasReadPages l (g.D.Device.is_honest c.read_at.new.self) file c.loop-used.found) (sym room)
      (read_still c.args.format (g.D.Device.is_honest c.loop-used.device) _ file c.loop-used.found (λ honest. (c.read_at.ensures.honest.0 honest).0) c.loop-used.invariant.read)

  part : 4096 * (c.min-end.result - c.loop-used.used) ≤ length c.loop-used.batch
  part = omega (arith, c.loop-used.invariant.batch, c.min-end.ensures, c.loop-used-test.true)

  size : length (take (4096 * (c.min-end.result - c.loop-used.used)) c.loop-used.batch) ≡ 4096 * (c.min-end.result - c.loop-used.used)
  size = length-take-le (4096 * (c.min-end.result - c.loop-used.used)) c.loop-used.batch part

  are : IsTrue (g.D.Device.is_honest c.read_at.new.self) → AreBlocks (format_of_room c.loop-used.found.room) c.loop-used.used c.min-end.result c.read_at.new.buf file
  are honest =
      blocks_read c.args.format _ c.loop-used.used c.min-end.result _ _ _ _ _ room c.page_place.ensures size (omega (arith, c.min-end.ensures, c.loop-used-test.true))
      (ap (λ (t : Trace). t.now.seen) c.loop-used.invariant.trace) (c.in_ok-read_at.ensures.read honest)

pub loop-used-preserved : goal.loop-used-preserved
loop-used-preserved g c =
    let c' = (goal.at.loop-used-preserved g c).After-add_blocks in
    let so_far = c.loop-used.invariant in
    record {
      read = subst (λ (l : Format). HasReadPages l (g.D.Device.is_honest c.read_at.new.self) (file g c') c.add_blocks.new.found) (room g c') (c.in_ok-used.ensures.read (g.D.Device.is_honest c.read_at.new.self) (file g c') (before g c') (are g c'));
      count = sym c.in_ok-used.ensures.number;
      few = omega (arith, c.in_ok-used.ensures.few, c.min-end.ensures);
      batch = omega (
        arith,
        length-append c.read_at.new.buf (drop (4096 * (c.min-end.result - c.loop-used.used)) c.loop-used.batch),
        length-drop (4096 * (c.min-end.result - c.loop-used.used)) c.loop-used.batch,
        c.read_at.auto.buf,
        size g c',
        part g c',
        so_far.batch,
      );
      frames = c.add_blocks.ensures.frames ∙ so_far.frames;
      trace = c.read_at.ensures.trace ∙ so_far.trace;
      honest = λ honest. so_far.honest (c.read_at.ensures.honest.0 honest).0;
      failures = c.in_ok-read_at.ensures.failures ∙ so_far.failures;
    }

pub returns-in_err-used-clause-cause : goal.returns-in_err-used-clause-cause
returns-in_err-used-clause-cause g c =
    let c' = (goal.at.returns-in_err-used-clause-cause g c).After-add_blocks in
    let honest = g.D.Device.is_honest c.read_at.new.self in
    refused c.from_residual-in_err-used.result c.in_err-used.field-0.0 _
    (IsIoOr (IsDamagedBlock c.args.format honest (file g c')) (g.D.Device.failures c.args.device.now) (g.D.Device.failures c.read_at.new.self)) c.from_residual-in_err-used.ensures.1
    (inr (
      subst (λ (l : Format). IsDamagedBlock l honest (file g c') c.in_err-used.field-0.0) (room g c') (c.in_err-used.ensures.cause honest (file g c') (before g c') (are g c')),
      c.in_ok-read_at.ensures.failures ∙ c.loop-used.invariant.failures,
    ))

pub returns-then-used-end-clause-read : goal.returns-then-used-end-clause-read
returns-then-used-end-clause-read g c =
    let c' = (goal.at.returns-then-used-end-clause-read g c).After-add_blocks in
    let honest = g.D.Device.is_honest c.read_at.new.self in
    subst (λ (l : Format). HasReadPages l honest (file g c') c.add_blocks.new.found) (room g c') (c.in_ok-used.ensures.read honest (file g c') (before g c') (are g c'))
