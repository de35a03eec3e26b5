use Rattle.std.proofs.Common.{◌≡◌, ◌∙◌, ◌+◌, length, sym, subst}
use Rattle.recovery.proofs.Imports.{AtEachMoment, goes_on, goes_now, ChangesNamed}
use Rattle.recovery.proofs.Named.{HomedBelow, named_goes, one_homed, none_homed}
use Rattle.recovery.proofs.homing.write_images.Given.{Over}
use Rattle.recovery.proofs.homing.write_images.Goals.{Joined-image, in-Some+in_ok-place, in_default}
use Rattle.recovery.proofs.homing.write_images.Goals as goal

pub returns-in_err-place-clause-moments : goal.returns-in_err-place-clause-moments
returns-in_err-place-clause-moments g c =
    goes_on _ _ _ _ c.loop-block.invariant.moments
    (named_goes c.args.format c.args.found.now c.loop-block.block _ c.in-Some.bytes.now (g.D.Device.trace c.loop-block.device) _
    c.in-Some.ensures.kept c.in-Some.ensures.len c.page_place.ensures c.place.ensures.moments _ c.loop-block-test.true c.loop-block.invariant.now)

-- what was written up to a block, if the device stands so
abbrev Written : (g : Over) → Joined-image g → g.row.D.Denot → Type 0
Written g c device =
    let trace = g.D.Device.trace in
    record {
      moments : AtEachMoment (ChangesNamed c.args.format c.args.found.now (trace c.args.device.now).now) (trace c.args.device.now) (trace device);
      now : ChangesNamed c.args.format c.args.found.now (trace c.args.device.now).now (trace device).now;
      written : HomedBelow c.args.format c.args.found.now (c.loop-block.block + 1) (trace device).now.seen;
      len : length (trace device).now.seen ≡ length (trace c.args.device.now).now.seen;
      honest : g.D.Device.is_honest device ≡ g.D.Device.is_honest c.args.device.now;
      failures : g.D.Device.failures device ≡ g.D.Device.failures c.args.device.now;
    }

pub loop-block-preserved : goal.loop-block-preserved
loop-block-preserved g c =
    let i = c.loop-block.invariant in
    let before = g.D.Device.trace c.loop-block.device in
    elim c.match-image.branch [
      | in-Some+in_ok-place w ↦
          let after = g.D.Device.trace w.place.new.device in
          let on = named_goes c.args.format c.args.found.now c.loop-block.block _ w.in-Some.bytes.now before after w.in-Some.ensures.kept
          w.in-Some.ensures.len w.page_place.ensures w.place.ensures.moments _ c.loop-block-test.true i.now in
          subst (Written g c) (sym w.device-is) (record {
            moments = goes_on _ _ before after i.moments on;
            now = goes_now _ before after on i.now;
            written = one_homed c.args.format c.args.found.now c.loop-block.block _ w.in-Some.bytes.now before after w.in-Some.ensures.kept
                w.in-Some.ensures.len w.page_place.ensures w.place.ensures.moments w.in_ok-place.ensures.there i.written;
            len = w.place.ensures.calls.len ∙ i.len;
            honest = w.place.ensures.calls.honest ∙ i.honest;
            failures = w.in_ok-place.ensures.calls.failures ∙ i.failures;
          })
      | in_default w ↦
          subst (Written g c) (sym w.device-is) (record {
            moments = i.moments;
            now = i.now;
            written = none_homed c.args.format c.args.found.now c.loop-block.block _ (sym w.in_default.ensures.kept) i.written;
            len = i.len;
            honest = i.honest;
            failures = i.failures;
          })
    ]
