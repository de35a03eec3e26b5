use Rattle.std.proofs.Common.{◌∙◌, ap}
use Rattle.device.specs.Past.{writes_of}
use Rattle.device.proofs.Noting.{left_by_a_crash, since_inside}
use Rattle.device.proofs.memory.MemDevice.crash.Goals as goal

pub torn_image-made-requires : goal.torn_image-made-requires
torn_image-made-requires c =
    let m = c.args.self.now in
    since_inside m.past.value.start m.past.value.calls m.inside c.deref-in-Tear.result.now (writes_of c.deref-in-Tear-2.result.now)
    (c.deref-in-Tear.ensures.value ∙ m.firm_is) (ap writes_of c.deref-in-Tear-2.ensures.value ∙ m.since_is)

pub returns-in_default-clause-left : goal.returns-in_default-clause-left
returns-in_default-clause-left c = left_by_a_crash c.args.self.now c.args.image

pub returns-clause-left : goal.returns-clause-left
returns-clause-left c = left_by_a_crash c.args.self.now c.args.image
