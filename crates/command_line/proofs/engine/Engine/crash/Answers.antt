use Rattle.std.proofs.Common.{sym, subst}
use Rattle.device.specs.Disk.{Trace}
use Rattle.recovery.specs.Index.{HasIndex}
use Rattle.command_line.proofs.engine.Engine.crash.Goals as goal

pub returns-clause-image : goal.returns-clause-image
returns-clause-image c format pages index tree =
    c.in_ok-self.ensures.begins c.args.self.now.allowed format pages
    (subst (λ (t : Trace). HasIndex format pages t.now.seen) (sym c.in_ok-device.ensures.bytes) index) tree

pub returns-clause-reopened : goal.returns-clause-reopened
returns-clause-reopened c start history calls fits keeps =
    let left = c.crash_law.ensures.now start history calls _ fits keeps c.crash.ensures.left in
    let format = c.args.self.now.world.store.held.format in
    let index = subst (λ (t : Trace). HasIndex format left.pages t.now.seen) (sym c.in_ok-device.ensures.bytes) left.index in
    record {
      part = left.part;
      from = left.from;
      to = left.to;
      pages = left.pages;
      are = left.are;
      begins = c.in_ok-self.ensures.begins c.args.self.now.allowed format left.pages index (left.are.tree, left.are.keyed);
    }
