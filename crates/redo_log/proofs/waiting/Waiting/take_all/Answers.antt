use Rattle.std.proofs.Common.{length, ap, arith}
use Rattle.redo_log.proofs.BlockLists.{with_blocks-first}
use Rattle.redo_log.proofs.waiting.Waiting.take_all.Goals as goal

pub take-requires-clause-room : goal.take-requires-clause-room
take-requires-clause-room c =
    let k = c.loop-rest in
    omega (arith, with_blocks-first k.self.blocks.items k.rest.now c.image-item.result (omega arith) c.image-item.is, ap length k.invariant.blocks, c.requires.room)
