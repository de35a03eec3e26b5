use Rattle.std.proofs.Common.{◌≡◌, length}
use Rattle.redo_log.specs.Blocks.{image_blocks, is_among_blocks}
use Rattle.redo_log.proofs.waiting.has_block.Given as goal

abbrev pub invariant-loop-rest : goal.invariant-loop-rest
invariant-loop-rest l = is_among_blocks (image_blocks l.rest) l.block ≡ is_among_blocks (image_blocks l.images) l.block

abbrev pub decreases-loop-rest : goal.decreases-loop-rest
decreases-loop-rest l = length l.rest
