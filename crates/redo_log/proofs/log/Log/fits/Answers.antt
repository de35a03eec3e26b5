use Rattle.std.proofs.Common.{◌<◌, arith}
use Rattle.redo_log.proofs.Imports.{OnTrue_from, new_count, ImagesFit, waiting_blocks}
use Rattle.redo_log.proofs.BlockLists.{new_count-most}
use Rattle.redo_log.proofs.log.Log.fits.Goals as goal

pub returns-then-images-room-clause-fit : goal.returns-then-images-room-clause-fit
returns-then-images-room-clause-fit c =
    let s = c.args.self.now in
    let n = new_count (waiting_blocks s) c.args.images.now in
    let fit : 0 < n → ImagesFit s n = λ some. c.room-room.ensures.fit n some (omega (arith, new_count-most (waiting_blocks s) c.args.images.now)) in
    OnTrue_from _ (0 < n → ImagesFit s n) (λ _. fit)
