use Rattle.std.proofs.Common.{◌∙◌}
use Rattle.redo_log.proofs.BlockLists.{found_among}
use Rattle.redo_log.proofs.waiting.Waiting.is_waiting.Goals as goal

pub returns : goal.returns
returns c = c.is_some.ensures ∙ found_among c.args.self.now.blocks.items c.args.block c.place_of.result c.place_of.ensures.found c.place_of.ensures.none
