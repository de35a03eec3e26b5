use Rattle.std.proofs.Common.{◌≡◌, true, false, refl}
use Rattle.amcheck.proofs.Beyond.{least_six}
use Rattle.amcheck.proofs.stops.find_number.Goals as goal

pub returns-then-has_wrong_item : goal.returns-then-has_wrong_item
returns-then-has_wrong_item c = record {
  least = least_six c.args.keys c.args.sketch.now c.args.root (record { low = c.args.low.now; left = c.args.stop.now.left; left_is_split = c.args.stop.now.left_is_split }) c.args.stop.now.block
      (λ differs. let k : false ≡ true = c.if-is_linked_wrongly.ensures.1 differs in absurd cc)
      (λ deleted. let k : false ≡ true = c.if-is_deleted.ensures.1 deleted in absurd cc)
      (λ low. let k : false ≡ true = c.if-is_too_low.ensures.1 low in absurd cc)
      (c.if-has_wrong_item.ensures.0 refl);
}
