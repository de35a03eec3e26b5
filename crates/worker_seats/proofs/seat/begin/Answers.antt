use Rattle.atomic_table.specs.Table.{step}
use mathlib.Core.Option.{none}
use Rattle.worker_seats.proofs.Fitting.{starts_allows}
use Rattle.worker_seats.proofs.seat.begin.Goals as goal

pub swap-requires : goal.swap-requires
swap-requires c =
    (c.requires.of, c.requires.word, starts_allows _ _ c.args.registry.now.me.0 c.args.registry.now.me.1 (λ n. c.from.result) 0 (step c.args.cell.now.shared.table_id.slots 0 c.from.result 0 none) c.requires.keeps c.requires.sits)
