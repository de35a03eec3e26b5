use Rattle.std.proofs.Common.{refl, ap, ◌==◌}
use prog.Atomic.{either}
use Rattle.session_seats.proofs.Fitting.{begins_allows}
use Rattle.session_seats.proofs.seat.begin_there.Goals as goal

pub compare_exchange_with-requires : goal.compare_exchange_with-requires
compare_exchange_with-requires g c =
    (c.requires.of, c.requires.word, begins_allows _ _ c.args.registry.now.me.0 c.args.registry.now.me.1 (λ n. either (n == 0) 0 n) 0 0 0 c.args.notice.now c.requires.keeps c.requires.sits g.B.AskedRows.rows)

pub returns-clause-known : goal.returns-clause-known
returns-clause-known g c = ap (λ w. w.0) (c.compare_exchange_with.ensures.2 c.args.notice.now refl)
