use Rattle.std.proofs.Common.{refl, ap, ◌==◌}
use prog.Atomic.{either}
use Rattle.session_seats.proofs.Fitting.{ends_allows}
use Rattle.session_seats.proofs.seat.end_there.Goals as goal

pub compare_exchange_with-requires : goal.compare_exchange_with-requires
compare_exchange_with-requires g =
    (g.requires.of, g.requires.word, ends_allows _ _ g.args.registry.now.me.0 g.args.registry.now.me.1 (λ n. either (n == 0) 0 n) 0 0 0 g.args.notice.now g.requires.keeps g.requires.sits)

pub returns-clause-known : goal.returns-clause-known
returns-clause-known c = ap (λ w. w.0) (c.compare_exchange_with.ensures.2 c.args.notice.now refl)
