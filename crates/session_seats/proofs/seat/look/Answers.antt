use Rattle.session_seats.proofs.Fitting.{checks_allows}
use Rattle.session_seats.proofs.seat.look.Goals as goal

pub load-requires : goal.load-requires
load-requires g =
    (g.requires.of, g.requires.word, checks_allows _ _ _ _ (λ n. n) 0 _ g.requires.keeps)
