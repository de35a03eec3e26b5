use Rattle.std.proofs.Common.{◌∙◌}
use Rattle.session_seats.proofs.Fitting.{sits_down}
use Rattle.session_seats.proofs.seat.sit_down.Goals as goal

pub join_seat-requires : goal.join_seat-requires
join_seat-requires g =
    (g.requires.of, g.requires.seat ∙ g.requires.of, g.requires.idle, g.requires.word, sits_down _ _ _ _ g.requires.keeps)
