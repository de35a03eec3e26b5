use Rattle.session_seats.proofs.Fitting.{leaves}
use Rattle.session_seats.proofs.seat.leave.Goals as goal

pub split_seat-requires : goal.split_seat-requires
split_seat-requires g =
    (g.requires.of, g.requires.word, leaves _ _ g.requires.keeps)
