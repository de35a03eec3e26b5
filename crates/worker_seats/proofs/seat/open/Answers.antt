use Rattle.std.proofs.Common.{◌∙◌, sym, refl}
use Rattle.worker_seats.proofs.Fitting.{widens, keeps_as}
use Rattle.worker_seats.proofs.seat.open.Goals as goal

pub split_seat-pass-requires : goal.split_seat-pass-requires
split_seat-pass-requires g c =
    let desk = c.args.desk.now in
    (desk.own ∙ sym desk.seats.of, desk.seats.word, widens _ _ (keeps_as _ _ c.requires.registry refl))
