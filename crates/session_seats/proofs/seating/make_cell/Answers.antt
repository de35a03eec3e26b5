use Rattle.session_seats.proofs.Fitting.{begins}
use Rattle.session_seats.proofs.seating.make_cell.Goals as goal

pub of_words-requires : goal.of_words-requires
of_words-requires c = begins
