use Rattle.world.specs.Worlds.{inside}
use Rattle.shared_world.proofs.Words.{rows_asked}
use Rattle.shared_world.proofs.live.Live.begin.Given as goal

abbrev pub ghosts-begin_naming : goal.ghosts-begin_naming
ghosts-begin_naming g a = record { rows = rows_asked (inside g.T.DeadRows a.world.now).sets a.notice.now.asked }
