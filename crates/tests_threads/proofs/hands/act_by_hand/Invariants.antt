use Rattle.std.specs.Prelude.{None}
use Rattle.worker_seats.specs.Seats.{no_table}
use Rattle.world.specs.Worlds.{WorldFits, WorldKeeps}
use Rattle.shared_world.specs.Handed.{handed_of}
use Rattle.tests_threads.proofs.hands.act_by_hand.Given as goal

abbrev pub ghosts-act_named-J-Jobs : goal.ghosts-act_named-J-Jobs
ghosts-act_named-J-Jobs g a = record {
  jobs = a.jobs.now;
  workers = a.by.workers;
}

abbrev pub ghosts-act_named-J-Origin : goal.ghosts-act_named-J-Origin
ghosts-act_named-J-Origin g a = record {
  stood = WorldFits g.S.PageStore g.T.DeadRows a.world;
  kept_then = WorldKeeps g.S.PageStore g.T.DeadRows a.world;
  handed = handed_of g.S.PageStore g.T.DeadRows None a.world;
}

abbrev pub ghosts-act_named-J-SessionGroup : goal.ghosts-act_named-J-SessionGroup
ghosts-act_named-J-SessionGroup g a = record { sessions = a.session_cell.shared.table_id }

abbrev pub ghosts-act_named-J-OriginOn : goal.ghosts-act_named-J-OriginOn
ghosts-act_named-J-OriginOn g a = record { followed = λ first. g.S.PageStore.follows first a.world.store }

abbrev pub ghosts-act_named-J-Run : goal.ghosts-act_named-J-Run
ghosts-act_named-J-Run g a = record { seats = a.cell.shared.table_id; queue = no_table }

abbrev pub ghosts-act_named-J-Ledger : goal.ghosts-act_named-J-Ledger
ghosts-act_named-J-Ledger g a = record { name = a.blank.name; parts = a.blank.parts }
