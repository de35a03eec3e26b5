use Rattle.std.specs.Prelude.{None}
use Rattle.sessions.proofs.Imports.{WorldFits, WorldKeeps, handed_of}
use Rattle.sessions.proofs.run.run_listed.Given as goal

abbrev pub ghosts-run_named-J-Jobs : goal.ghosts-run_named-J-Jobs
ghosts-run_named-J-Jobs g a = record {
  jobs = a.jobs.now;
  workers = a.workers;
}

abbrev pub ghosts-run_named-J-Origin : goal.ghosts-run_named-J-Origin
ghosts-run_named-J-Origin g a = record {
  stood = WorldFits g.S.PageStore g.T.DeadRows a.world;
  kept_then = WorldKeeps g.S.PageStore g.T.DeadRows a.world;
  handed = handed_of g.S.PageStore g.T.DeadRows None a.world;
}

abbrev pub ghosts-run_named-J-SessionGroup : goal.ghosts-run_named-J-SessionGroup
ghosts-run_named-J-SessionGroup g a = record { sessions = a.session_cell.shared.table_id }

abbrev pub ghosts-run_named-J-OriginOn : goal.ghosts-run_named-J-OriginOn
ghosts-run_named-J-OriginOn g a = record { followed = λ first. g.S.PageStore.follows first a.world.store }

abbrev pub ghosts-run_named-J-Run : goal.ghosts-run_named-J-Run
ghosts-run_named-J-Run g a = record { seats = a.cell.shared.table_id; queue = a.queue.now.table.shared.table_id }

abbrev pub ghosts-run_named-J-Ledger : goal.ghosts-run_named-J-Ledger
ghosts-run_named-J-Ledger g a = record { name = a.blank.name; parts = a.blank.parts }
