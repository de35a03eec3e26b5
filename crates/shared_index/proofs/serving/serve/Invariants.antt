use Rattle.std.specs.Prelude.{Some}
use Rattle.world.specs.Worlds.{WorldFits, WorldKeeps}
use Rattle.shared_world.specs.Handed.{handed_of}
use Rattle.shared_index.proofs.serving.serve.Given as goal

abbrev pub ghosts-serve_named-J-SessionGroup : goal.ghosts-serve_named-J-SessionGroup
ghosts-serve_named-J-SessionGroup g a = record { sessions = a.cell.shared.table_id }

abbrev pub ghosts-serve_named-J-Origin : goal.ghosts-serve_named-J-Origin
ghosts-serve_named-J-Origin g a = record {
  stood = WorldFits g.S.PageStore g.T.DeadRows a.world;
  kept_then = WorldKeeps g.S.PageStore g.T.DeadRows a.world;
  handed = handed_of g.S.PageStore g.T.DeadRows (Some 0) a.world;
}

abbrev pub ghosts-serve_named-J-OriginOn : goal.ghosts-serve_named-J-OriginOn
ghosts-serve_named-J-OriginOn g a = record { followed = λ first. g.S.PageStore.follows first a.world.store }
