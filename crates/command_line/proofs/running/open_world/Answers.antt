use Rattle.std.specs.Prelude.{length}
use Rattle.std.proofs.Common.{ap, sym, subst, ◌∙◌}
use Rattle.recovery.specs.Index.{HasIndex}
use Rattle.command_line.proofs.NoRun.{world_not_opened}
use Rattle.command_line.proofs.running.open_world.Goals as goal

-- the file is as long as it was, so what it held when it was opened is what the device began with
pub returns-in-Ok-open-clause-opened : goal.returns-in-Ok-open-clause-opened
returns-in-Ok-open-clause-opened g c =
    let seen = ap (λ t. t.now.seen) c.in-Ok.ensures.held in
    let same = ap g.S.Start.bytes (c.in-Ok-open.ensures.len ∙ ap length seen ∙ g.S.Start.sized _) ∙ sym seen in
    record {
      opened = c.in-Ok-open.ensures.frames;
      sessions_are = c.in-Ok-open.ensures.sessions;
      sets_are = ap (λ sets. sets.items) c.in-Ok-open.ensures.sets;
      begins = λ honest format pages index tree.
          c.in-Ok-open.ensures.begins honest c.in-Ok-open.ensures.asked.0 c.in-Ok-open.ensures.asked.1 c.in-Ok-open.ensures.asked.2 format pages (subst (HasIndex format pages) same index) tree;
    }

pub returns-clause-refused : goal.returns-clause-refused
returns-clause-refused g c =
    world_not_opened _ g.S.Start.bytes g.S.Start.sized _ _ _ c.in-Ok.device _ _ c.in-Ok.ensures.held c.in-Ok.ensures.failures
    c.in-Err-open.ensures.len c.in-Err-open.ensures.cause c.in-Err-open.ensures.begins
