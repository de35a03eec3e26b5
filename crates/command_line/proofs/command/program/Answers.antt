use Rattle.command_line.proofs.Shaped.{shaped}
use Rattle.command_line.proofs.command.program.Goals as goal

pub returns : goal.returns
returns c =
    let played = c.with_command-made.ensures _ _ c.start-made.ensures c.play.ensures in
    let run = c.with_command-made-2.ensures _ _ played c.run.ensures in
    let created = c.with_command-made-3.ensures _ _ run c.create.ensures in
    let copied = c.with_command-made-4.ensures _ _ created c.copy.ensures in
    let checked = c.with_command-made-5.ensures _ _ copied c.check.ensures in
    shaped _ _ (c.with_command.ensures _ _ checked c.dump.ensures)
