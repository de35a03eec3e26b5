-- What was made of a shape has it.
use Rattle.std.proofs.Common.{◌≡◌, Result, Ok, Err}
use Rattle.std.specs.Prelude.{IfOk}
use Rattle.std.specs.declared.alloc.AllocError.{AllocError}
use Rattle.clap.specs.Words.{App, app_of}
use Rattle.clap.specs.declared.builder.command.Command.{Command}
use Rattle.command_line.specs.Program.{MakesApp}

pub shaped : (made : Result Command AllocError) (app : App) → MakesApp made app → IfOk made (λ command. app_of command ≡ app)
shaped (Ok command) app is = is.shape
shaped (Err error) app is = is
