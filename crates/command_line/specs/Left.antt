-- What commands leave.
use Rattle.std.specs.Prelude.{Result, ⊤}
use Rattle.std.specs.declared.io.Error.{Error}
use Rattle.command_line.specs.declared.end.End.{End}
use Rattle.command_line.specs.declared.left.Left.{Left}
use Rattle.command_line.specs.declared.left.Left.TheVariants.{Nothing, Played, Ran, Created, Copied, Checked, Dumped}

module _ {D N S : Type 0} where
  -- how the command ended
  abbrev pub end_of : Left D N S → Result End Error
  end_of (Nothing end) = end
  end_of (Played script) = script.end
  end_of (Ran ran) = ran.end
  end_of (Created created) = created.end
  end_of (Copied copied) = copied.end
  end_of (Checked looked) = looked.end
  end_of (Dumped looked) = looked.end

  -- a command was run
  abbrev pub IsRun : Left D N S → Type 0
  IsRun (Nothing end) = ⊥
  IsRun left = ⊤

  -- this, if no command was run
  abbrev pub IfNotRun : Left D N S → Type 0 → Type 0
  IfNotRun (Nothing end) p = p
  IfNotRun left p = ⊤
