use Rattle.std.specs.Prelude.{take, flat_map}
use Rattle.std.specs.Io.KnownBytes.{Appends}
use Rattle.text_forms.specs.Dumping.{entry_line}
use Rattle.text_forms.proofs.dump.print_entries.Given as goal

abbrev pub invariant-loop-entry : goal.invariant-loop-entry
invariant-loop-entry g l = Appends (g.W.Write.contents l.initial.out) (g.W.Write.contents l.out) (flat_map entry_line (take l.entry-index l.entries))
