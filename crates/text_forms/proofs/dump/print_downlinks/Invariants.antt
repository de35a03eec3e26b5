use Rattle.std.specs.Prelude.{take, flat_map}
use Rattle.std.specs.Io.KnownBytes.{Appends}
use Rattle.text_forms.specs.Dumping.{downlink_line}
use Rattle.text_forms.proofs.dump.print_downlinks.Given as goal

abbrev pub invariant-loop-link : goal.invariant-loop-link
invariant-loop-link g l = Appends (g.W.Write.contents l.initial.out) (g.W.Write.contents l.out) (flat_map downlink_line (take l.link-index l.links))
