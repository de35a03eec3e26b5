use Rattle.std.proofs.Common.{◌≡◌, ◌++◌, length}
use Rattle.std.specs.Prelude.{map}
use Rattle.text_forms.specs.Spelling.{row_text}
use Rattle.text_forms.specs.Values.{AreRows}
use Rattle.command_line.proofs.dead.listed.Given as goal

abbrev pub decreases-loop-row : goal.decreases-loop-row
decreases-loop-row l = length l.words

abbrev pub invariant-loop-row : goal.invariant-loop-row
invariant-loop-row l = record {
  are : AreRows l.initial.words → AreRows l.words;
  named : l.initial.words ≡ map row_text l.rows.items ++ l.words;
}
