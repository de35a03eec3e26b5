use Rattle.std.proofs.Common.{◌≡◌, true, false, length}
use Rattle.text_forms.specs.Values.{AreRows, HaveRowForms}
use Rattle.text_forms.proofs.values.all_rows.Given as goal

abbrev pub decreases-loop-word : goal.decreases-loop-word
decreases-loop-word l = length l.words

abbrev pub invariant-loop-word : goal.invariant-loop-word
invariant-loop-word l = record {
  forms : HaveRowForms l.words → HaveRowForms l.all;
  left_forms : HaveRowForms l.all → HaveRowForms l.words;
  rows : l.is_bad ≡ false → AreRows l.words → AreRows l.all;
  left_rows : AreRows l.all → AreRows l.words;
  bad : l.is_bad ≡ true → AreRows l.all → ⊥;
}
