use Rattle.std.proofs.Common.{◌∷◌, ◌∙◌, ap, Some, List, ℕ}
use Rattle.text_forms.proofs.Read.{no_entry}
use Rattle.text_forms.proofs.values.entry.Goals as goal

pub returns-clause-refused : goal.returns-clause-refused
returns-clause-refused c = λ fault told.
    record {
      key = c.in_ok-next.field-0.now;
      row = c.in_ok-next-2.field-0.now;
      is = no_entry c.in_ok-key.key c.in_ok-row.row c.entry_of.result c.in_ok-next.field-0.now c.in_ok-next-2.field-0.now fault
          (λ key is. c.in_ok-key.ensures.found key (ap Some is)) (λ key is. c.in_ok-key.ensures.valid key (ap Some is)) (λ f is. c.in_ok-key.ensures.long f (ap Some is))
          c.in_ok-row.ensures.found c.entry_of.ensures.key_first c.entry_of.ensures.then_row c.entry_of.ensures.both cc;
      spelled = c.in_ok-next.ensures ∙ ap (λ (ws : List (List ℕ)). c.in_ok-next.field-0.now ∷ ws) c.in_ok-next-2.ensures;
    }
