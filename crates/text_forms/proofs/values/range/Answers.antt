use Rattle.std.proofs.Common.{◌∷◌, ◌∙◌, ap, Some, List, ℕ}
use Rattle.text_forms.proofs.Read.{no_range}
use Rattle.text_forms.proofs.values.range.Goals as goal

pub returns-clause-refused : goal.returns-clause-refused
returns-clause-refused c = λ fault told.
    record {
      from = c.in_ok-next.field-0.now;
      below = c.in_ok-next-2.field-0.now;
      is = no_range c.in_ok-from.from c.in_ok-below.below c.range_of.result c.in_ok-next.field-0.now c.in_ok-next-2.field-0.now fault
          c.in_ok-from.ensures.ok c.in_ok-from.ensures.valid (λ f is. c.in_ok-from.ensures.long f (ap Some is)) c.in_ok-below.ensures.ok
          c.in_ok-below.ensures.valid (λ f is. c.in_ok-below.ensures.long f (ap Some is))
          c.range_of.ensures.from_first c.range_of.ensures.then_below c.range_of.ensures.both cc;
      spelled = c.in_ok-next.ensures ∙ ap (λ (ws : List (List ℕ)). c.in_ok-next.field-0.now ∷ ws) c.in_ok-next-2.ensures;
    }
