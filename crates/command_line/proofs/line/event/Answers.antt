use Rattle.std.proofs.Common.{◌∷◌, ◌∙◌, ℕ, List, ap}
use Rattle.command_line.proofs.Refusing.{refused_so}
use Rattle.command_line.proofs.line.event.Goals as goal

pub returns-clause-only_refused : goal.returns-clause-only_refused
returns-clause-only_refused c = λ fault refused.
    refused_so fault _ _ _ _
    (c.in_ok-name.ensures ∙ ap (λ (ws : List (List ℕ)). c.in_ok-name.name.now ∷ ws) c.in_ok-value.ensures) refused (c.one_session.ensures.only_refused fault)
