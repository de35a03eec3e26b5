use Rattle.std.proofs.Common.{sym, ◌∙◌}
use Rattle.amcheck.proofs.Found.{bad_where}
use Rattle.amcheck.proofs.bad_places.is_bad.Goals as goal

pub returns : goal.returns
returns c =
    let found = bad_where _ _ _ _ _ c.number_at.result c.number_at.ensures.least in
    (λ e. found.0 (sym c.is_some.ensures ∙ e), λ bad. c.is_some.ensures ∙ found.1 bad)
