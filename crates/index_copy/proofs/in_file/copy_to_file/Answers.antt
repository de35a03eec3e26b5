use Rattle.std.proofs.lemmas.Result.{IfErr-at_err, IfOk-at_ok}
use Rattle.index_model.specs.Formats.{made}
use Rattle.index_copy.proofs.in_file.copy_to_file.Goals as goal

pub returns-in-Ok-place-clause-holds : goal.returns-in-Ok-place-clause-holds
returns-in-Ok-place-clause-holds g c =
    IfOk-at_ok _ c.in-Ok-copied.is c.copy_onto-copied.ensures.holds (made c.args.limits.now) c.in-Ok.ensures.own

pub returns-in-Err-copied-clause-refused : goal.returns-in-Err-copied-clause-refused
returns-in-Err-copied-clause-refused g c honest_from start history calls fits honest =
    IfErr-at_err _ c.in-Err-copied.is c.copy_onto-copied.ensures.refused (made c.args.limits.now) c.in-Ok.ensures.own honest honest_from start history calls fits
