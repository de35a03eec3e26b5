use Rattle.std.proofs.Common.{map, subst}
use Rattle.command_line.specs.Commands.{NamesNone}
use Rattle.command_line.proofs.Kept.{not_run_never, prints_as}
use Rattle.command_line.proofs.Named.{kept_line, named_is, only_memory}
use Rattle.command_line.proofs.Needed.{some_named}
use Rattle.command_line.proofs.streams.command.Goals as goal

pub returns-in-Ok-try_get_matches_from-clause-printed : goal.returns-in-Ok-try_get_matches_from-clause-printed
returns-in-Ok-try_get_matches_from-clause-printed g c =
    prints_as _ _ _ _ _ _ _ _ _ c.run.result (named_is _ _ _ c.in-Ok.ensures c.in-Ok-try_get_matches_from.ensures.matches) c.run.ensures.printed

pub returns-in-Ok-try_get_matches_from-clause-fit : goal.returns-in-Ok-try_get_matches_from-clause-fit
returns-in-Ok-try_get_matches_from-clause-fit g c is_run = kept_line _ _ c.in-Ok.ensures c.in-Ok-try_get_matches_from.ensures.kinds

pub returns-in-Ok-try_get_matches_from-clause-no_memory : goal.returns-in-Ok-try_get_matches_from-clause-no_memory
returns-in-Ok-try_get_matches_from-clause-no_memory g c keeps =
    not_run_never _ c.run.result c.run.ensures.none
    (λ none. some_named (map g.S.AsStr.text c.args.words.now) keeps
    (subst NamesNone (named_is _ _ _ c.in-Ok.ensures c.in-Ok-try_get_matches_from.ensures.matches) none))

pub returns-in-Ok-try_get_matches_from-clause-silent : goal.returns-in-Ok-try_get_matches_from-clause-silent
returns-in-Ok-try_get_matches_from-clause-silent g c keeps =
    not_run_never _ c.run.result c.run.ensures.none
    (λ none. some_named (map g.S.AsStr.text c.args.words.now) keeps
    (subst NamesNone (named_is _ _ _ c.in-Ok.ensures c.in-Ok-try_get_matches_from.ensures.matches) none))

pub returns-in-Err-clause-no_memory : goal.returns-in-Err-clause-no_memory
returns-in-Err-clause-no_memory g c keeps =
    c.say.ensures.no_memory (only_memory _ _ c.in-Err.error c.in-Ok.ensures c.in-Err.ensures.kinds keeps)

pub returns-in-Err-clause-silent : goal.returns-in-Err-clause-silent
returns-in-Err-clause-silent g c keeps =
    c.say.ensures.silent (only_memory _ _ c.in-Err.error c.in-Ok.ensures c.in-Err.ensures.kinds keeps)
