use Rattle.std.proofs.Common.{ap, Some, Ok}
use Rattle.text_forms.proofs.Read.{star_end}
use Rattle.text_forms.proofs.values.end.Goals as goal

pub returns-then-is_word-clause-only : goal.returns-then-is_word-clause-only
returns-then-is_word-clause-only c = λ key is spelled. ap (λ k. Some (Ok k)) (star_end key c.args.text.now (c.is_word.ensures.0 c.if-is_word.true) spelled)
