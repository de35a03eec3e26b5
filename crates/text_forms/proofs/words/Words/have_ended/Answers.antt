use Rattle.std.proofs.lemmas.Bool.{false≢true}
use Rattle.text_forms.proofs.Parts.{words_of-some}
use Rattle.text_forms.proofs.words.Words.have_ended.Goals as goal

pub returns-in-Some : goal.returns-in-Some
returns-in-Some c = (
  λ no. absurd (false≢true no),
  λ none. absurd (words_of-some c.in-Some.field-0.now (rw (← c.self.view_is, c.in-Some.is) at none)),
)
