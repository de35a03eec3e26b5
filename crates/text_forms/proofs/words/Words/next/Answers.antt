use Rattle.std.proofs.Common.{◌+◌, sym, ◌∙◌}
use Rattle.text_forms.proofs.Parts.{words_of-whole, words_of-parted, take_rest}
use Rattle.text_forms.proofs.words.Words.next.Goals as goal

pub returns-in-None : goal.returns-in-None
returns-in-None c =
    rw (← c.self.view_is, c.in_ok-rest.was) (words_of-whole c.in_ok-rest.rest.now (sym c.first_space.ensures ∙ c.in-None.is))

pub returns-in-Some : goal.returns-in-Some
returns-in-Some c =
    rw (← c.self.view_is, c.in_ok-rest.was, take_rest c.in_ok-rest.rest.now (c.in-Some.at + 1))
    (words_of-parted c.in_ok-rest.rest.now c.in-Some.at (sym c.first_space.ensures ∙ c.in-Some.is))
