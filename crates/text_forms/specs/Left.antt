-- What is left of a line.
use Rattle.std.specs.Prelude.{ℕ, Option, Some, None, List, []}
use Rattle.std.specs.Borrow.{Bor}
use Rattle.text_forms.specs.Spelling.{words_of}

-- the words of the rest, none if there is no rest
abbrev pub words_left : Option (Bor (List ℕ)) → List (List ℕ)
words_left None = []
words_left (Some rest) = words_of rest.now
