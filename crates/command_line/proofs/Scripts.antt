-- Lines by their words.
use Rattle.std.proofs.Common.{◌≡◌, ℕ, List}
use Rattle.command_line.proofs.Imports.{words_of, line_words, Spells}
use Rattle.command_line.specs.declared.line.Line.{Line}
use Rattle.command_line.specs.declared.line.Line.TheVariants.{Nothing}
use Rattle.text_forms.proofs.Parts.{words_of-some}

-- the words of a line spell it
pub spells_by_words : (text : List ℕ) (line : Line) → words_of text ≡ line_words line → Spells text line
spells_by_words text Nothing same = absurd (words_of-some text same)
spells_by_words text _ same = same
