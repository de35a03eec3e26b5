-- What the texts of a command line say.
use Rattle.std.specs.Prelude.{◌≡◌, ◌<◌, ◌^◌, true, false, Bool, ℕ, Some, None, Option, List, codes}
use Rattle.std.specs.Str.Parse.{IsNumeral, digits_value, without_leading_plus}
use Rattle.clap.specs.Words.{Row, one_of}
use Rattle.index_model.specs.declared.limits.Limits.{Limits}
use Rattle.command_line.specs.declared.copying.CopySizes.{CopySizes}
use Rattle.command_line.specs.declared.engine.Setting.{Setting}

-- the text of an argument, by what was found of all
abbrev pub said_in : List Row → List ℕ → Option (List ℕ)
said_in words name = one_of name words

-- the flag of this text is on if its word was there, and off if not
pub record HasFlag (said : Option (List ℕ)) (on : Bool) : Type 0 where
  pub set : said ≡ Some (codes "true") → on ≡ true
  pub unset : said ≡ Some (codes "false") → on ≡ false
  pub absent : said ≡ None → on ≡ false

-- the text is digits that spell this number below 2^32; a plus may stand in front
pub record SpellsNumber (text : List ℕ) (number : ℕ) : Type 0 where
  pub digits : IsNumeral 10 (without_leading_plus text)
  pub low : number < 2 ^ 32
  pub is : number ≡ digits_value 10 (without_leading_plus text)

-- the number is the one that the text spells; it is 0 if there is no text, or one that spells none
pub record HasNumber (said : Option (List ℕ)) (number : ℕ) : Type 0 where
  pub spelled : (text : List ℕ) (spelled : ℕ) → said ≡ Some text → SpellsNumber text spelled → number ≡ spelled
  pub other : (text : List ℕ) → said ≡ Some text → ((spelled : ℕ) → SpellsNumber text spelled → ⊥) → number ≡ 0
  pub absent : said ≡ None → number ≡ 0

-- the sizes of an index, and whether it is unique, by the texts of their names
pub record HasLimits (said : List ℕ → Option (List ℕ)) (limits : Limits) : Type 0 where
  pub items : HasNumber (said (codes "items")) limits.items
  pub pages : HasNumber (said (codes "pages")) limits.pages
  pub log : HasNumber (said (codes "log")) limits.log_bytes
  pub unique : HasFlag (said (codes "unique")) limits.unique

-- ... and what a script is run with
pub record HasSetting (said : List ℕ → Option (List ℕ)) (setting : Setting) : Type 0 where
  pub limits : HasLimits said setting.limits
  pub frames : HasNumber (said (codes "frames")) setting.frames
  pub sessions : HasNumber (said (codes "sessions")) setting.sessions

-- ... and the threads of a run, and the pages that it holds in memory
pub record HasRunSizes (said : List ℕ → Option (List ℕ)) (workers frames : ℕ) : Type 0 where
  pub workers_are : HasNumber (said (codes "workers")) workers
  pub frames_are : HasNumber (said (codes "frames")) frames

-- the number is the one that the text spells; there is none if there is no text, or one that spells none
pub record HasNumberIfSaid (said : Option (List ℕ)) (number : Option ℕ) : Type 0 where
  pub spelled : (text : List ℕ) (spelled : ℕ) → said ≡ Some text → SpellsNumber text spelled → number ≡ Some spelled
  pub other : (text : List ℕ) → said ≡ Some text → ((spelled : ℕ) → SpellsNumber text spelled → ⊥) → number ≡ None
  pub absent : said ≡ None → number ≡ None

-- the sizes that are said of a copy
pub record HasSizes (said : List ℕ → Option (List ℕ)) (sizes : CopySizes) : Type 0 where
  pub items : HasNumberIfSaid (said (codes "items")) sizes.items
  pub pages : HasNumberIfSaid (said (codes "pages")) sizes.pages
  pub log : HasNumberIfSaid (said (codes "log")) sizes.log_bytes
  pub unique : HasFlag (said (codes "unique")) sizes.unique
