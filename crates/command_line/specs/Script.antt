-- The lines of a script, as they are spelled.
use Rattle.std.specs.Prelude.{◌≡◌, ◌<◌, ◌^◌, ℕ, Bool, true, List, [], ◌∷◌, ◌⊎◌, codes, slice_index, ⊤}
use Rattle.std.specs.Fmt.{decimal}
use Rattle.index_model.specs.declared.fault.Fault.{Fault}
use Rattle.text_forms.specs.Spelling.{is_one_of, words_of}
use Rattle.text_forms.specs.Values.{IsEntryOfBytes, IsRangeOfBytes, AreNoEntry, AreNoRange, AreRows, AreNoRows, entry_words, range_words}
use Rattle.command_line.specs.declared.line.Crash.{Crash}
use Rattle.command_line.specs.declared.line.Crash.TheVariants.{Keep, Drop, Tear}
use Rattle.command_line.specs.declared.line.Line.{Line}
use Rattle.command_line.specs.declared.line.Line.TheVariants.{Nothing, Insert, Scan, Bulk, Cleanup, Step, Run, Next, End, Put, List as ListOf, Force, Flush, Checkpoint, Fail, Stop, Crash as CrashOf, Dump}

abbrev pub crash_text : Crash → List ℕ
crash_text Keep = codes "keep"
crash_text Drop = codes "drop"
crash_text Tear = codes "tear"

-- the words of a line
abbrev pub line_words : Line → List (List ℕ)
line_words Nothing = []
line_words (Insert session entry) = codes "insert" ∷ decimal session ∷ entry_words entry
line_words (Scan session range) = codes "scan" ∷ decimal session ∷ range_words range
line_words (Bulk session rows) = codes "bulk" ∷ decimal session ∷ rows
line_words (Cleanup session) = codes "cleanup" ∷ decimal session ∷ []
line_words (Step session) = codes "step" ∷ decimal session ∷ []
line_words (Run session) = codes "run" ∷ decimal session ∷ []
line_words (Next session) = codes "next" ∷ decimal session ∷ []
line_words (End session) = codes "end" ∷ decimal session ∷ []
line_words (Put session entry) = codes "put" ∷ decimal session ∷ entry_words entry
line_words (ListOf session range) = codes "list" ∷ decimal session ∷ range_words range
line_words Force = codes "force" ∷ []
line_words Flush = codes "flush" ∷ []
line_words Checkpoint = codes "checkpoint" ∷ []
line_words (Fail number) = codes "fail" ∷ decimal number ∷ []
line_words (Stop number) = codes "stop" ∷ decimal number ∷ []
line_words (CrashOf crash) = codes "crash" ∷ crash_text crash ∷ []
line_words Dump = codes "dump" ∷ []

-- an empty line, or a comment
abbrev pub IsSilentLine : List ℕ → Type 0
IsSilentLine text = (text ≡ []) ⊎ (slice_index text 0 ≡ 35)

-- the text spells the line
abbrev pub Spells : List ℕ → Line → Type 0
Spells text Nothing = IsSilentLine text
Spells text line = words_of text ≡ line_words line

-- the number of a session, and that of a device call
abbrev pub IsSession : ℕ → Type 0
IsSession session = session < 2 ^ 32

abbrev pub IsCount : ℕ → Type 0
IsCount number = (0 < number) × (number < 2 ^ 64)

-- the values of a line are in their ranges: keys of at most 64 bytes, rows that there are, numbers
abbrev pub HasValues : Line → Type 0
HasValues Nothing = ⊤
HasValues (Insert session entry) = IsSession session × IsEntryOfBytes entry
HasValues (Scan session range) = IsSession session × IsRangeOfBytes range
HasValues (Bulk session rows) = IsSession session × AreRows rows
HasValues (Cleanup session) = IsSession session
HasValues (Step session) = IsSession session
HasValues (Run session) = IsSession session
HasValues (Next session) = IsSession session
HasValues (End session) = IsSession session
HasValues (Put session entry) = IsSession session × IsEntryOfBytes entry
HasValues (ListOf session range) = IsSession session × IsRangeOfBytes range
HasValues Force = ⊤
HasValues Flush = ⊤
HasValues Checkpoint = ⊤
HasValues (Fail number) = IsCount number
HasValues (Stop number) = IsCount number
HasValues (CrashOf crash) = ⊤
HasValues Dump = ⊤

-- the names of the lines of one word, of the device, of a session alone, with an entry, with a range, and
-- with rows
abbrev pub is_plain : List ℕ → Bool
is_plain name = is_one_of name (codes "force" ∷ codes "flush" ∷ codes "checkpoint" ∷ codes "dump" ∷ [])

abbrev pub is_counted : List ℕ → Bool
is_counted name = is_one_of name (codes "fail" ∷ codes "stop" ∷ codes "crash" ∷ [])

abbrev pub is_of_session : List ℕ → Bool
is_of_session name = is_one_of name (codes "cleanup" ∷ codes "step" ∷ codes "run" ∷ codes "next" ∷ codes "end" ∷ [])

abbrev pub names_entry : List ℕ → Bool
names_entry name = is_one_of name (codes "insert" ∷ codes "put" ∷ [])

abbrev pub has_range : List ℕ → Bool
has_range name = is_one_of name (codes "scan" ∷ codes "list" ∷ [])

abbrev pub has_rows : List ℕ → Bool
has_rows name = is_one_of name (codes "bulk" ∷ [])

-- what a line of this name with these words after its session is refused with: it has its form, but a key or
-- a row that there isn't
abbrev pub AreNoValues : Fault → List ℕ → List (List ℕ) → Type 0
AreNoValues fault name words = ((names_entry name ≡ true) × AreNoEntry fault words [])
    ⊎ (((has_range name ≡ true) × AreNoRange fault words []) ⊎ ((has_rows name ≡ true) × AreNoRows fault words))

-- what a line of these words is refused with
pub record AreRefused (fault : Fault) (words : List (List ℕ)) : Type 0 where
  pub name : List ℕ
  pub session : ℕ
  pub values : List (List ℕ)
  pub low : IsSession session
  pub is : AreNoValues fault name values
  pub spelled : words ≡ name ∷ decimal session ∷ values
