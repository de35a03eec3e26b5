-- The command that a parse of the command line names, and what is said of its arguments.
use Rattle.std.proofs.Common.{◌≡◌, ◌∙◌, ℕ, Bool, List, [], true, inl, inr, refl, sym, ap, ap₂, subst, option_map}
use Rattle.std.specs.Box.{box_value}
use Rattle.clap.specs.Words.{App, HasKind, HasMatchesOf, Kinds, Row, Text, fault_of, is_simple, is_simple_and_free, kind_of, one_text, rows_of, subcommand_name_of, subcommand_of, subcommand_rows, subcommand_rows_of}
use Rattle.clap.specs.declared.error.Error.{Error}
use Rattle.clap.specs.declared.error.kind.ErrorKind.TheVariants.{OutOfMemory}
use Rattle.clap.specs.declared.parser.matches.ArgMatches.{ArgMatches}
use Rattle.clap.specs.declared.parser.matches.ArgMatches.TheViews.{out-ArgMatches, out-SubCommand}
use Rattle.clap.specs.declared.parser.matches.Found.{Found}
use Rattle.clap.specs.declared.parser.matches.SubCommand.{SubCommand}
use Rattle.clap.proofs.OnLiterals.{clap_on_literals}
use Rattle.clap.proofs.WalkLemmas.{one_text-rows}
use Rattle.command_line.specs.CommandLine.{HasFlag, HasLimits, HasNumber, HasNumberIfSaid, HasRunSizes, HasSetting, HasSizes, said_in}
use Rattle.command_line.specs.declared.copying.CopySizes.{CopySizes}
use Rattle.command_line.proofs.Imports.{Option, Some, None, Box, none-some, same_Some, Limits, IsNoCommand, NamesNone, KeepsLine, named_by, program_line, Setting}

-- clap's clauses tell all of this command line
pub line_is_simple : is_simple program_line ≡ true
unfolding clap_on_literals
line_is_simple = refl

pub line_is_free : is_simple_and_free program_line ≡ true
unfolding clap_on_literals
line_is_free = refl

-- the name and what is found of the arguments together
pub named_rows : (m : ArgMatches) (said name : Text) (rows : List Row) → Some said ≡ subcommand_name_of m → said ≡ name
    → Some rows ≡ option_map (λ p. p.1) (subcommand_rows_of m) → subcommand_rows_of m ≡ Some (name, rows)
named_rows m said name rows is same have = go (out-ArgMatches m).subcommand (sym is ∙ ap Some same) (sym have)
  where
    go : {Z : Type 0} (o : Option (Box SubCommand Z)) → option_map (λ b. (out-SubCommand (box_value b)).name.now) o ≡ Some name
        → option_map (λ p. p.1) (subcommand_rows o) ≡ Some rows → subcommand_rows o ≡ Some (name, rows)
    go None is have = absurd (none-some name is)
    go (Some b) is have = ap₂ (λ (x : Text) (y : List Row). Some (x, y)) (same_Some _ name is) (same_Some _ rows have)

-- no command was named
pub none_named : (m : ArgMatches) (name : Text) → subcommand_name_of m ≡ Some name → IsNoCommand name → NamesNone (subcommand_rows_of m)
none_named m name is other = go (out-ArgMatches m).subcommand is
  where
    go : {Z : Type 0} (o : Option (Box SubCommand Z)) → option_map (λ b. (out-SubCommand (box_value b)).name.now) o ≡ Some name
        → NamesNone (subcommand_rows o)
    go None is = tt
    go (Some b) is = subst IsNoCommand (sym (same_Some _ name is)) other

pub nothing_named : (m : ArgMatches) → subcommand_name_of m ≡ None → NamesNone (subcommand_rows_of m)
nothing_named m is = go (out-ArgMatches m).subcommand is
  where
    go : {Z : Type 0} (o : Option (Box SubCommand Z)) → option_map (λ b. (out-SubCommand (box_value b)).name.now) o ≡ None
        → NamesNone (subcommand_rows o)
    go None is = tt
    go (Some b) is = absurd (none-some _ (sym is))

-- what a parse names is what the words name
pub named_is : (app : App) (words : List Text) (m : ArgMatches) → app ≡ program_line → HasMatchesOf app words m → subcommand_rows_of m ≡ named_by words
named_is app words m same has =
    (has (ap is_simple same ∙ line_is_simple)).1 ∙ ap (λ (a : App). subcommand_of a words) same

-- a parse that succeeds is of words that keep the command line
pub kept_line : (app : App) (words : List Text) → app ≡ program_line → (is_simple_and_free app ≡ true → fault_of app words ≡ []) → KeepsLine words
kept_line app words same none =
    subst (λ (a : App). fault_of a words ≡ []) same (none (ap is_simple_and_free same ∙ line_is_free))

-- a parse of such words fails only for memory
pub only_memory : (app : App) (words : List Text) (error : Error) → app ≡ program_line → (is_simple_and_free app ≡ true → HasKind (fault_of app words) error)
    → KeepsLine words → kind_of error ≡ OutOfMemory
only_memory app words error same kinds keeps =
    let none : fault_of app words ≡ [] = ap (λ (a : App). fault_of a words) same ∙ keeps in
    let kind : HasKind [] error = subst (λ (ks : Kinds). HasKind ks error) none (kinds (ap is_simple_and_free same ∙ line_is_free)) in
    elim kind [ inl memory ↦ memory | inr other ↦ absurd other ]

-- what the texts of the arguments say, they say by what is found of them
module _ (f : Found) where
  number_said : (name : List ℕ) (n : ℕ) → HasNumber (one_text f name) n → HasNumber (said_in (rows_of f) name) n
  number_said name n said = subst (λ (t : Option (List ℕ)). HasNumber t n) (one_text-rows f name) said

  pub flag_said : (name : List ℕ) (on : Bool) → HasFlag (one_text f name) on → HasFlag (said_in (rows_of f) name) on
  flag_said name on said = subst (λ (t : Option (List ℕ)). HasFlag t on) (one_text-rows f name) said

  pub limits_said : (l : Limits) → HasLimits (one_text f) l → HasLimits (said_in (rows_of f)) l
  limits_said l said = record { items = number_said _ _ said.items; pages = number_said _ _ said.pages; log = number_said _ _ said.log; unique = flag_said _ _ said.unique }

  size_said : (name : List ℕ) (n : Option ℕ) → HasNumberIfSaid (one_text f name) n → HasNumberIfSaid (said_in (rows_of f) name) n
  size_said name n said = subst (λ (t : Option (List ℕ)). HasNumberIfSaid t n) (one_text-rows f name) said

  pub sizes_said : (s : CopySizes) → HasSizes (one_text f) s → HasSizes (said_in (rows_of f)) s
  sizes_said s said = record { items = size_said _ _ said.items; pages = size_said _ _ said.pages; log = size_said _ _ said.log; unique = flag_said _ _ said.unique }

  pub setting_said : (s : Setting) → HasSetting (one_text f) s → HasSetting (said_in (rows_of f)) s
  setting_said s said = record {
    limits = limits_said _ said.limits;
    frames = number_said _ _ said.frames;
    sessions = number_said _ _ said.sessions;
  }

  pub run_said : (workers frames : ℕ) → HasRunSizes (one_text f) workers frames → HasRunSizes (said_in (rows_of f)) workers frames
  run_said workers frames said = record { workers_are = number_said _ _ said.workers_are; frames_are = number_said _ _ said.frames_are }
