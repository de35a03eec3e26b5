-- Words that keep the command line name a command.
use Rattle.std.proofs.Common.{◌≡◌, Bool, List, [], ◌∷◌, true, false, cond, not, ◌&&◌, refl, true≢false, sym}
use Rattle.std.specs.Prelude.{Option, Some, None, IfSome, is_some, find, option_map, ⊤}
use Rattle.clap.specs.Facts.{explicit_source}
use Rattle.clap.specs.Faults.{check_fault, defaults_fault, entered_fault, level_fault, settle_fault, walk_fault}
use Rattle.clap.specs.Kinds.{Kinds, check_kinds, or_else}
use Rattle.clap.specs.Simple.{App, Shape, argument_words, built, entered, label_of, names_of, rows_at}
use Rattle.clap.specs.Takes.{is_given}
use Rattle.clap.specs.Walk.{Held, Names, Row, Text, answers_to, finished, nothing_held, settled, stop_after, walk, walk_from}
use Rattle.command_line.proofs.Imports.{list_any, IsNoCommand, NamesNone, KeepsLine, named_by, program_line}

-- if there is no kind, there is none after the first list
no_second : (xs ys : Kinds) → or_else xs ys ≡ [] → ys ≡ []
no_second [] ys none = none
no_second (x ∷ xs) ys none = cc

is_needed : (help needed argument : Bool) → needed ≡ true → check_kinds help needed argument ≡ [] → false ≡ true
is_needed true needed argument is none = cc
is_needed false true argument is none = cc
is_needed false false argument is none = is

-- a command that is needed is there
is_there : (s : Shape) (rows : List Row) (there : Bool) → s.subcommand_required ≡ true → check_fault s rows there ≡ [] → there ≡ true
is_there s rows true needed none = refl
is_there s rows false needed none =
    is_needed (s.arg_required_else_help && not (list_any (λ r. explicit_source r.source) rows)) s.subcommand_required
    (not (s.subcommand_negates_reqs && false) && list_any (λ a. a.required && not (is_given a.id rows)) s.rules) needed none

level_there : (s : Shape) (names : Names) (h : Held) (words : List Text) (there : Bool) (below : Kinds) → s.subcommand_required ≡ true
    → level_fault s names h words there below ≡ [] → there ≡ true
level_there s names h words there below needed none =
    let end = (walk s.rules names h words).held in
    let check = check_fault s (finished s.rules end) there in
    let defaults = defaults_fault (settled s.rules end).rows s.rules in
    let settle = settle_fault s.rules s.args_override_self end in
    is_there s (finished s.rules end) there needed
    (no_second defaults check (no_second settle (or_else defaults check)
    (no_second below (or_else settle (or_else defaults check))
    (no_second (walk_fault s names (walk_from h) words) (or_else below (or_else settle (or_else defaults check))) none))))

abbrev IsCommand : Shape → Type 0
IsCommand shape = IsNoCommand shape.name → ⊥

abbrev AreCommands : List Shape → Type 0
AreCommands [] = ⊤
AreCommands (shape ∷ shapes) = IsCommand shape × AreCommands shapes

found_here : (passes : Bool) (shape : Shape) (rest : Option Shape) → IsCommand shape → IfSome rest IsCommand → IfSome (cond passes (Some shape) rest) IsCommand
found_here true shape rest here later = here
found_here false shape rest here later = later

find_in : (test : Shape → Bool) (shapes : List Shape) → AreCommands shapes → IfSome (find test shapes) IsCommand
find_in test [] all = tt
find_in test (shape ∷ shapes) all = found_here (test shape) shape (find test shapes) all.0 (find_in test shapes all.1)

entered_is : (app : App) (stop : Option (Text × List Text)) → AreCommands app.subs → is_some (entered app stop) ≡ true → NamesNone (entered app stop) → ⊥
entered_is app None all there none = true≢false (sym there)
entered_is app (Some at) all there none = go (find (λ s. answers_to at.0 (label_of s)) app.subs) (find_in _ app.subs all) there none
  where
    go : (o : Option Shape) → IfSome o IsCommand → is_some (option_map (λ s. rows_at s at.1) o) ≡ true → NamesNone (option_map (λ s. rows_at s at.1) o) → ⊥
    go None is there none = true≢false (sym there)
    go (Some s) is there none = is none

all_commands : AreCommands (built program_line).subs
all_commands = (λ h. h.play refl, (λ h. h.run refl, (λ h. h.create refl, (λ h. h.copy refl, (λ h. h.check refl, (λ h. h.dump refl, tt))))))

-- a command is needed, so words that keep the command line name one
pub some_named : (words : List Text) → KeepsLine words → NamesNone (named_by words) → ⊥
some_named words keeps =
    let whole = built program_line in
    let said = argument_words program_line words in
    let stop = stop_after whole.top.rules (names_of whole) said in
    entered_is whole stop all_commands (level_there whole.top (names_of whole) nothing_held said (is_some (entered whole stop)) (entered_fault whole stop) refl keeps)
