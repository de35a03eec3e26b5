-- The command line of the program, as clap reads it: the commands, and the arguments of each.
use Rattle.std.specs.Prelude.{◌≡◌, Option, Some, Result, List, [], ◌∷◌, true, false, IfOk, pos, codes}
use Rattle.std.specs.declared.alloc.AllocError.{AllocError}
use Rattle.clap.specs.Words.{App, Row, Rule, Text, app_of, fault_of, new_app, new_rule, subcommand_of, with_rule, with_subcommand}
use Rattle.clap.specs.declared.builder.action.ArgAction.TheVariants.{SetTrue}
use Rattle.clap.specs.declared.builder.command.Command.{Command}
use Rattle.clap.specs.declared.builder.command.Command.TheViews.{out-Command}
use Rattle.clap.specs.declared.builder.value_parser.ValueParser.{ValueParser}
use Rattle.clap.specs.declared.builder.value_parser.ValueParser.TheVariants.{Signed}

-- the numbers that a `u32` has
abbrev pub number_parser : ValueParser
number_parser = Signed (pos 0) (pos 4294967295)

-- a word that is needed
abbrev pub word_rule : Text → Rule
word_rule name = record (new_rule name) { value_names = 1; required = true }

-- `--NAME`
abbrev pub flag_rule : Text → Rule
flag_rule name = record (new_rule name) { long = Some name; action = Some SetTrue }

-- `--NAME N`
abbrev pub number_rule : Text → Rule
number_rule name = record (new_rule name) { long = Some name; value_names = 1; parser = Some number_parser }

-- ... which is needed
abbrev pub needed_rule : Text → Rule
needed_rule name = record (number_rule name) { required = true }

-- ... which is this if none is given
abbrev pub size_rule : Text → Text → Rule
size_rule name value = record (number_rule name) { defaults = value ∷ [] }

abbrev pub with_size : Text → Text → App → App
with_size name value app = with_rule app (size_rule name value)

abbrev pub with_flag : Text → App → App
with_flag name app = with_rule app (flag_rule name)

-- the sizes of an index, and whether it is unique
abbrev pub with_index_sizes : App → App
with_index_sizes app = with_flag (codes "unique") (with_size (codes "log") (codes "1048576") (with_size (codes "pages") (codes "64") (with_size (codes "items") (codes "4") app)))

abbrev pub play_app : App
play_app = with_size (codes "sessions") (codes "8") (with_size (codes "frames") (codes "16") (with_index_sizes (new_app (codes "play"))))

-- a command over the index in a file
abbrev pub file_app : Text → App
file_app name = with_rule (new_app name) (word_rule (codes "path"))

-- the sizes of a run
abbrev pub with_run_sizes : App → App
with_run_sizes app = with_size (codes "frames") (codes "64") (with_size (codes "workers") (codes "1") app)

abbrev pub run_app : App
run_app = with_run_sizes (with_flag (codes "progress") (with_rule (file_app (codes "run")) (word_rule (codes "jobs"))))

-- the sizes of a new index, which are needed, and whether it is unique
abbrev pub with_needed_sizes : App → App
with_needed_sizes app = with_flag (codes "unique") (with_rule (with_rule (with_rule app (needed_rule (codes "items"))) (needed_rule (codes "pages"))) (needed_rule (codes "log")))

abbrev pub create_app : App
create_app = with_needed_sizes (with_flag (codes "progress") (file_app (codes "create")))

-- the sizes of a copy, which may be left out
abbrev pub with_copy_sizes : App → App
with_copy_sizes app = with_flag (codes "unique") (with_rule (with_rule (with_rule app (number_rule (codes "items"))) (number_rule (codes "pages"))) (number_rule (codes "log")))

abbrev pub copy_app : App
copy_app = with_copy_sizes (with_flag (codes "progress") (with_rule (file_app (codes "copy")) (word_rule (codes "new"))))

abbrev pub check_app : App
check_app = with_flag (codes "progress") (with_flag (codes "one-thread") (with_flag (codes "parents") (file_app (codes "check"))))

abbrev pub dump_app : App
dump_app = file_app (codes "dump")

-- the program, of which a command is needed
abbrev pub start_app : App
start_app = let app = new_app (codes "btidx") in
    record app { top = record app.top { subcommand_required = true; arg_required_else_help = true; disable_help_subcommand = true; has_version = true } }

-- ... with the commands over an index in a file
abbrev pub with_file_apps : App → App
with_file_apps app = with_subcommand (with_subcommand (with_subcommand (with_subcommand app create_app.top) copy_app.top) check_app.top) dump_app.top

-- the whole command line
abbrev pub program_line : App
program_line = with_file_apps (with_subcommand (with_subcommand start_app play_app.top) run_app.top)

-- the command has this shape, and all its arguments are its own
pub record IsApp (command : Command) (app : App) : Type 0 where
  pub shape : app_of command ≡ app
  pub local : (out-Command command).has_globals ≡ false

-- the command that was made, if one was, has this shape
abbrev pub MakesApp : Result Command AllocError → App → Type 0
MakesApp made app = IfOk made (λ command. IsApp command app)

-- the words keep the command line: the kinds of error that clap has for them are none
abbrev pub KeepsLine : List Text → Type 0
KeepsLine words = fault_of program_line words ≡ []

-- the command that the words name, with what is found of its arguments
abbrev pub named_by : List Text → Option (Text × List Row)
named_by words = subcommand_of program_line words
