-- The command line: which commands there are, and which arguments each has. What a parser makes of a command line and of words is
-- defined in the crate `clap`.
use Rattle.std.specs.Prelude.{◌≡◌, List, [], ◌∷◌, Some, codes, true, false, Bool}
use Rattle.std.specs.List.{fold}
use Rattle.clap.specs.Words.{App, Rule, Text, app_of, new_app, new_rule, rule_of, with_rule, with_subcommand}
use Rattle.clap.specs.declared.builder.arg.Arg.{Arg}
use Rattle.clap.specs.declared.builder.command.Command.{Command}
use Rattle.clap.specs.declared.builder.command.Command.TheViews.{out-Command}
use Rattle.clap.specs.declared.builder.action.ArgAction.TheVariants.{SetTrue}

-- `--NAME VALUE`
abbrev pub option_line : Text → Rule
option_line name = record (new_rule name) { long = Some name; value_names = 1 }

-- `--NAME`
abbrev pub flag_line : Text → Rule
flag_line name = record (new_rule name) { long = Some name; action = Some SetTrue }

-- `FILE`, or `[FILE]` where it isn't required
abbrev pub file_line : Bool → Rule
file_line required = record (new_rule (codes "file")) { value_names = 1; required = required }

-- the command of that name with these arguments
abbrev pub command_line : Text → List Rule → App
command_line name rules = fold with_rule (new_app name) rules

-- what says that a log is made, where nodes listen, how many there are, and where metrics are shown
abbrev pub keep_line : App
keep_line = command_line (codes "keep")
    (flag_line (codes "new") ∷ option_line (codes "listen") ∷ option_line (codes "nodes") ∷ option_line (codes "workers")
    ∷ option_line (codes "metrics") ∷ flag_line (codes "quiet") ∷ file_line true ∷ [])

abbrev pub follow_line : App
follow_line = command_line (codes "follow")
    (option_line (codes "listen") ∷ option_line (codes "nodes") ∷ option_line (codes "workers") ∷ option_line (codes "metrics") ∷ [])

abbrev pub join_line : App
join_line = command_line (codes "join")
    (option_line (codes "listen") ∷ option_line (codes "nodes") ∷ option_line (codes "workers") ∷ option_line (codes "metrics")
    ∷ option_line (codes "check-every") ∷ flag_line (codes "rules") ∷ [])

abbrev pub tail_line : App
tail_line = command_line (codes "tail") (option_line (codes "from") ∷ file_line true ∷ [])

abbrev pub check_line : App
check_line = command_line (codes "check") (flag_line (codes "quiet") ∷ file_line false ∷ [])

abbrev pub compact_line : App
compact_line = command_line (codes "compact")
    (option_line (codes "to") ∷ option_line (codes "output") ∷ flag_line (codes "whole") ∷ flag_line (codes "quiet") ∷ file_line false ∷ [])

-- `--below OFFSET`, which is wanted
abbrev pub below_line : Rule
below_line = record (option_line (codes "below")) { required = true }

abbrev pub base_line : App
base_line = command_line (codes "base") (below_line ∷ flag_line (codes "whole") ∷ flag_line (codes "quiet") ∷ file_line false ∷ [])

-- the program alone: it has a version, wants a command, and answers to no words at all with its help
abbrev pub bare_program : App
bare_program = record (new_app (codes "registrylog")) {
  top = record (new_app (codes "registrylog")).top { has_version = true; subcommand_required = true; arg_required_else_help = true };
}

abbrev pub with_command : App → App → App
with_command program command = with_subcommand program command.top

-- the program with its commands
abbrev pub program_line : App
program_line = fold with_command bare_program (keep_line ∷ follow_line ∷ join_line ∷ tail_line ∷ check_line ∷ compact_line ∷ base_line ∷ [])

-- a parser reads the argument by that rule, and no other command has it
abbrev pub HasRule : Rule → Arg → Type 0
HasRule rule argument = (rule_of argument ≡ rule) × (argument.global ≡ false)

-- a parser reads the command so, and no argument of it is another command's too
abbrev pub HasLine : App → Command → Type 0
HasLine line command = (app_of command ≡ line) × ((out-Command command).has_globals ≡ false)
