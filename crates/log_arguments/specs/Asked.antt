-- What the words of a command line ask for.
use Rattle.std.specs.Prelude.{◌≡◌, ◌≤◌, ◌⊎◌, ⊤, List, [], Option, Some, codes, option_map, IfSome, IsSomeAnd, false, true}
use Rattle.clap.specs.Words.{HasKind, Row, Text, fault_of, first_of, kind_of, subcommand_of}
use Rattle.clap.specs.declared.error.Error.{Error}
use Rattle.clap.specs.declared.error.kind.ErrorKind.TheVariants.{OutOfMemory, ValueValidation}
use Rattle.log_arguments.specs.Line.{program_line}
use Rattle.log_arguments.specs.Values.{IsAddressOf, IsFlagOr, IsNumberOr, IsOffsetOf, IsPlaceIn, has_flag, path_in, value_of}
use Rattle.log_arguments.specs.declared.command.LogCommand.{LogCommand}
use Rattle.log_arguments.specs.declared.settings.Settings.{Settings}
use Rattle.log_arguments.specs.declared.command.LogCommand.TheVariants.{Base, Check, Compact, Follow, Join, Keep, Rules, Tail}

-- what a command asks for by its name and its matches, and by what is set for options that aren't given
abbrev pub IsAskedBy : Settings → Text × List Row → LogCommand → Type 0
IsAskedBy set found (Keep file listen nodes workers metrics quiet is_new) = (found.0 ≡ codes "keep") × (first_of (codes "file") found.1 ≡ Some file.now)
    × IsPlaceIn 1 found.1 set listen nodes workers × IsAddressOf (value_of (codes "metrics") found.1 set.metrics) metrics
    × IsFlagOr (has_flag (codes "quiet") found.1) set.quiet quiet × IsFlagOr (has_flag (codes "new") found.1) set.new is_new
IsAskedBy set found (Follow listen nodes workers metrics) = (found.0 ≡ codes "follow") × IsPlaceIn 1 found.1 set listen nodes workers
    × IsAddressOf (value_of (codes "metrics") found.1 set.metrics) metrics
IsAskedBy set found (Join listen nodes workers metrics check_every) = (found.0 ≡ codes "join") × (has_flag (codes "rules") found.1 ≡ false)
    × IsPlaceIn 2 found.1 set listen nodes workers × IsAddressOf (value_of (codes "metrics") found.1 set.metrics) metrics
    × IsNumberOr 5 0 3600 (value_of (codes "check-every") found.1 set.check_every) check_every
IsAskedBy set found Rules = (found.0 ≡ codes "join") × (has_flag (codes "rules") found.1 ≡ true)
IsAskedBy set found (Tail file from) = (found.0 ≡ codes "tail") × (first_of (codes "file") found.1 ≡ Some file.now)
    × IsOffsetOf (first_of (codes "from") found.1) from
IsAskedBy set found (Check file quiet) = (found.0 ≡ codes "check") × (option_map (λ path. path.now) file ≡ path_in (codes "file") found.1)
    × (quiet ≡ has_flag (codes "quiet") found.1)
IsAskedBy set found (Compact file to output quiet whole) = (found.0 ≡ codes "compact")
    × (option_map (λ path. path.now) file ≡ path_in (codes "file") found.1) × IsOffsetOf (first_of (codes "to") found.1) to
    × (option_map (λ path. path.now) output ≡ path_in (codes "output") found.1) × (quiet ≡ has_flag (codes "quiet") found.1)
    × (whole ≡ has_flag (codes "whole") found.1)
IsAskedBy set found (Base file below quiet whole) = (found.0 ≡ codes "base")
    × (option_map (λ path. path.now) file ≡ path_in (codes "file") found.1) × IsOffsetOf (first_of (codes "below") found.1) (Some below)
    × (quiet ≡ has_flag (codes "quiet") found.1) × (whole ≡ has_flag (codes "whole") found.1)

-- there is a command, and it asks for this
abbrev pub Asks : Settings → Option (Text × List Row) → LogCommand → Type 0
Asks set found command = IsSomeAnd found (λ named. IsAskedBy set named command)

-- what the words of the program's command line ask for, with these settings
abbrev pub AskFor : Settings → List Text → LogCommand → Type 0
AskFor set words command = Asks set (subcommand_of program_line words) command

-- an offset or a floor that is asked for is one that a line may have
abbrev pub HasOffsetInLimits : LogCommand → Type 0
HasOffsetInLimits (Keep file listen nodes workers metrics quiet is_new) = ⊤
HasOffsetInLimits (Follow listen nodes workers metrics) = ⊤
HasOffsetInLimits (Join listen nodes workers metrics check_every) = ⊤
HasOffsetInLimits Rules = ⊤
HasOffsetInLimits (Tail file from) = IfSome from (λ offset. offset ≤ 9223372036854775807)
HasOffsetInLimits (Check file quiet) = ⊤
HasOffsetInLimits (Compact file to output quiet whole) = IfSome to (λ floor. floor ≤ 9223372036854775807)
HasOffsetInLimits (Base file below quiet whole) = below ≤ 9223372036854775807

-- memory was refused, or nothing is asked for, since a value is out of its range
abbrev pub IsMisuse : Settings → Option (Text × List Row) → Error → Type 0
IsMisuse set found error = (kind_of error ≡ OutOfMemory)
    ⊎ ((kind_of error ≡ ValueValidation) × ((command : LogCommand) → ¬ Asks set found command))

-- The error is one of those that `clap` has at the words, or `clap` takes the words and a value is out of its range.
abbrev pub IsRefusalOf : Settings → List Text → Error → Type 0
IsRefusalOf set words error = HasKind (fault_of program_line words) error
    ⊎ ((fault_of program_line words ≡ []) × (kind_of error ≡ ValueValidation) × ((command : LogCommand) → ¬ AskFor set words command))
