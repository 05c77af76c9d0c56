-- What is asked for under one name, and when nothing is.
use Rattle.std.proofs.Common.{◌≡◌, ◌∙◌, ◌≤◌, ℕ, Bool, List, [], Option, Some, None, IfSome, inl, inr, sym, ap, subst, codes, true, false, true≢false, refl}
use Rattle.std.specs.Prelude.{bytes_eq}
use Rattle.std.specs.Borrow.{Bor}
use Rattle.std.specs.declared.net.socket_addr.SocketAddr.{SocketAddr}
use Rattle.std.proofs.lemmas.Slice.Eq.{bytes_eq-Decides}
use Rattle.clap.specs.Words.{HasKind, HasMatchesOf, Row, Text, app_of, fault_of, first_of, is_simple, is_simple_and_free, subcommand_of, subcommand_rows_of}
use Rattle.clap.specs.declared.builder.command.Command.{Command}
use Rattle.clap.specs.declared.error.Error.{Error}
use Rattle.clap.specs.declared.parser.matches.ArgMatches.{ArgMatches}
use Rattle.log_arguments.specs.Line.{HasLine, program_line}
use Rattle.log_arguments.specs.Values.{IsAddressOf, IsFlagOr, IsNumberOr, IsOffsetOf, IsPlaceIn, has_flag, value_of}
use Rattle.log_arguments.specs.Asked.{AskFor, Asks, HasOffsetInLimits, IsAskedBy, IsMisuse, IsRefusalOf}
use Rattle.log_arguments.specs.declared.command.LogCommand.{LogCommand}
use Rattle.log_arguments.specs.declared.settings.Settings.{Settings}
use Rattle.log_arguments.specs.declared.command.LogCommand.TheVariants.{Base, Check, Compact, Follow, Join, Keep, Rules, Tail}

differ : (a b : Text) → bytes_eq a b ≡ false → ¬ (a ≡ b)
differ a b apart same = true≢false (sym ((bytes_eq-Decides a b).1 same) ∙ apart)

pub keep_alone : (set : Settings) (rows : List Row)
    → ((file : Bor (List ℕ)) (listen : SocketAddr) (nodes workers : ℕ) (metrics : Option SocketAddr) (quiet is_new : Bool) → ¬ IsAskedBy set (codes "keep", rows) (Keep file listen nodes workers metrics quiet is_new))
    → (command : LogCommand) → ¬ IsAskedBy set (codes "keep", rows) command
keep_alone set rows none (Keep file listen nodes workers metrics quiet is_new) asked = none file listen nodes workers metrics quiet is_new asked
keep_alone set rows none (Follow listen nodes workers metrics) asked = differ _ _ refl asked.0
keep_alone set rows none (Join listen nodes workers metrics check_every) asked = differ _ _ refl asked.0
keep_alone set rows none Rules asked = differ _ _ refl asked.0
keep_alone set rows none (Tail file from) asked = differ _ _ refl asked.0
keep_alone set rows none (Check file quiet) asked = differ _ _ refl asked.0
keep_alone set rows none (Compact file to output quiet whole) asked = differ _ _ refl asked.0
keep_alone set rows none (Base file below quiet whole) asked = differ _ _ refl asked.0

pub follow_alone : (set : Settings) (rows : List Row)
    → ((listen : SocketAddr) (nodes workers : ℕ) (metrics : Option SocketAddr) → IsPlaceIn 1 rows set listen nodes workers
    → ¬ IsAddressOf (value_of (codes "metrics") rows set.metrics) metrics)
    → (command : LogCommand) → ¬ IsAskedBy set (codes "follow", rows) command
follow_alone set rows none (Keep file listen nodes workers metrics quiet is_new) asked = differ _ _ refl asked.0
follow_alone set rows none (Follow listen nodes workers metrics) asked = none listen nodes workers metrics asked.1 asked.2
follow_alone set rows none (Join listen nodes workers metrics check_every) asked = differ _ _ refl asked.0
follow_alone set rows none Rules asked = differ _ _ refl asked.0
follow_alone set rows none (Tail file from) asked = differ _ _ refl asked.0
follow_alone set rows none (Check file quiet) asked = differ _ _ refl asked.0
follow_alone set rows none (Compact file to output quiet whole) asked = differ _ _ refl asked.0
follow_alone set rows none (Base file below quiet whole) asked = differ _ _ refl asked.0

pub join_alone : (set : Settings) (rows : List Row) → has_flag (codes "rules") rows ≡ false
    → ((listen : SocketAddr) (nodes workers check_every : ℕ) (metrics : Option SocketAddr) → IsPlaceIn 2 rows set listen nodes workers
    → IsAddressOf (value_of (codes "metrics") rows set.metrics) metrics
    → ¬ IsNumberOr 5 0 3600 (value_of (codes "check-every") rows set.check_every) check_every)
    → (command : LogCommand) → ¬ IsAskedBy set (codes "join", rows) command
join_alone set rows serves none (Keep file listen nodes workers metrics quiet is_new) asked = differ _ _ refl asked.0
join_alone set rows serves none (Follow listen nodes workers metrics) asked = differ _ _ refl asked.0
join_alone set rows serves none (Join listen nodes workers metrics check_every) asked = none listen nodes workers check_every metrics asked.2 asked.3 asked.4
join_alone set rows serves none Rules asked = true≢false (sym asked.1 ∙ serves)
join_alone set rows serves none (Tail file from) asked = differ _ _ refl asked.0
join_alone set rows serves none (Check file quiet) asked = differ _ _ refl asked.0
join_alone set rows serves none (Compact file to output quiet whole) asked = differ _ _ refl asked.0
join_alone set rows serves none (Base file below quiet whole) asked = differ _ _ refl asked.0

-- a parse of the program's command line finds what its definition says
pub rows_are : (line : Command) (words : List Text) (m : ArgMatches) → HasLine program_line line → HasMatchesOf (app_of line) words m
    → subcommand_rows_of m ≡ subcommand_of program_line words
rows_are line words m has matches = (matches (ap is_simple has.0)).1 ∙ ap (λ a. subcommand_of a words) has.0

pub taken_by : (line : Command) (words : List Text) → HasLine program_line line
    → (is_simple_and_free (app_of line) ≡ true → fault_of (app_of line) words ≡ []) → fault_of program_line words ≡ []
taken_by line words has none = subst (λ a. fault_of a words ≡ []) has.0 (none (ap is_simple_and_free has.0))

pub refused_by : (set : Settings) (line : Command) (words : List Text) (error : Error) → HasLine program_line line
    → (is_simple_and_free (app_of line) ≡ true → HasKind (fault_of (app_of line) words) error) → IsRefusalOf set words error
refused_by set line words error has kinds =
    inl (subst (λ a. HasKind (fault_of a words) error) has.0 (kinds (ap is_simple_and_free has.0)))

pub asked_by : (set : Settings) (o : Option (Text × List Row)) (words : List Text) (command : LogCommand) → o ≡ subcommand_of program_line words
    → Asks set o command → AskFor set words command
asked_by set o words command same asks = subst (λ found. Asks set found command) same asks

pub misused_by : (set : Settings) (o : Option (Text × List Row)) (words : List Text) (error : Error) → o ≡ subcommand_of program_line words
    → fault_of program_line words ≡ [] → IsMisuse set o error → IsRefusalOf set words error
misused_by set o words error same took (inl memory) = inl (inl memory)
misused_by set o words error same took (inr misuse) =
    inr (took, misuse.0, λ command asks. misuse.1 command (subst (λ found. Asks set found command) (sym same) asks))

offset_within : (given : Option Text) (offset : Option ℕ) → IsOffsetOf given offset → IfSome offset (λ n. n ≤ 9223372036854775807)
offset_within None None is = tt
offset_within None (Some n) is = absurd is
offset_within (Some text) None is = tt
offset_within (Some text) (Some n) is = is.3

pub within_limits : (set : Settings) (o : Option (Text × List Row)) (command : LogCommand) → Asks set o command → HasOffsetInLimits command
within_limits set None command asks = absurd asks
within_limits set (Some found) (Keep file listen nodes workers metrics quiet is_new) asks = tt
within_limits set (Some found) (Follow listen nodes workers metrics) asks = tt
within_limits set (Some found) (Join listen nodes workers metrics check_every) asks = tt
within_limits set (Some found) Rules asks = tt
within_limits set (Some found) (Tail file from) asks = offset_within _ from asks.2
within_limits set (Some found) (Check file quiet) asks = tt
within_limits set (Some found) (Compact file to output quiet whole) asks = offset_within _ to asks.2
within_limits set (Some found) (Base file below quiet whole) asks = offset_within _ (Some below) asks.2
