-- How a parser reads a command to which an argument or a subcommand is added.
use Rattle.std.proofs.Common.{◌∙◌, ◌||◌, ap₂, IfOk, Result}
use Rattle.std.proofs.lemmas.Result.{IfOk-weaker}
use Rattle.clap.specs.Words.{AddsArg, AddsSubcommand, App, Rule, with_rule}
use Rattle.clap.specs.declared.builder.arg.Arg.{Arg}
use Rattle.clap.specs.declared.builder.command.Command.{Command}
use Rattle.log_arguments.specs.Line.{HasLine, HasRule, with_command}

pub HasLine-arg : (old : Command) (argument : Arg) (new : Command) (line : App) (rule : Rule) → HasLine line old → HasRule rule argument
    → AddsArg old argument new → HasLine (with_rule line rule) new
HasLine-arg old argument new line rule has reads adds =
    (adds.shape reads.1 ∙ ap₂ with_rule has.0 reads.0, adds.globals ∙ ap₂ (λ a b. a || b) has.1 reads.1)

pub HasLine-last : {E : Type 0} (old : Command) (argument : Arg) (r : Result Command E) (line : App) (rule : Rule) → HasLine line old
    → HasRule rule argument → IfOk r (AddsArg old argument) → IfOk r (HasLine (with_rule line rule))
HasLine-last old argument r line rule has reads = IfOk-weaker r _ _ (λ new adds. HasLine-arg old argument new line rule has reads adds)

pub HasLine-command : (old below new : Command) (line command : App) → HasLine line old → HasLine command below
    → AddsSubcommand old below new → HasLine (with_command line command) new
HasLine-command old below new line command has reads adds =
    (adds.shape reads.1 ∙ ap₂ with_command has.0 reads.0, adds.globals ∙ ap₂ (λ a b. a || b) has.1 reads.1)

pub HasLine-last_command : {E : Type 0} (old below : Command) (r : Result Command E) (line command : App) → HasLine line old
    → HasLine command below → IfOk r (AddsSubcommand old below) → IfOk r (HasLine (with_command line command))
HasLine-last_command old below r line command has reads =
    IfOk-weaker r _ _ (λ new adds. HasLine-command old below new line command has reads adds)
