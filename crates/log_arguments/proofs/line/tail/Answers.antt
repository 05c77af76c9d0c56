use Rattle.std.proofs.Common.{codes, rules, true}
use Rattle.clap.specs.Words.{new_app}
use Rattle.log_arguments.specs.Line.{HasLine, HasRule, file_line, option_line}
use Rattle.log_arguments.proofs.Lines.{HasLine-arg, HasLine-last}
use Rattle.log_arguments.proofs.line.tail.Goals as goal

pub returns : goal.returns
returns c =
    let bare : HasLine (new_app (codes "tail")) c.after_help.result = search rules in
    let from : HasRule (option_line (codes "from")) c.help-from.result = search rules in
    let file : HasRule (file_line true) c.help-file.result = search rules in
    let one = HasLine-arg _ _ _ _ _ bare from c.in_ok-arg.ensures in
    HasLine-last _ _ c.arg-2.result _ _ one file c.arg-2.ensures
