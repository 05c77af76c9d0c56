use Rattle.std.proofs.Common.{codes, rules, false}
use Rattle.clap.specs.Words.{new_app}
use Rattle.log_arguments.specs.Line.{HasLine, HasRule, file_line}
use Rattle.log_arguments.proofs.Lines.{HasLine-arg, HasLine-last}
use Rattle.log_arguments.proofs.line.check.Goals as goal

pub returns : goal.returns
returns c =
    let bare : HasLine (new_app (codes "check")) c.after_help.result = search rules in
    let file : HasRule (file_line false) c.help.result = search rules in
    let one = HasLine-arg _ _ _ _ _ bare c.quiet.ensures c.in_ok-arg.ensures in
    HasLine-last _ _ c.arg-2.result _ _ one file c.arg-2.ensures
