use Rattle.std.proofs.Common.{codes, rules, false}
use Rattle.clap.specs.Words.{new_app}
use Rattle.log_arguments.specs.Line.{HasLine, HasRule, file_line, option_line}
use Rattle.log_arguments.proofs.Lines.{HasLine-arg, HasLine-last}
use Rattle.log_arguments.proofs.line.compact.Goals as goal

pub returns : goal.returns
returns c =
    let bare : HasLine (new_app (codes "compact")) c.after_help.result = search rules in
    let floor : HasRule (option_line (codes "to")) c.help-floor.result = search rules in
    let output : HasRule (option_line (codes "output")) c.help-output.result = search rules in
    let file : HasRule (file_line false) c.help.result = search rules in
    let one = HasLine-arg _ _ _ _ _ bare floor c.in_ok-arg.ensures in
    let two = HasLine-arg _ _ _ _ _ one output c.in_ok-arg-2.ensures in
    let three = HasLine-arg _ _ _ _ _ two c.whole.ensures c.in_ok-arg-3.ensures in
    let four = HasLine-arg _ _ _ _ _ three c.quiet.ensures c.in_ok-arg-4.ensures in
    HasLine-last _ _ c.arg-5.result _ _ four file c.arg-5.ensures
