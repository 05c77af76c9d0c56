use Rattle.std.proofs.Common.{codes, rules, false}
use Rattle.clap.specs.Words.{new_app}
use Rattle.log_arguments.specs.Line.{HasLine, HasRule, below_line, file_line}
use Rattle.log_arguments.proofs.Lines.{HasLine-arg, HasLine-last}
use Rattle.log_arguments.proofs.line.base.Goals as goal

pub returns : goal.returns
returns c =
    let bare : HasLine (new_app (codes "base")) c.after_help.result = search rules in
    let below : HasRule below_line c.help-below.result = search rules in
    let file : HasRule (file_line false) c.help.result = search rules in
    let one = HasLine-arg _ _ _ _ _ bare below c.in_ok-arg.ensures in
    let two = HasLine-arg _ _ _ _ _ one c.whole.ensures c.in_ok-arg-2.ensures in
    let three = HasLine-arg _ _ _ _ _ two c.quiet.ensures c.in_ok-arg-3.ensures in
    HasLine-last _ _ c.arg-4.result _ _ three file c.arg-4.ensures
