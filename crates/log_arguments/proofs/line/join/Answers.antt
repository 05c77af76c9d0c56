use Rattle.std.proofs.Common.{codes, rules}
use Rattle.clap.specs.Words.{new_app}
use Rattle.log_arguments.specs.Line.{HasLine, HasRule, flag_line, option_line}
use Rattle.log_arguments.proofs.Lines.{HasLine-arg, HasLine-last}
use Rattle.log_arguments.proofs.line.join.Goals as goal

pub returns : goal.returns
returns c =
    let bare : HasLine (new_app (codes "join")) c.after_help.result = search rules in
    let workers : HasRule (option_line (codes "workers")) c.help-workers.result = search rules in
    let asked : HasRule (flag_line (codes "rules")) c.help-rules.result = search rules in
    let one = HasLine-arg _ _ _ _ _ bare c.listen.ensures c.in_ok-arg.ensures in
    let two = HasLine-arg _ _ _ _ _ one c.nodes.ensures c.in_ok-arg-2.ensures in
    let three = HasLine-arg _ _ _ _ _ two workers c.in_ok-arg-3.ensures in
    let four = HasLine-arg _ _ _ _ _ three c.metrics.ensures c.in_ok-arg-4.ensures in
    let five = HasLine-arg _ _ _ _ _ four c.check_every.ensures c.in_ok-arg-5.ensures in
    HasLine-last _ _ c.arg-6.result _ _ five asked c.arg-6.ensures
