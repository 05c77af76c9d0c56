use Rattle.std.proofs.Common.{codes, rules, true}
use Rattle.clap.specs.Words.{new_app}
use Rattle.log_arguments.specs.Line.{HasLine, HasRule, file_line}
use Rattle.log_arguments.proofs.Lines.{HasLine-arg, HasLine-last}
use Rattle.log_arguments.proofs.line.keep.Goals as goal

pub returns : goal.returns
returns c =
    let bare : HasLine (new_app (codes "keep")) c.after_help.result = search rules in
    let file : HasRule (file_line true) c.help-file.result = search rules in
    let one = HasLine-arg _ _ _ _ _ bare c.new_log.ensures c.in_ok-arg.ensures in
    let two = HasLine-arg _ _ _ _ _ one c.listen.ensures c.in_ok-arg-2.ensures in
    let three = HasLine-arg _ _ _ _ _ two c.nodes.ensures c.in_ok-arg-3.ensures in
    let four = HasLine-arg _ _ _ _ _ three c.workers.ensures c.in_ok-arg-4.ensures in
    let five = HasLine-arg _ _ _ _ _ four c.metrics.ensures c.in_ok-arg-5.ensures in
    let six = HasLine-arg _ _ _ _ _ five c.quiet.ensures c.in_ok-arg-6.ensures in
    HasLine-last _ _ c.arg-7.result _ _ six file c.arg-7.ensures
