use Rattle.std.proofs.Common.{codes, rules}
use Rattle.clap.specs.Words.{new_app}
use Rattle.log_arguments.specs.Line.{HasLine}
use Rattle.log_arguments.proofs.Lines.{HasLine-arg, HasLine-last}
use Rattle.log_arguments.proofs.line.follow.Goals as goal

pub returns : goal.returns
returns c =
    let bare : HasLine (new_app (codes "follow")) c.after_help.result = search rules in
    let one = HasLine-arg _ _ _ _ _ bare c.listen.ensures c.in_ok-arg.ensures in
    let two = HasLine-arg _ _ _ _ _ one c.nodes.ensures c.in_ok-arg-2.ensures in
    let three = HasLine-arg _ _ _ _ _ two c.workers.ensures c.in_ok-arg-3.ensures in
    HasLine-last _ _ c.arg-4.result _ _ three c.metrics.ensures c.arg-4.ensures
