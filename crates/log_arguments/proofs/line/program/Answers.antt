use Rattle.log_arguments.proofs.Lines.{HasLine-command, HasLine-last_command}
use Rattle.log_arguments.proofs.line.program.Goals as goal

pub returns : goal.returns
returns c =
    let one = HasLine-command _ _ _ _ _ c.in_ok-begun.ensures c.in_ok-keeping.ensures c.in_ok-subcommand.ensures in
    let two = HasLine-command _ _ _ _ _ one c.in_ok-following.ensures c.in_ok-subcommand-2.ensures in
    let three = HasLine-command _ _ _ _ _ two c.in_ok-joining.ensures c.in_ok-subcommand-3.ensures in
    let four = HasLine-command _ _ _ _ _ three c.in_ok-tailing.ensures c.in_ok-subcommand-4.ensures in
    let five = HasLine-command _ _ _ _ _ four c.in_ok-checking.ensures c.in_ok-subcommand-5.ensures in
    let six = HasLine-command _ _ _ _ _ five c.in_ok-compacting.ensures c.in_ok-subcommand-6.ensures in
    HasLine-last_command _ _ c.subcommand-7.result _ _ six c.in_ok-basing.ensures c.subcommand-7.ensures
