use Rattle.std.proofs.Common.{rules}
use Rattle.log_arguments.proofs.Asking.{join_alone}
use Rattle.log_arguments.proofs.reading.join_in.Goals as goal

pub returns-in-Err : goal.returns-in-Err
returns-in-Err c =
    join_alone c.args.given.set _ (search rules) (λ listen nodes workers check_every metrics is shown within. c.in-Err.ensures (record { listen = listen; nodes = nodes; workers = workers }) is)
