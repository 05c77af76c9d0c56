use Rattle.log_arguments.proofs.Asking.{follow_alone}
use Rattle.log_arguments.proofs.reading.follow_in.Goals as goal

pub returns-in-Err : goal.returns-in-Err
returns-in-Err c =
    follow_alone c.args.given.set _ (λ listen nodes workers metrics is shown. c.in-Err.ensures (record { listen = listen; nodes = nodes; workers = workers }) is)
