use Rattle.clap.specs.Words.{found_of, rows_of}
use Rattle.log_arguments.proofs.Asking.{keep_alone}
use Rattle.log_arguments.proofs.reading.keep_in.Goals as goal

pub returns-in-Err : goal.returns-in-Err
returns-in-Err c =
    keep_alone c.args.given.set (rows_of (found_of c.args.given.found.now)) (λ file listen nodes workers metrics quiet is_new is.
    c.in-Err.ensures quiet is.4)

pub returns-in-Err-place_in : goal.returns-in-Err-place_in
returns-in-Err-place_in c =
    keep_alone c.args.given.set _ (λ file listen nodes workers metrics quiet is_new is.
    c.in-Err-place_in.ensures (record { listen = listen; nodes = nodes; workers = workers }) is.2)
