use Rattle.std.proofs.Common.{ap, codes, unwrap_or}
use Rattle.log_arguments.proofs.values.listen_text.Goals as goal

pub returns-in-Some : goal.returns-in-Some
returns-in-Some c = ap (λ given. unwrap_or given (codes "127.0.0.1:8081")) c.in-Some.ensures

pub returns-in-None : goal.returns-in-None
returns-in-None c = ap (λ given. unwrap_or given (codes "127.0.0.1:8081")) c.in-None.ensures
