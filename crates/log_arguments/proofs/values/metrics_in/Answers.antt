use Rattle.std.proofs.Common.{None, Some, subst, sym}
use Rattle.log_arguments.specs.Values.{IsAddressOf}
use Rattle.log_arguments.proofs.Spelling.{no_address}
use Rattle.log_arguments.proofs.values.metrics_in.Goals as goal

pub returns-in_default : goal.returns-in_default
returns-in_default c = subst (λ given. IsAddressOf given None) c.in_default.ensures tt

pub returns-in-Ok : goal.returns-in-Ok
returns-in-Ok c = subst (λ given. IsAddressOf given (Some c.in-Ok.address)) c.in-Some.ensures c.in-Ok.ensures.value

pub returns-in-Err : goal.returns-in-Err
returns-in-Err c = λ address is. no_address c.in-Some.text.now c.in-Err.ensures.value address (subst (λ given. IsAddressOf given address) (sym c.in-Some.ensures) is)
