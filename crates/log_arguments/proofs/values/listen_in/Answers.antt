use Rattle.std.proofs.Common.{subst, sym}
use Rattle.std.specs.Net.Grammar.{IsSocketText}
use Rattle.log_arguments.proofs.values.listen_in.Goals as goal

pub returns-in-Ok : goal.returns-in-Ok
returns-in-Ok c = subst (λ t. IsSocketText t c.in-Ok.listen) c.listen_text-text.ensures c.in-Ok.ensures.value

pub returns-in-Err : goal.returns-in-Err
returns-in-Err c = λ listen is. c.in-Err.ensures.value listen (subst (λ t. IsSocketText t listen) (sym c.listen_text-text.ensures) is)
