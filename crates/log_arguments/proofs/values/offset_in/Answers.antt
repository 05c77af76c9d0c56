use Rattle.std.proofs.Common.{None, Some, subst, sym}
use Rattle.log_arguments.specs.Values.{IsOffsetOf}
use Rattle.log_arguments.proofs.Spelling.{no_offset}
use Rattle.log_arguments.proofs.values.offset_in.Goals as goal

pub returns-in_default : goal.returns-in_default
returns-in_default c = subst (λ given. IsOffsetOf given None) c.in_default.ensures tt

pub returns-in-Some-number_within : goal.returns-in-Some-number_within
returns-in-Some-number_within c =
    subst (λ given. IsOffsetOf given (Some c.in-Some-number_within.offset)) c.in-Some.ensures c.in-Some-number_within.ensures

pub returns-in-None : goal.returns-in-None
returns-in-None c = λ offset is. no_offset c.in-Some.text.now c.in-None.ensures offset (subst (λ given. IsOffsetOf given offset) (sym c.in-Some.ensures) is)
