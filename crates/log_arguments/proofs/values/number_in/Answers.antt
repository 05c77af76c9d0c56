use Rattle.std.proofs.Common.{refl, subst, sym}
use Rattle.log_arguments.specs.Values.{IsNumberOr}
use Rattle.log_arguments.proofs.values.number_in.Goals as goal

pub returns-in_default-clause-number : goal.returns-in_default-clause-number
returns-in_default-clause-number c = subst (λ given. IsNumberOr c.args.of.otherwise c.args.of.least c.args.of.most given c.args.of.otherwise) c.in_default.ensures refl

pub returns-in-Some-number_within-clause-number : goal.returns-in-Some-number_within-clause-number
returns-in-Some-number_within-clause-number c =
    subst (λ given. IsNumberOr c.args.of.otherwise c.args.of.least c.args.of.most given c.in-Some-number_within.number) c.in-Some.ensures c.in-Some-number_within.ensures

pub returns-in-None-clause-number : goal.returns-in-None-clause-number
returns-in-None-clause-number c = λ number is.
    c.in-None.ensures number (subst (λ given. IsNumberOr c.args.of.otherwise c.args.of.least c.args.of.most given number) (sym c.in-Some.ensures) is)
