use Rattle.std.proofs.lemmas.Str.Parse.{parse_digits}
use Rattle.std.proofs.lemmas.Result.{OkIff-at_err}
use Rattle.log_arguments.proofs.Spelling.{own, unparsed}
use Rattle.log_arguments.proofs.values.number_within.Goals as goal

pub returns-in_default-3 : goal.returns-in_default-3
returns-in_default-3 c =
    unparsed c.args.text.now c.args.least c.args.most c.ranges.most.fits (λ digits.
    OkIff-at_err c.parse.result _ _ _ (parse_digits own 64 c.args.text.now c.parse.result c.parse.ensures.value.0 digits) c.in_default.is)
