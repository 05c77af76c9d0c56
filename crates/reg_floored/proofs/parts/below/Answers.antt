use Rattle.std.proofs.Common.{nat_lt, ap, ◌∙◌}
use Rattle.std.proofs.lemmas.Result.{IfOk-weaker}
use Rattle.std.specs.FinSet.{from_list}
use Rattle.reg_floored.proofs.Sets.{from_list-filter}
use Rattle.reg_floored.proofs.parts.below.Goals as goal

pub returns : goal.returns
returns c =
    IfOk-weaker c.set_of.result _ _ (λ found is. is ∙ ap from_list c.keep_below.ensures
    ∙ from_list-filter c.records_are_ordered.ensures.all c.records_are_ordered.ensures.apart c.args.set.now c.in_ok-found.found.items
    (λ r. nat_lt r.offset c.args.floor) c.in_ok-found.ensures.members)
    c.set_of.ensures
