use Rattle.std.proofs.Common.{nat_le, ap, ◌∙◌}
use Rattle.std.proofs.lemmas.Result.{IfOk-weaker}
use Rattle.std.specs.FinSet.{from_list}
use Rattle.reg_floored.proofs.Sets.{from_list-filter}
use Rattle.reg_floored.proofs.parts.from_floor.Goals as goal

pub returns : goal.returns
returns c =
    IfOk-weaker c.set_of.result _ _ (λ found is. is ∙ ap from_list c.keep_from.ensures
    ∙ from_list-filter c.records_are_ordered.ensures.all c.records_are_ordered.ensures.apart c.args.set.now c.in_ok-found.found.items
    (λ r. nat_le c.args.floor r.offset) c.in_ok-found.ensures.members)
    c.set_of.ensures
