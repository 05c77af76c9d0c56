use Rattle.std.proofs.Common.{sym, ◌∙◌}
use Rattle.reg_set.specs.RecordOrder.{value_cmp}
use Rattle.reg_set.proofs.Orders.{age_cmp-by_offset, age_cmp-by_value}
use Rattle.reg_set.proofs.order.compare.Goals as goal

pub returns-in-Equal : goal.returns-in-Equal
unfolding value_cmp
returns-in-Equal c =
    c.cmp-in-Equal.ensures ∙ age_cmp-by_value c.args.one.now c.args.other.now (sym c.cmp.ensures ∙ c.in-Equal.is)

pub returns-in_default : goal.returns-in_default
returns-in_default c =
    c.cmp.ensures ∙ age_cmp-by_offset c.args.one.now c.args.other.now (λ e. c.in_default.not-Equal (c.cmp.ensures ∙ e))
