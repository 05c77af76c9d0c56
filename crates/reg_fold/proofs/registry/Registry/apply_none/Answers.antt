use Rattle.std.proofs.Common.{ap, sym, ◌∙◌}
use Rattle.reg_set.specs.LastRecords.{last_records}
use Rattle.reg_fold.proofs.Folding.{union-empty}
use Rattle.reg_fold.proofs.registry.Registry.apply_none.Goals as goal

pub returns : goal.returns
returns c =
    let order = c.records_are_ordered.ensures in
    sym (ap last_records (union-empty order.all order.apart c.args.self.now ∙ sym c.self.view_is) ∙ c.is_compact.ensures ∙ c.self.view_is)
