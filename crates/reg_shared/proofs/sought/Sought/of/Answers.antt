use Rattle.std.proofs.Common.{sym, ap, ◌∙◌}
use Rattle.std.specs.FinSet.{from_list}
use Rattle.reg_shared.proofs.Members.{permuted}
use Rattle.reg_shared.proofs.sought.Sought.of.Goals as goal

pub returns : goal.returns
returns c =
    let o = c.records_are_ordered.ensures in
    sym (permuted o.all o.apart _ _ c.put_by_offset.ensures.moved) ∙ ap from_list c.in_ok-by_offset.ensures
