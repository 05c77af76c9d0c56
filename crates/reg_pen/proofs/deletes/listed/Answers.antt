use Rattle.std.proofs.Common.{sym, ap, ◌∙◌}
use Rattle.reg_set.specs.Records.{records_of}
use Rattle.reg_pen.proofs.Counting.{all_since}
use Rattle.reg_pen.proofs.deletes.listed.Goals as goal

pub returns : goal.returns
returns c =
    let o = c.records_are_ordered.ensures in
    let all = all_since o.all o.apart c.args.shared.now.kept.records c.in_ok-found.found.items c.in_ok-found.ensures.all in
    sym (c.records_are_listed_in_order.ensures c.in_ok-found.found.items c.in_ok-found.ensures.in_order) ∙ ap records_of all
