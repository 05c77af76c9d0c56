use Rattle.std.proofs.Common.{ap, ◌∙◌}
use Rattle.std.specs.FinSet.{from_list, union}
use Rattle.reg_set.specs.LastRecords.{last_records}
use Rattle.reg_set.specs.RecordOrder.{record_cmp}
use Rattle.reg_program.proofs.Unions.{union-empty}
use Rattle.reg_program.proofs.folding.registry_of.Goals as goal

pub returns : goal.returns
returns c =
    let laws = c.records_are_ordered.ensures in
    let given = from_list {R = record_cmp} c.args.records.now in
    c.in_ok-apply_all.ensures.added
    ∙ ap (λ before. last_records (union before given)) c.empty-registry.ensures
    ∙ ap last_records (union-empty laws.all laws.apart given)
