use Rattle.std.proofs.Common.{Bool, not, ap, ◌∙◌}
use Rattle.std.proofs.lemmas.Result.{IfOk-weaker}
use Rattle.std.specs.FinSet.{from_list, retain}
use Rattle.reg_records.specs.declared.record.Record.{Record}
use Rattle.reg_set.specs.LastRecords.{last_records}
use Rattle.reg_set.specs.Compaction.{deletes_below}
use Rattle.reg_floored.proofs.Sets.{from_list-filter}
use Rattle.reg_floored.proofs.parts.compacted_to.Goals as goal

pub returns : goal.returns
returns c =
    let stays : Record → Bool = λ r. not (deletes_below c.args.floor r) in
    IfOk-weaker c.set_of.result _ _ (λ found is. is ∙ ap from_list c.drop_deletes_below.ensures
    ∙ from_list-filter c.records_are_ordered.ensures.all c.records_are_ordered.ensures.apart
    c.compact.new.self c.in_ok-found.found.items stays c.in_ok-found.ensures.members
    ∙ ap (λ s. retain s stays) (c.compact.ensures.left ∙ ap last_records c.in_ok-lasts.ensures.cases)) c.set_of.ensures
