use Rattle.std.proofs.Common.{◌++◌, ◌∷◌, [], List, take, sym, ap, ◌∙◌}
use Rattle.std.proofs.lemmas.List.{take_more}
use Rattle.std.specs.FinSet.{from_list}
use Rattle.reg_records.specs.declared.record.Record.{Record}
use Rattle.reg_set.specs.LastRecords.{last_records}
use Rattle.reg_compaction.proofs.Lasts.{one_more}
use Rattle.reg_compaction.proofs.compacting.lasts_of.Goals as goal

pub loop-record-preserved : goal.loop-record-preserved
loop-record-preserved c =
    let xs = c.args.records.now in
    let i = c.loop-record.record-index in
    let r = c.record-item.result in
    one_more c.records_are_ordered.ensures.all c.records_are_ordered.ensures.apart c.last_records_of_unions.ensures.insert
    (take i xs) r c.loop-record.lasts c.add.new.lasts c.loop-record.invariant c.in_ok-add.ensures
    ∙ ap (λ (l : List Record). last_records (from_list l))
    (ap (λ (d : Record). take i xs ++ d ∷ []) c.record-item.is ∙ sym (take_more xs i r c.loop-record-test.true))
