use Rattle.std.proofs.Common.{◌≡◌, rules, sym, ap, ◌∙◌}
use Rattle.reg_records.specs.Log.{log_of, records_in}
use Rattle.reg_compaction.specs.Marked.{dropped_mark}
use Rattle.reg_compaction.proofs.marking.dropped_mark.Goals as goal

pub returns-clause-mark : goal.returns-clause-mark
returns-clause-mark c =
    let found = c.in_ok-read.ensures.read in
    let given : c.new.result.inner ≡ c.args.log = search rules in
    let records : c.deref.result.now ≡ records_in found.0.reads = c.deref.ensures.value ∙ found.2.records in (
      found.0,
      ap (λ r. log_of r.now) (sym given) ∙ found.1,
      c.in_ok-mark_of.ensures.mark ∙ ap (dropped_mark c.args.floor) records,
    )
