use Rattle.std.proofs.Common.{◌≡◌, ◌≤◌, ◌+◌, length, sym, ap, ap₂, ◌∙◌, arith, rules, length-append}
use Rattle.reg_records.specs.Log.{log_of, records_in}
use Rattle.reg_records.specs.declared.limits.TheConstants.{LOG_LINES}
use Rattle.reg_compaction.specs.Whole.{end_line}
use Rattle.reg_compaction.proofs.Fronts.{Say-length}
use Rattle.reg_compaction.proofs.Sizes.{counted}
use Rattle.reg_compaction.proofs.whole.found_end.Goals as goal

pub overflow_add-records : goal.overflow_add-records
overflow_add-records c =
    let found = c.in_ok-log.ensures.read in
    let records : length c.in_ok-log.log.records.items ≡ length (records_in found.0.reads) = ap length found.2.records in
    let (lines, say, most, whole) = c.lines_are_logs.ensures.lines c.new-reader.result.inner.now found.0 found.1 in
    let few : length found.0.reads ≤ LOG_LINES =
    omega (arith, most, ap length say.parts, length-append say.front say.others, Say-length say.others found.0.reads say.say) in
    omega (arith, c.len.ensures, records, counted found.0.reads, found.2.foreign, few)

pub returns-clause-found : goal.returns-clause-found
returns-clause-found c =
    let found = c.in_ok-log.ensures.read in
    let given : c.new-reader.result.inner.now ≡ c.args.text.now = search rules in
    let rest : c.read_log.new.reader.inner.now ≡ found.0.rest = cc (found.3) in
    let same : c.into_inner-behind.result.now ≡ c.read_log.new.reader.inner.now = search rules in
    let records : length c.in_ok-log.log.records.items ≡ length (records_in found.0.reads) = ap length found.2.records in
    let lines : c.len.result + c.in_ok-log.log.foreign ≡ length found.0.reads =
    omega (arith, c.len.ensures, records, counted found.0.reads, found.2.foreign) in
    (found.0, ap log_of (sym given) ∙ found.1, same ∙ rest, c.in_ok-end.ensures ∙ ap₂ end_line lines found.2.next)
