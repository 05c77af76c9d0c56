use Rattle.std.proofs.Common.{◌≡◌, ◌≤◌, List, length, sym, ap, ◌∙◌, arith, rules, length-append}
use Rattle.std.specs.FinSet.{from_list}
use Rattle.reg_floored.specs.Floors.{compacted_to}
use Rattle.reg_records.specs.Log.{log_of, records_in}
use Rattle.reg_records.specs.declared.limits.TheConstants.{LOG_LINES}
use Rattle.reg_records.specs.declared.record.Record.{Record}
use Rattle.reg_compaction.specs.Begun.{before}
use Rattle.reg_compaction.proofs.Fronts.{Say-length}
use Rattle.reg_compaction.proofs.Sizes.{counted, one_before}
use Rattle.reg_compaction.proofs.to_floor.begin_to.Goals as goal

pub overflow_add-result : goal.overflow_add-result
overflow_add-result c =
    let found = c.in_ok-read.ensures.read in
    let records : length c.in_ok-read.read.records.items ≡ length (records_in found.0.reads) = ap length found.2.records in
    let (lines, say, most, whole) = c.lines_are_logs.ensures.lines c.new.result.inner.now found.0 found.1 in
    let few : length found.0.reads ≤ LOG_LINES =
    omega (arith, most, ap length say.parts, length-append say.front say.others, Say-length say.others found.0.reads say.say) in
    omega (arith, c.len.ensures, records, counted found.0.reads, found.2.foreign, few)

pub returns-clause-begun : goal.returns-clause-begun
returns-clause-begun c =
    let found = c.in_ok-read.ensures.read in
    let given : c.new.result.inner ≡ c.args.log = search rules in
    let records : c.deref.result.now ≡ records_in found.0.reads = c.deref.ensures.value ∙ found.2.records in
    record {
      log = found.0;
      read = ap (λ r. log_of r.now) (sym given) ∙ found.1;
      rises = omega (arith, found.2.floor);
      within = omega (arith, found.2.next);
      waiting = c.in_ok-waiting.ensures ∙ ap (λ (l : List Record). compacted_to c.args.floor (from_list l)) records;
      top = one_before c.checked_sub.result c.in_ok-read.read.next c.checked_sub.ensures ∙ ap before found.2.next;
      count = omega (arith, c.len.ensures, ap length found.2.records, counted found.0.reads, found.2.foreign);
    }
