use Rattle.std.proofs.Common.{◌∙◌, ap}
use Rattle.reg_journal.specs.Lines.{text_of}
use Rattle.reg_compaction.proofs.Orders.{sorted_compaction}
use Rattle.reg_compaction.proofs.sorting.compacted_in_order.Goals as goal

pub returns-clause-compacted : goal.returns-clause-compacted
returns-clause-compacted c =
    let ordered = c.records_are_ordered.ensures in
    let lines = c.in_ok-text.ensures.lines in
    let s = lines.say in
    sorted_compaction ordered.all ordered.apart c.lines_are_logs.ensures.read c.args.log.now
    c.in_ok-text.text.items c.in_ok-in_order.field-0.items c.in_ok-text.ensures.compacted lines
    (c.in_ok-in_order.ensures s.front s.others lines.floor lines.read (lines.parts ∙ ap text_of s.parts) s.floor s.say)
