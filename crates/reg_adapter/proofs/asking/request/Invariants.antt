use Rattle.std.proofs.Common.{◌≡◌, ◌≤◌, All, length, take}
use Rattle.reg_records.specs.Written.{line_text}
use Rattle.reg_records.specs.declared.limits.TheConstants.{LINE_LIMIT}
use Rattle.reg_journal.specs.Lines.{Say, batch_lines, batch_reads, text_of}
use Rattle.reg_adapter.proofs.asking.request.Given as goal

abbrev pub invariant-loop-record : goal.invariant-loop-record
invariant-loop-record l = record {
  text : l.text.items ≡ text_of (batch_lines (take l.record-index l.batch));
  say : Say (batch_lines (take l.record-index l.batch)) (batch_reads (take l.record-index l.batch));
  short : All (λ r. length (line_text r) ≤ LINE_LIMIT) (take l.record-index l.batch);
}
