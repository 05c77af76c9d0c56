use Rattle.std.proofs.Common.{◌≡◌, take, count_by}
use Rattle.reg_records.specs.Line.{is_line_feed}
use Rattle.reg_compaction.proofs.cutting.count_lines.Given as goal

abbrev pub invariant-loop-b : goal.invariant-loop-b
invariant-loop-b l = l.count ≡ count_by is_line_feed (take l.b-index l.text)
