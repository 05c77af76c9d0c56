use Rattle.std.proofs.Common.{◌≡◌, ◌≤◌, count_by, take}
use Rattle.reg_messages.specs.Head.{is_line_feed}
use Rattle.reg_messages.proofs.head.has_few_lines.Given as goal

-- the lines so far
abbrev pub invariant-loop-b : goal.invariant-loop-b
invariant-loop-b l = (l.lines ≡ count_by is_line_feed (take l.b-index l.bytes)) × (l.lines ≤ l.b-index)
