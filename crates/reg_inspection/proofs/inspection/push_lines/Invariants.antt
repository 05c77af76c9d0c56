use Rattle.std.proofs.Common.{◌≡◌, ◌++◌, take, string_bytes}
use Rattle.std.specs.List.{flat_map}
use Rattle.reg_inspection.specs.Report.{obstacle_line}
use Rattle.reg_inspection.proofs.inspection.push_lines.Given as goal

abbrev pub invariant-loop-obstacle : goal.invariant-loop-obstacle
invariant-loop-obstacle l = string_bytes l.text ≡ string_bytes l.fn.text ++ flat_map obstacle_line (take l.obstacle-index l.obstacles)
