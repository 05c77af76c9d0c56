use Rattle.std.proofs.Common.{◌≡◌, ◌++◌, string_bytes}
use Rattle.std.specs.List.{flat_map}
use Rattle.reg_inspection.specs.Report.{foreign_line}
use Rattle.reg_inspection.proofs.inspection.push_foreign.Given as goal

abbrev pub invariant-loop-keytype : goal.invariant-loop-keytype
invariant-loop-keytype l =
    string_bytes l.text ++ flat_map foreign_line l.keytype-iterator ≡ string_bytes l.fn.text ++ flat_map foreign_line l.foreign.entries
