use Rattle.std.proofs.Common.{◌≡◌, take}
use Rattle.std.specs.List.{filter_map}
use Rattle.reg_inspection.specs.Obstacles.{opaque_in}
use Rattle.reg_inspection.proofs.obstacle.opaques_in.Given as goal

abbrev pub invariant-loop-record : goal.invariant-loop-record
invariant-loop-record l = l.found.items ≡ filter_map opaque_in (take l.record-index l.records)
