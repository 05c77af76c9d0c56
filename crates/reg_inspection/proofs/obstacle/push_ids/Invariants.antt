use Rattle.std.proofs.Common.{◌≡◌, ◌++◌, map, take}
use Rattle.reg_inspection.specs.declared.obstacle.Obstacle.TheVariants as kinds
use Rattle.reg_inspection.proofs.obstacle.push_ids.Given as goal

abbrev pub invariant-loop-id : goal.invariant-loop-id
invariant-loop-id l = l.found.items ≡ l.fn.found.items ++ map kinds.TwoSchemas (take l.id-index l.ids)
