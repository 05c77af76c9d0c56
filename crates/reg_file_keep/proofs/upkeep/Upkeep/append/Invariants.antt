use Rattle.std.proofs.Common.{◌≡◌, take}
use Rattle.reg_file_keep.specs.Next.{next_behind}
use Rattle.reg_file_keep.proofs.upkeep.Upkeep.append.Given as goal

abbrev pub invariant-loop-given : goal.invariant-loop-given
invariant-loop-given l = l.self ≡ record l.initial.self { next = next_behind l.initial.self.next (take l.given-index l.batch) }
