use Rattle.std.proofs.Common.{map}
use Rattle.std.specs.List.{AllZip}
use Rattle.std.specs.Map.Iter.{deref}
use Rattle.packed_trees.proofs.sets.copy_set.Given as goal

-- the copies are clones of the keys so far
abbrev pub invariant-loop-key : goal.invariant-loop-key
invariant-loop-key g l = AllZip g.K.Clone.is_clone (map deref l.yielded) l.copies.items
