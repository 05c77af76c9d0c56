use Rattle.std.proofs.Common.{map}
use Rattle.std.specs.List.{AllZip}
use Rattle.std.specs.Map.Iter.{deref_pair}
use Rattle.packed_trees.proofs.maps.copy_map.Given as goal

-- the copies are clones of the entries so far
abbrev pub invariant-loop-key : goal.invariant-loop-key
invariant-loop-key g l = AllZip (λ p q. g.K.Clone.is_clone p.0 q.0 × g.V.Clone.is_clone p.1 q.1) (map deref_pair l.yielded) l.copies.items
