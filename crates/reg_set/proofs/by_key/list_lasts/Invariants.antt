use Rattle.std.proofs.Common.{map}
use Rattle.std.specs.FinSet.{from_list}
use Rattle.std.specs.List.{flat_map}
use Rattle.std.specs.Map.{values_of}
use Rattle.std.specs.Map.Iter.{deref_pair}
use Rattle.reg_set.specs.Compaction.{KeepsLasts}
use Rattle.reg_set.proofs.by_key.list_lasts.Given as goal

-- what is found keeps the last records of those so far
abbrev pub invariant-loop-key : goal.invariant-loop-key
invariant-loop-key l =
    KeepsLasts (from_list (map (λ r. r.now) l.found.items)) (from_list (flat_map (λ v. v.items) (values_of (map deref_pair l.yielded))))
