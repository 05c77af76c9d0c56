use Rattle.std.proofs.Common.{◌≡◌, map}
use Rattle.std.specs.FinSet.{from_list}
use Rattle.std.specs.List.{flat_map}
use Rattle.std.specs.Map.{values_of}
use Rattle.std.specs.Map.Iter.{deref_pair}
use Rattle.reg_set.specs.LastRecords.{last_records}
use Rattle.reg_set.proofs.by_key.lasts_of.Given as goal

abbrev pub invariant-loop-key : goal.invariant-loop-key
invariant-loop-key l = l.lasts ≡ last_records (from_list (flat_map (λ v. v.items) (values_of (map deref_pair l.yielded))))
