use Rattle.std.proofs.Common.{◌≡◌, map}
use Rattle.std.specs.List.{filter_map}
use Rattle.std.specs.Map.Iter.{deref}
use Rattle.reg_entries.specs.Index.{Name, entry_at}
use Rattle.reg_entries.proofs.ids.list_by_name.Given as goal

abbrev pub invariant-loop-name : goal.invariant-loop-name
invariant-loop-name l = map (λ e. e.now) l.found.items ≡ filter_map (λ (k : Name). entry_at l.entries k.2) (map deref l.yielded)
