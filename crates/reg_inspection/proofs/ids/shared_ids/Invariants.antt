use Rattle.std.proofs.Common.{◌≡◌, ◌++◌}
use Rattle.std.specs.List.{filter}
use Rattle.reg_fold.specs.reg_entries.Sought.{with_id}
use Rattle.reg_fold.specs.Entries.{entries}
use Rattle.reg_inspection.specs.Shared.{are_apart, shared_ids}
use Rattle.reg_inspection.proofs.ids.shared_ids.Given as goal

abbrev pub invariant-loop-id : goal.invariant-loop-id
invariant-loop-id l =
    l.found.items ++ filter (λ id. are_apart (with_id (entries l.registry) id)) l.id-iterator ≡ shared_ids (entries l.registry)
