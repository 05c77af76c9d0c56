use Rattle.std.proofs.Common.{◌≡◌, List, ◌++◌}
use Rattle.json_tree.specs.View.{Entry, members_view}
use Rattle.json_tree.proofs.members.same_map.Given as goal

abbrev pub invariant-loop-name : goal.invariant-loop-name
invariant-loop-name l =
    (done : List Entry) × (l.fn.members.items ≡ done ++ l.name-iterator.rest.items) × (members_view l.map.entries ≡ members_view done)
