use Rattle.std.proofs.Common.{◌≡◌, replicate}
use Rattle.reg_world.specs.State.{no_records}
use Rattle.reg_world.proofs.cluster.new_nodes.Given as goal

abbrev pub invariant-loop-node : goal.invariant-loop-node
invariant-loop-node l = l.nodes.items ≡ replicate l._node no_records
