use Rattle.std.proofs.Common.{◌≡◌, ◌++◌}
use Rattle.std.specs.VecDeque.{deque_len}
use Rattle.reg_node.proofs.follower.append_all.Given as goal

abbrev pub invariant-loop-draw : goal.invariant-loop-draw
invariant-loop-draw g l = (l.out.0 ≡ l.fn.out.0) × (l.out.1 ++ l.draws.items ≡ l.fn.out.1 ++ l.fn.draws.items)

abbrev pub decreases-loop-draw : goal.decreases-loop-draw
decreases-loop-draw g l = deque_len l.draws
