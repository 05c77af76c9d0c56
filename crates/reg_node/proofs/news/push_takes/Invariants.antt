use Rattle.std.proofs.Common.{◌≡◌, ◌+◌, ◌≤◌, ◌++◌, length}
use Rattle.std.specs.VecDeque.{deque_capacity, deque_len}
use Rattle.reg_node.specs.Takes.{takes_of}
use Rattle.reg_node.proofs.news.push_takes.Given as goal

abbrev pub invariant-loop-kept : goal.invariant-loop-kept
invariant-loop-kept l = record {
  added : l.draws.items ≡ l.fn.draws.items ++ takes_of l.fn.read l.yielded;
  len : deque_len l.draws ≡ deque_len l.fn.draws + length l.yielded;
  room : deque_len l.fn.draws + length l.fn.records.items ≤ deque_capacity l.draws;
}
