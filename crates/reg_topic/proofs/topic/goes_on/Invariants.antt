use Rattle.std.proofs.Common.{◌≡◌, ◌+◌, drop}
use Rattle.reg_leader.specs.OneStep.{goes_on}
use Rattle.reg_topic.proofs.topic.goes_on.Given as goal

abbrev pub invariant-loop-record : goal.invariant-loop-record
invariant-loop-record l = record {
  counted : l.expected ≡ l.next + l.record-index;
  rest : goes_on l.expected (drop l.record-index l.batch) ≡ goes_on l.next l.batch;
}
