use Rattle.std.proofs.Common.{◌≡◌, ◌+◌, length}
use Rattle.reg_rules.specs.Writings.{numbered}
use Rattle.reg_rules.proofs.writing.numbered.Given as goal

abbrev pub invariant-loop-writing : goal.invariant-loop-writing
invariant-loop-writing l = record {
  at_offset : l.offset ≡ l.next + length l.yielded;
  so_far : l.batch.items ≡ numbered l.next l.yielded;
}
