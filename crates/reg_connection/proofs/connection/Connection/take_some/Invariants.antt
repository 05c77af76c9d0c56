use Rattle.std.proofs.Common.{◌≡◌}
use Rattle.reg_connection.specs.Connection.{KeepsTimes}
use Rattle.reg_connection.specs.declared.waiting.Waits.TheVariants as waits
use Rattle.reg_connection.proofs.connection.Connection.take_some.Given as goal

-- the reads so far changed no time, and it isn't closing
abbrev pub invariant-reads : goal.invariant-reads
invariant-reads g l = record {
  times : KeepsTimes l.initial.self l.self;
  waits : l.self.waits ≡ waits.Request;
  stream : l.self.stream ≡ l.initial.self.stream;
}
