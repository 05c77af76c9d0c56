use Rattle.std.proofs.Common.{◌≡◌}
use Rattle.reg_connection.proofs.connection.Connection.linger.Given as goal

-- the reads so far changed no time
abbrev pub invariant-reads : goal.invariant-reads
invariant-reads g l = record {
  since : l.self.since ≡ l.initial.self.since;
  waits : l.self.waits ≡ l.initial.self.waits;
}
