use Rattle.std.proofs.Common.{◌-◌, ◌≤◌, drop, length, take}
use Rattle.reg_connection.specs.Sending.{TakesBytes}
use Rattle.reg_connection.proofs.sending.send_some.Given as goal

-- what is counted by now was taken
abbrev pub invariant-pieces : goal.invariant-pieces
invariant-pieces g l = record {
  onwards : l.initial.sent ≤ l.sent;
  fits : l.initial.sent ≤ length l.bytes → l.sent ≤ length l.bytes;
  taken : TakesBytes g.S.Stream.took l.initial.stream (take (l.sent - l.initial.sent) (drop l.initial.sent l.bytes)) l.stream;
}
