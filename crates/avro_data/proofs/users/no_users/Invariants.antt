use Rattle.std.proofs.Common.{◌≡◌, length}
use Rattle.avro_data.proofs.users.no_users.Given as goal

abbrev pub invariant-loop-made : goal.invariant-loop-made
invariant-loop-made l = length l.users.items ≡ l._made
