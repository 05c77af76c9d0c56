use Rattle.std.proofs.Common.{◌≡◌, drop}
use Rattle.named_list.specs.Slots as spec
use Rattle.named_list.proofs.slots.hash_of.Given as goal

abbrev pub invariant-loop-byte : goal.invariant-loop-byte
invariant-loop-byte l = spec.hash_from l.hash (drop l.byte-index l.name) ≡ spec.hash_from 0 l.fn.name
