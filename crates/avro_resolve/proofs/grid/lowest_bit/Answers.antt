use Rattle.std.proofs.Common.{w64, arith}
use Rattle.std.proofs.lemmas.Nat.Bits.{bit_at-trailing_zeros}
use Rattle.avro_resolve.proofs.grid.lowest_bit.Goals as goal

pub returns-clause-set : goal.returns-clause-set
returns-clause-set c =
    (bit_at-trailing_zeros w64 c.args.bits (let some = c.requires in omega (arith, some)) c.ranges.bits.fits).1
