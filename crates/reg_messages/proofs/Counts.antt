-- What a reader counts in two steps.
use Rattle.std.proofs.Common.{◌∙◌, arith}
use Rattle.reg_records.specs.declared.device.Device.{Device}
use Rattle.reg_messages.specs.Taking.{CountsReads}

-- the reads of two steps
pub counts_then : {R : Type 0} (old mid new : Device R) → CountsReads old mid → CountsReads mid new → CountsReads old new
counts_then old mid new (few, most, least, more, begun) (few', most', least', more', begun') =
    (few', omega (arith, most, most', more, more'), omega (arith, least, least', more, more'), omega (arith, more, more'), begun' ∙ begun)
