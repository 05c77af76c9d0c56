use Rattle.reg_lookup.proofs.Escaping.{plain_byte}
use Rattle.reg_lookup.proofs.in_string.is_plain_byte.Goals as goal

pub returns : goal.returns
returns c = plain_byte c.args.byte
