use Rattle.std.proofs.Common.{ap, is_some, ◌∙◌}
use Rattle.avro_resolve.proofs.Named.{known_text}
use Rattle.avro_resolve.proofs.table.symbol_near.Goals as goal

pub returns : goal.returns
returns c = ap is_some c.place.ensures ∙ known_text c.args.symbols.now c.args.symbol.now
