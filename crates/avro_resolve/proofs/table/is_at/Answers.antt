use Rattle.std.proofs.Common.{ap, sym, ◌∙◌, option_copied}
use Rattle.avro_resolve.proofs.Named.{text_at}
use Rattle.avro_resolve.proofs.table.is_at.Goals as goal

pub returns-in-Some : goal.returns-in-Some
returns-in-Some c =
    λ same.
    text_at c.args.symbols.now c.args.k c.in-Some.other.now c.args.symbol.now
    (sym c.symbol_at.ensures ∙ ap option_copied c.in-Some.is) (sym c.eq.ensures ∙ same)
