use Rattle.std.proofs.Common.{ap, sym, ◌∙◌, option_copied}
use Rattle.avro_resolve.proofs.Named.{partner_at}
use Rattle.avro_resolve.proofs.fields.named_at.Goals as goal

pub returns-then-eq : goal.returns-then-eq
returns-then-eq c =
    partner_at c.args.writer.now c.args.field.now c.requires c.args.k c.in-Some.g.now
    (sym c.field_at.ensures ∙ ap option_copied c.in-Some.is) (sym c.eq.ensures ∙ c.if-eq.true)
