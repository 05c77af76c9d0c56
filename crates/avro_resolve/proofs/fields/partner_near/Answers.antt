use Rattle.std.proofs.Common.{ap, sym, ◌∙◌}
use Rattle.std.specs.List.{filter_map, slice_get}
use Rattle.avro_schema.specs.Defaults.{field_named}
use Rattle.avro_resolve.proofs.Named.{partner_of_place, partner_of_aliases}
use Rattle.avro_resolve.proofs.fields.partner_near.Goals as goal

pub returns-in-Some-place : goal.returns-in-Some-place
returns-in-Some-place c =
    c.field_at.ensures ∙ ap (λ fs. slice_get fs c.in-Some-place.k) c.as_slice-in-Some-place.ensures.items
    ∙ partner_of_place c.args.writer.now c.args.field.now c.in-Some-place.k (sym c.place.ensures ∙ c.in-Some-place.is)

pub returns-in-None : goal.returns-in-None
returns-in-None c =
    c.first_field.ensures ∙ ap (λ ns. slice_get (filter_map (field_named c.args.writer.now) ns) 0) c.as_slice-in-None.ensures
    ∙ partner_of_aliases c.args.writer.now c.args.field.now (sym c.place.ensures ∙ c.in-None.is)
