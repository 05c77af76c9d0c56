use Rattle.std.proofs.Common.{◌≡◌, ◌∙◌, sym, ap, option_map, true, Some, rules}
use Rattle.std.specs.Option.{option_map_or}
use Rattle.avro_schema.specs.declared.node.Node.TheVariants as kind
use Rattle.serde_json.specs.View.{view, members_view}
use Rattle.serde_json.specs.Data.{object}
use Rattle.avro_schema.specs.Required.{required_of, have_all}
use Rattle.avro_schema.specs.Defaults as spec
use Rattle.serde_json.proofs.Views.{view-Object}
use Rattle.avro_schema.proofs.DefaultLemmas.{record_fits}
use Rattle.avro_schema.proofs.defaults.+default_fits.Goals as goal

pub default_fits-returns-then-fields_fit : goal.default_fits-returns-then-fields_fit
default_fits-returns-then-fields_fit t c =
    let nodes = c.args.schema.now.nodes in
    let ms = members_view c.in-Object.members.entries in
    let node : c.in-Some-Record.field-0.now ≡ kind.Record c.in-Some-Record.field-0-0 c.in-Some-Record.field-0-1 c.in-Some-Record.fields =
    search (rules, c.in-Some-Record.field-0-is, c.in-Some-Record.is) in
    let is : spec.default_type nodes c.args.id
    ≡ Some (kind.Record c.in-Some-Record.field-0-0 c.in-Some-Record.field-0-1 c.in-Some-Record.fields) =
    sym c.in-Some-Record.ensures ∙ ap Some node in
    let whole : view c.args.value.now ≡ object ms = ap view c.in-Object.is ∙ view-Object c.in-Object.members in
    c.have_required.ensures
    ∙ ap (λ o. option_map_or (have_all ms) o true) (c.required_names.ensures ∙ ap (option_map required_of) is)
    ∙ sym (record_fits nodes c.args.id ms _ _ _ is (sym c.fields_fit.ensures ∙ c.if-fields_fit.true))
    ∙ ap (spec.default_fits nodes c.args.id) (sym whole)
