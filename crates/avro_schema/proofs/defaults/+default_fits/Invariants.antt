-- What is still to be looked at decides.
use Rattle.std.proofs.Common.{◌≡◌, drop}
use Rattle.serde_json.specs.View.{items_view, members_view}
use Rattle.avro_schema.specs.Defaults as spec
use Rattle.avro_schema.proofs.defaults.+default_fits.Given as goal

abbrev pub invariant-fields_fit-loop-name : goal.invariant-fields_fit-loop-name
invariant-fields_fit-loop-name l =
    spec.fields_fit l.schema.nodes l.fields (members_view l.members.entries)
    ≡ spec.fields_fit l.schema.nodes l.fields (members_view l.name-iterator)

abbrev pub invariant-items_fit-loop-item : goal.invariant-items_fit-loop-item
invariant-items_fit-loop-item l =
    spec.items_fit l.schema.nodes l.id (items_view l.item-items)
    ≡ spec.items_fit l.schema.nodes l.id (items_view (drop l.item-index l.item-items))

abbrev pub invariant-values_fit-loop-name : goal.invariant-values_fit-loop-name
invariant-values_fit-loop-name l =
    spec.values_fit l.schema.nodes l.id (members_view l.members.entries)
    ≡ spec.values_fit l.schema.nodes l.id (members_view l._name-iterator)
