use Rattle.std.proofs.Common.{◌≡◌, drop, filter_map, slice_get}
use Rattle.avro_schema.specs.Defaults.{field_named}
use Rattle.avro_resolve.proofs.fields.first_field.Given as goal

-- the names so far have no field
abbrev pub invariant-loop-name : goal.invariant-loop-name
invariant-loop-name l =
    slice_get (filter_map (field_named l.fields) l.fn.names) 0 ≡ slice_get (filter_map (field_named l.fields) (drop l.name-index l.names)) 0
