-- How the fields of a reader's record and of a writer's are paired.
use Rattle.std.specs.Prelude.{List, ◌∷◌, Bool, ◌&&◌, Option, is_none, filter_map, slice_get}
use Rattle.avro_schema.specs.declared.node.Field.{Field}
use Rattle.avro_schema.specs.Defaults.{field_named}

-- the writer's field that a reader's field is paired with: that of its name, else of its first alias that has one
abbrev pub partner : List Field → Field → Option Field
partner writer f = slice_get (filter_map (field_named writer) (f.name ∷ f.aliases)) 0

-- no field of the writer to read, and no default
abbrev pub lacks_value : List Field → Field → Bool
lacks_value writer f = is_none (partner writer f) && is_none f.default
